-- Questions and their answers.
use Rattle.std.specs.Prelude.{◌≡◌, ℕ, ◌+◌, ◌-◌, ◌^◌, min, List, [], ◌∷◌, ◌++◌, Option, Some, None}
use Rattle.access_vectors.specs.declared.class.Class.{Class}
use Rattle.access_vectors.specs.declared.asked.Asked.{Asked}
use Rattle.access_vectors.specs.Table.{Permission}
use Rattle.access_vectors.specs.Vectors.{has}
use Rattle.access_vectors.specs.Decisions.{Decisions}

-- the question whether s has the permission on t, with its answer in that version
abbrev pub question : Decisions → ℕ → ℕ → ℕ → Permission → Asked
question d version s t perm =
    record { s = s; t = t; perm = perm; yes = has (d.vector version s t perm.class) perm.index }

-- what a cache looks a vector up by
pub record Key : Type 0 where
  pub source : ℕ
  pub target : ℕ
  pub class : Class

-- the keys, where they are told, with one more
abbrev pub with_key : Option (List Key) → ℕ → ℕ → Class → Option (List Key)
with_key None s t class = None
with_key (Some keys) s t class = Some (keys ++ record { source = s; target = t; class = class } ∷ [])

-- the keys, where they are told, with those of questions
abbrev pub with_keys_of : Option (List Key) → List Asked → Option (List Key)
with_keys_of keys [] = keys
with_keys_of keys (q ∷ qs) = with_keys_of (with_key keys q.s q.t q.perm.class) qs

-- one more, but for the greatest number of 64 bits, which stays
abbrev pub counted : ℕ → ℕ
counted n = min (n + 1) (2 ^ 64 - 1)

-- two values of an asker ask one decider at one version
pub record Alike {Asker : Type 0} (decides : Asker → Decisions) (version : Asker → ℕ) (a b : Asker) : Type 0 where
  pub decider : decides b ≡ decides a
  pub at : version b ≡ version a
