-- Where nothing is pending no slot is stale.
use Rattle.std.proofs.Common.{◌≡◌, ℕ, false, List, [], ◌∷◌, filter, Option, refl, sym, ap, ◌∙◌}
use Rattle.std.specs.FinMap as maps
use Rattle.access_vectors.specs.Decisions.{Decisions}
use Rattle.access_vectors.proofs.MappedLemmas.{mapped_same}
use Rattle.access_vectors.specs.declared.class.Class.{Class}
use Rattle.access_vectors.specs.declared.phase.Phase.{Phase}
use Rattle.access_vectors.specs.declared.phase.Phase.TheVariants.{Settled}
use Rattle.access_vectors.specs.Stale.{Pair, Follows, stale_slots, now_following}

filter_none : {A : Type 0} (xs : List A) → filter (λ x. false) xs ≡ []
filter_none [] = refl
filter_none (x ∷ xs) = filter_none xs

-- where nothing is pending no slot is stale
pub none_stale : (stale : List ℕ) (d : Decisions) (class : Class) (phase kept : Phase) (pair_of : ℕ → Option Pair) (follows : Follows) (settled version : ℕ)
    → stale ≡ stale_slots d class phase pair_of follows → phase ≡ kept → kept ≡ Settled settled version → stale ≡ []
none_stale stale d class phase kept pair_of follows settled version stale_is same is =
    stale_is ∙ ap (λ (p : Phase). stale_slots d class p pair_of follows) (same ∙ is) ∙ filter_none (maps.keys follows)

-- where no slot is listed every slot follows what it did
pub now_following_none : (places : List ℕ) (number : ℕ) (follows : Follows) → places ≡ [] → follows ≡ now_following places number follows
now_following_none [] number follows none = sym (mapped_same follows)
now_following_none (place ∷ places) number follows none = cc
