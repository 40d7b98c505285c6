-- Lists of grants as they grow.
use Rattle.std.proofs.Common.{◌≡◌, ◌∙◌, ℕ, ◌+◌, ◌<◌, Bool, true, false, cond, not, eqb, List, [], ◌∷◌, ◌++◌, length, take, get_or, refl, sym, ap, append_assoc, arith, add-one}
use Rattle.std.specs.List.{flat_map}
use Rattle.std.proofs.lemmas.List.{append-nil}
use Rattle.std.specs.Prelude.{if◌then◌else◌, ◌==◌}
use Rattle.std.proofs.lemmas.Bool.{false≢true}
use Rattle.std.proofs.lemmas.Grind.{flat_map-append}
use Rattle.std.proofs.lemmas.List.{take_more}
use Rattle.access_vectors.specs.declared.class.Class.{Class}
use Rattle.access_vectors.specs.declared.class.Class.TheVariants.{File}
use Rattle.access_vectors.specs.Table.{classes}
use Rattle.audit_allow.specs.declared.grant.Grant.{Grant}
use Rattle.audit_allow.specs.Grants.{joined_below, grant_of}

pub joined_zero : {X : Type 0} (list : ℕ → List X) → joined_below 0 list ≡ []
unfolding joined_below
joined_zero list = refl

pub joined_next : {X : Type 0} (list : ℕ → List X) (n : ℕ) → joined_below (n + 1) list ≡ joined_below n list ++ list n
unfolding joined_below
joined_next list n = rw add-one refl

-- one list more behind those that stand
pub joined_more : {X : Type 0} (list : ℕ → List X) (n : ℕ) (start before after : List X) → before ≡ start ++ joined_below n list → after ≡ before ++ list n → after ≡ start ++ joined_below (n + 1) list
joined_more list n start before after stood more =
    more ∙ ap (λ front. front ++ list n) stood ∙ append_assoc start (joined_below n list) (list n) ∙ ap (λ back. start ++ back) (sym (joined_next list n))

-- a grant of some permissions, and of none
pub grant_some : (s t : ℕ) (class : Class) (perms : ℕ) → not (eqb perms 0) ≡ true → record { s = s; t = t; class = class; perms = perms } ∷ [] ≡ grant_of s t class perms
grant_some s t class perms some = by_empty (eqb perms 0) refl some
  where
    by_empty : (b : Bool) → eqb perms 0 ≡ b → not b ≡ true → record { s = s; t = t; class = class; perms = perms } ∷ [] ≡ grant_of s t class perms
    by_empty true is some = absurd (false≢true some)
    by_empty false is some = rw is refl

pub grant_none : (s t : ℕ) (class : Class) (perms : ℕ) → not (eqb perms 0) ≡ false → [] ≡ grant_of s t class perms
grant_none s t class perms none = by_empty (eqb perms 0) refl none
  where
    by_empty : (b : Bool) → eqb perms 0 ≡ b → not b ≡ false → [] ≡ grant_of s t class perms
    by_empty true is none = rw is refl
    by_empty false is none = absurd (false≢true (sym none))

-- one class more
pub classes_more : (list : Class → List Grant) (i : ℕ) (start before after : List Grant) → i < length classes → before ≡ start ++ flat_map list (take i classes) → after ≡ before ++ list (get_or classes i File)
    → after ≡ start ++ flat_map list (take (i + 1) classes)
classes_more list i start before after within stood more =
    let next : flat_map list (take (i + 1) classes) ≡ flat_map list (take i classes) ++ list (get_or classes i File) =
    ap (flat_map list) (take_more classes i File within) ∙ flat_map-append list (take i classes) (get_or classes i File ∷ []) ∙ ap (λ last. flat_map list (take i classes) ++ last) (append-nil (list (get_or classes i File))) in
    more ∙ ap (λ front. front ++ list (get_or classes i File)) stood ∙ append_assoc start (flat_map list (take i classes)) (list (get_or classes i File)) ∙ ap (λ back. start ++ back) (sym next)
