-- What a vector that is known says of the permissions of a mode.
use Rattle.std.proofs.Common.{◌≡◌, ℕ, Bool, true, false, List, [], ◌∷◌, All, Option, Some, None, is_some, bit_and, refl, sym, ap, ◌∙◌}
use Rattle.std.specs.Prelude.{◌==◌, ◌&&◌, ◌||◌, if◌then◌else◌}
use Rattle.std.specs.List.{list_any}
use Rattle.std.proofs.lemmas.Bool.{false≢true, eqb-true, eq-eqb}
use Rattle.std.proofs.lemmas.List.Elements.{All-head, All-tail}
use Rattle.access_vectors.specs.Table.{Permission}
use Rattle.access_vectors.specs.Vectors.{has}
use Rattle.access_vectors.specs.declared.asked.Asked.{Asked}
use Rattle.access_vectors.specs.declared.class.Class.{Class}
use Rattle.access_vectors.proofs.Members.{has-both, has-empty, same_from_has}
use Rattle.mode_questions.specs.Requests.{Request, Asking, question_of, then_asking, asking_mode, judging}
use Rattle.mode_questions.specs.Covered.{IsModeOf}

-- the permissions of the mode are in one vector where they are in the other
abbrev pub AgreeOn : ℕ → ℕ → ℕ → Type 0
AgreeOn mode one other = (index : ℕ) → has mode index ≡ true → has one index ≡ has other index

-- a vector that agrees with that of the pair, on the permissions of the mode, gives the answers of the decider
pub judging_is : (r : Request) (t : ℕ) (class : Class) (mode known : ℕ) (perms : List Permission)
    → All (λ perm. perm.class ≡ class) perms → AgreeOn mode known (r.decisions.vector r.version r.subject t class)
    → judging known r.subject t mode perms ≡ asking_mode r t mode perms
judging_is r t class mode known [] classes agree = refl
judging_is r t class mode known (perm ∷ perms) classes agree =
    let rest = judging_is r t class mode known perms (All-tail (λ one. one.class ≡ class) perm perms classes) agree in
    let same : perm.class ≡ class = All-head (λ one. one.class ≡ class) perm perms classes in
    let s = r.subject in
    elim (has mode perm.index) as (λ (b : Bool). has mode perm.index ≡ b
    → (if b then then_asking (record { s = s; t = t; perm = perm; yes = has known perm.index }) (judging known s t mode perms) else judging known s t mode perms)
    ≡ (if b then then_asking (question_of r t perm) (asking_mode r t mode perms) else asking_mode r t mode perms)) [
      | true ↦ λ held i. then_asking
          (record { s = s; t = t; perm = perm; yes = (agree perm.index held ∙ ap (λ (c : Class). has (r.decisions.vector r.version s t c) perm.index) (sym same)) i }) (rest i)
      | false ↦ λ lacks. rest
    ] refl

-- the whole mode agrees with a vector that has the whole of it
pub whole_agrees : (mode vector : ℕ) → bit_and mode vector ≡ mode → AgreeOn mode mode vector
whole_agrees mode vector whole index held =
    held ∙ sym (sym (ap (λ (b : Bool). b && has vector index) held) ∙ sym (has-both mode vector index) ∙ ap (λ bits. has bits index) whole ∙ held)

-- usable bits that are those of the mode say that the vector has the whole of it
pub whole_of : (bits mode vector : ℕ) → bits ≡ (if bit_and mode vector == mode then mode else 0) → bits ≡ mode → bit_and mode vector ≡ mode
whole_of bits mode vector usable same =
    elim (bit_and mode vector == mode) as (λ (b : Bool). (bit_and mode vector == mode) ≡ b → bits ≡ (if b then mode else 0) → bit_and mode vector ≡ mode) [
      | true ↦ λ whole is. eqb-true (bit_and mode vector) mode whole
      | false ↦ λ half is.
          let none : mode ≡ 0 = sym same ∙ is in
          same_from_has (bit_and mode vector) mode (λ index. has-both mode vector index
          ∙ ap (λ bits. has bits index && has vector index) none ∙ ap (λ (b : Bool). b && has vector index) (has-empty index)
          ∙ sym (has-empty index) ∙ ap (λ bits. has bits index) (sym none))
    ] refl usable

-- the usable bits of a mode of which a vector has the whole
pub bits_of_whole : (bits mode vector : ℕ) → bits ≡ (if bit_and mode vector == mode then mode else 0) → bit_and mode vector ≡ mode → bits ≡ mode
bits_of_whole bits mode vector usable whole = usable ∙ ap (λ (b : Bool). if b then mode else 0) (eq-eqb (bit_and mode vector) mode whole)

some_none : {A : Type 0} (x : A) → Some x ≡ None → ⊥
some_none x e = false≢true (sym (ap is_some e))

-- a question with this answer before the rest of a mode
abbrev told : Bool → Asked → Asking → Asking
told allowed q rest = if allowed then record { denied = rest.denied; asked = q ∷ rest.asked } else record { denied = Some q.perm; asked = q ∷ [] }

-- where no permission is denied, the first that is asked is allowed
yes_first : (q : Asked) (rest : Asking) → (then_asking q rest).denied ≡ None → q.yes ≡ true
yes_first q rest none =
    elim q.yes as (λ (b : Bool). (told b q rest).denied ≡ None → b ≡ true) [
      | true ↦ λ is. refl
      | false ↦ λ is. absurd (some_none q.perm is)
    ] none

-- and nor is one of the rest denied
none_then : (q : Asked) (rest : Asking) → (then_asking q rest).denied ≡ None → rest.denied ≡ None
none_then q rest none =
    elim q.yes as (λ (b : Bool). (told b q rest).denied ≡ None → rest.denied ≡ None) [
      | true ↦ λ is. is
      | false ↦ λ is. absurd (some_none q.perm is)
    ] none

none_after : (b : Bool) (q : Asked) (rest : Asking) → (if b then then_asking q rest else rest).denied ≡ None → rest.denied ≡ None
none_after true q rest none = none_then q rest none
none_after false q rest none = none

-- where no permission is denied, the vector has each permission of the mode that was asked
allowed_where_none : (known s t mode : ℕ) (perms : List Permission) → (judging known s t mode perms).denied ≡ None
    → (index : ℕ) → has mode index ≡ true → list_any (λ perm. perm.index == index) perms ≡ true → has known index ≡ true
allowed_where_none known s t mode [] none index held asked = absurd (false≢true asked)
allowed_where_none known s t mode (perm ∷ perms) none index held asked =
    let q : Asked = record { s = s; t = t; perm = perm; yes = has known perm.index } in
    let rest = judging known s t mode perms in
    elim (perm.index == index) as (λ (b : Bool). (perm.index == index) ≡ b → (b || list_any (λ one. one.index == index) perms) ≡ true → has known index ≡ true) [
      | true ↦ λ tied is.
          let same : perm.index ≡ index = eqb-true perm.index index tied in
          let in_mode : has mode perm.index ≡ true = ap (has mode) same ∙ held in
          ap (has known) (sym same) ∙ yes_first q rest (sym (ap (λ (b : Bool). (if b then then_asking q rest else rest).denied) in_mode) ∙ none)
      | false ↦ λ apart is. allowed_where_none known s t mode perms (none_after (has mode perm.index) q rest none) index held is
    ] refl asked

-- where no permission of the mode is denied, the vector has the whole of it
pub whole_where_none : (class : Class) (known s t mode : ℕ) (perms : List Permission) → IsModeOf class perms mode → (judging known s t mode perms).denied ≡ None → bit_and mode known ≡ mode
whole_where_none class known s t mode perms covers none =
    same_from_has (bit_and mode known) mode (λ index. has-both mode known index
    ∙ elim (has mode index) as (λ (b : Bool). has mode index ≡ b → (b && has known index) ≡ b) [
      | true ↦ λ held. allowed_where_none known s t mode perms none index held (covers.covered index held)
      | false ↦ λ lacks. refl
    ] refl)

-- what is not there is none
pub none_where_not : (denied : Option Permission) → is_some denied ≡ false → denied ≡ None
none_where_not None none = refl
none_where_not (Some perm) none = absurd (false≢true (sym none))
