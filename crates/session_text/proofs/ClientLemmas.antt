-- A client's place among the clients, of whom no two have one name.
use Rattle.std.proofs.Common.{◌<◌, ltb, length, ◌≡◌, ◌∙◌, inl, inr, arith, ℕ, zero, suc, Bool, true, false, List, [], ◌∷◌, ◌++◌, Some, refl, sym, ap}
use Rattle.std.specs.Prelude.{slice_get}
use Rattle.std.specs.List.{list_any, position, position_or_len}
use Rattle.std.specs.Str.{bytes_eq}
use Rattle.std.proofs.lemmas.Bool.{lt-ltb}
use Rattle.std.proofs.lemmas.Bool.Decides.{nat_tests}
use Rattle.std.proofs.lemmas.Slice.Eq.{bytes_eq-Decides}
use Rattle.policy_model.specs.declared.policy.ContextLine.{ContextLine}
use Rattle.policy_model.specs.Kept.{Grows}
use Rattle.session_text.specs.declared.session.ClientLine.{ClientLine}
use Rattle.session_text.specs.Above.{client_number, has_client}
use Rattle.session_text.specs.Sessions.{MayClient}
use Rattle.session_text.proofs.IndexLemmas.{any_more}

-- below a client of that name there is no other
no_other : (contexts : List ContextLine) (seen clients : List ClientLine) (name : List ℕ) → Grows (MayClient contexts) seen clients → has_client seen name ≡ true → has_client clients name ≡ false
unfolding has_client
no_other contexts seen [] name grown there = refl
no_other contexts seen (client ∷ clients) name grown there = by_name (bytes_eq client.name name) refl (no_other contexts (seen ++ client ∷ []) clients name grown.1 (any_more (λ one. bytes_eq one.name name) seen client (inl there)))
  where
    by_name : (b : Bool) → bytes_eq client.name name ≡ b → list_any (λ one. bytes_eq one.name name) clients ≡ false → list_any (λ one. bytes_eq one.name name) (client ∷ clients) ≡ false
    by_name true same below =
        let free : list_any (λ one. bytes_eq one.name client.name) seen ≡ false = grown.0.new in
        let one_name : client.name ≡ name = (bytes_eq-Decides client.name name).0 same in
        let taken : list_any (λ one. bytes_eq one.name name) seen ≡ false = rw one_name at free in
        let never : true ≡ false = sym there ∙ taken in
        cc
    by_name false same below = rw (same, below) refl

-- a client of that name is there
has_at : (clients : List ClientLine) (place : ℕ) (client : ClientLine) (name : List ℕ) → slice_get clients place ≡ Some client → bytes_eq client.name name ≡ true → has_client clients name ≡ true
unfolding has_client
has_at [] place client name got same = cc
has_at (one ∷ clients) zero client name got same = let is : one ≡ client = cc in rw (is, same) refl
has_at (one ∷ clients) (suc place) client name got same = grind (arith, nat_tests, has_at clients place client name got same)

-- a client is the first of its name
first_named : (contexts : List ContextLine) (seen clients : List ClientLine) (place : ℕ) (client : ClientLine) (name : List ℕ) → Grows (MayClient contexts) seen clients → slice_get clients place ≡ Some client → bytes_eq client.name name ≡ true → (position_or_len (λ one. bytes_eq one.name name) clients ≡ place) × (place < length clients)
unfolding has_client
first_named contexts seen [] place client name grown got same = cc
first_named contexts seen (one ∷ clients) zero client name grown got same =
    let is : one ≡ client = cc in
    let first : bytes_eq one.name name ≡ true = rw is same in
    (rw first refl, omega arith)
first_named contexts seen (one ∷ clients) (suc place) client name grown got same = by_name (bytes_eq one.name name) refl (first_named contexts (seen ++ one ∷ []) clients place client name grown.1 got same)
  where
    by_name : (b : Bool) → bytes_eq one.name name ≡ b → (position_or_len (λ one. bytes_eq one.name name) clients ≡ place) × (place < length clients) → (position_or_len (λ one. bytes_eq one.name name) (one ∷ clients) ≡ suc place) × (suc place < length (one ∷ clients))
    by_name true first below =
        let none = no_other contexts (seen ++ one ∷ []) clients name grown.1 (any_more (λ other. bytes_eq other.name name) seen one (inr first)) in
        let never : true ≡ false = sym (has_at clients place client name got same) ∙ none in
        cc
    by_name false apart below = (rw (apart, below.0) (omega arith), omega (arith, below.1))

-- a client at a place has that place as its number
pub client_at : (contexts : List ContextLine) (clients : List ClientLine) (place : ℕ) (client : ClientLine) (name : List ℕ) → Grows (MayClient contexts) [] clients → slice_get clients place ≡ Some client → bytes_eq client.name name ≡ true → (client_number clients name ≡ Some place) × (place < length clients)
unfolding client_number
client_at contexts clients place client name grown got same =
    let first = first_named contexts [] clients place client name grown got same in
    let within : ltb (position_or_len (λ one. bytes_eq one.name name) clients) (length clients) ≡ true = lt-ltb _ _ (rw first.0 first.1) in
    let placed : position (λ (one : ClientLine). bytes_eq one.name name) clients ≡ Some (position_or_len (λ one. bytes_eq one.name name) clients) = rw within refl in
    (placed ∙ ap Some first.0, first.1)
