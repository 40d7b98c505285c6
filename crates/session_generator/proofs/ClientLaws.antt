-- The clients of a session that is made.
use Rattle.std.proofs.Common.{◌≡◌, ◌<◌, ◌≤◌, ◌^◌, ◌+◌, ◌%◌, ℕ, zero, suc, false, [], ◌∷◌, ◌++◌, length, refl, ap, arith, length-append, add-one}
use Rattle.std.specs.Prelude.{◌==◌, decimal}
use Rattle.std.specs.Str.{bytes_eq}
use Rattle.std.proofs.lemmas.Bool.{cond_both, false_from_ne_true}
use Rattle.std.proofs.lemmas.Slice.Eq.{bytes_eq-Decides}
use Rattle.policy_model.specs.Kept.{Grows}
use Rattle.policy_model.proofs.GrowsLemmas.{grows_snoc, none_snoc}
use Rattle.session_text.specs.Above.{has_client}
use Rattle.session_text.specs.Sessions.{IsSidOf, MayClient}
use Rattle.session_generator.specs.Generated.{policy, client_of, clients_to}
use Rattle.session_generator.proofs.PolicyLaws.{is_sid}
use Rattle.session_generator.proofs.NumberedLaws.{same_digits, numbered_name}

-- how many there are
pub clients_count : (n : ℕ) → length (clients_to n) ≡ n
clients_count zero = refl
clients_count (suc n) =
    let count = clients_count n in
    let both = length-append (clients_to n) (client_of (n + 1) ∷ []) in
    omega (arith, count, both)

-- one client more
pub clients_more : (n : ℕ) → clients_to (n + 1) ≡ clients_to n ++ client_of (n + 1) ∷ []
clients_more n = ap clients_to (add-one n)

-- two clients of other numbers have other names
other_name : (m n : ℕ) → m < n → n < 2 ^ 32 → bytes_eq (client_of m).name (client_of n).name ≡ false
other_name m n less small =
    false_from_ne_true (bytes_eq (client_of m).name (client_of n).name) (λ same.
    let digits : decimal m ≡ decimal n = (bytes_eq-Decides (decimal m) (decimal n)).0 same in
    let one : m ≡ n = same_digits m n (omega arith) small digits in
    omega arith)

-- a client has a name that no client before it has
new_name : (m n : ℕ) → m < n → n < 2 ^ 32 → has_client (clients_to m) (client_of n).name ≡ false
unfolding has_client
new_name zero n less small = refl
new_name (suc m) n less small =
    none_snoc (λ client. bytes_eq client.name (client_of n).name) (clients_to m) (client_of (m + 1)) (new_name m n (omega arith) small) (other_name (m + 1) n (omega arith) small)

-- the context of a client is one of the first two
client_sid : (i : ℕ) → IsSidOf policy.contexts (client_of i).sid
client_sid i = cond_both (i % 2 == 1) 1 2 (λ sid. IsSidOf policy.contexts sid) (λ odd. is_sid 1 (omega arith) (omega arith)) (λ even. is_sid 2 (omega arith) (omega arith))

-- the next client may come
next_client : (n : ℕ) → n < 62 → MayClient policy.contexts (clients_to n) (client_of (n + 1))
next_client n few = record {
  few = rw (clients_count n) few;
  named = numbered_name 99 (n + 1) refl (omega arith);
  other = refl;
  new = new_name n (n + 1) (omega arith) (omega arith);
  sid = client_sid (n + 1);
}

pub clients_grow : (n : ℕ) → n ≤ 62 → Grows (MayClient policy.contexts) [] (clients_to n)
clients_grow zero few = tt
clients_grow (suc n) few =
    grows_snoc (MayClient policy.contexts) [] (clients_to n) (client_of (n + 1)) (clients_grow n (omega arith)) (next_client n (omega arith))
