-- A text of three parts, written one after another.
use Rattle.std.proofs.Common.{◌≡◌, ◌∙◌, ◌+◌, ◌-◌, ◌<◌, ◌≤◌, ℕ, List, ◌∷◌, [], ◌++◌, length, Option, take, drop, get_or, refl, sym, ap, add-one, append-nil, append_assoc, take-append-drop, arith}
use Rattle.std.proofs.Math.Seq.{take-suc, take-length}
use Rattle.std.specs.List.{flat_map}
use Rattle.std.proofs.lemmas.Grind.{flat_map-append}
use Rattle.flask_io.specs.Streams.{Adds}
use Rattle.flask_sid.specs.declared.context.ContextOf.{ContextOf}
use Rattle.audit_log.specs.Logs.{of_client}
use Rattle.audit_log.specs.Texts.{line_text}
use Rattle.audit_log.specs.declared.audited.AuditLine.{AuditLine}
use Rattle.session_text.specs.declared.session.ClientLine.{ClientLine}
use Rattle.run_output.specs.Logged.{logged_text}
use Rattle.run_output.specs.Writing.{AddsFront, IsOffered}
use Rattle.run_output.proofs.WritingLemmas.{nothing_written, written_more, front_of_part, adds_more, all_written, last_failed}

-- of the first part a front was written
pub cut_first : (a b : Option (List ℕ)) (x rest : List ℕ) → AddsFront a b x → AddsFront a b (x ++ rest)
cut_first a b x rest first = front_of_part a a b (x ++ rest) x rest (nothing_written a (x ++ rest)) first

-- the first part was written
behind_first : (a b : Option (List ℕ)) (x rest : List ℕ) → Adds a b x → IsOffered a b (x ++ rest) rest
behind_first a b x rest first = written_more a a b (x ++ rest) x rest (nothing_written a (x ++ rest)) first

-- of the second part a front was written
pub cut_second : (a b c : Option (List ℕ)) (x y z : List ℕ) → Adds a b x → AddsFront b c y → AddsFront a c (x ++ (y ++ z))
cut_second a b c x y z first second = front_of_part a b c (x ++ (y ++ z)) y z (behind_first a b x (y ++ z) first) second

-- the first two parts were written
behind_second : (a b c : Option (List ℕ)) (x y z : List ℕ) → Adds a b x → Adds b c y → IsOffered a c (x ++ (y ++ z)) z
behind_second a b c x y z first second = written_more a b c (x ++ (y ++ z)) y z (behind_first a b x (y ++ z) first) second

-- of the third part a front was written
pub cut_third : (a b c d : Option (List ℕ)) (x y z : List ℕ) → Adds a b x → Adds b c y → AddsFront c d z → AddsFront a d (x ++ (y ++ z))
cut_third a b c d x y z first second third = last_failed a c d (x ++ (y ++ z)) z (behind_second a b c x y z first second) third

-- all three were written
pub all_three : (a b c d : Option (List ℕ)) (x y z : List ℕ) → Adds a b x → Adds b c y → Adds c d z → Adds a d (x ++ (y ++ z))
all_three a b c d x y z first second third = all_written a c d (x ++ (y ++ z)) z (behind_second a b c x y z first second) third

-- what the members of a list write, with one more
pub part_more : {X : Type 0} (text : X → List ℕ) (xs : List X) (i : ℕ) (x : X) → i < length xs → x ≡ get_or xs i x → flat_map text (take (i + 1) xs) ≡ flat_map text (take i xs) ++ text x
part_more text xs i x within is =
    let one : take (i + 1) xs ≡ take i xs ++ x ∷ [] = rw add-one (take-suc xs i x within ∙ ap (λ y. take i xs ++ y ∷ []) (sym is)) in
    ap (flat_map text) one ∙ flat_map-append text (take i xs) (x ∷ []) ∙ ap (λ t. flat_map text (take i xs) ++ t) (append-nil (text x))

-- what all write, by what the first ones write
pub all_parts : {X : Type 0} (text : X → List ℕ) (xs : List X) (i : ℕ) → flat_map text xs ≡ flat_map text (take i xs) ++ flat_map text (drop i xs)
all_parts text xs i = ap (flat_map text) (sym (take-append-drop i xs)) ∙ flat_map-append text (take i xs) (drop i xs)

-- what the first members wrote is a front of what all write
pub list_front : {X : Type 0} (text : X → List ℕ) (xs : List X) (i : ℕ) (a b : Option (List ℕ)) → Adds a b (flat_map text (take i xs)) → AddsFront a b (flat_map text xs)
list_front text xs i a b added = (flat_map text (take i xs), flat_map text (drop i xs), all_parts text xs i, added)

regroup : (p f r q : List ℕ) → p ++ (f ++ r) ++ q ≡ p ++ f ++ (r ++ q)
regroup p f r q = rw (append_assoc p (f ++ r) q, append_assoc f r q, append_assoc p f (r ++ q)) refl

-- the first members were written, and of the next one a front
pub list_cut : {X : Type 0} (text : X → List ℕ) (xs : List X) (i : ℕ) (x : X) (a b c : Option (List ℕ)) → i < length xs → x ≡ get_or xs i x
    → Adds a b (flat_map text (take i xs)) → AddsFront b c (text x) → AddsFront a c (flat_map text xs)
list_cut text xs i x a b c within is added cut =
    let written = flat_map text (take i xs) in
    let behind = flat_map text (drop (i + 1) xs) in
    let whole = all_parts text xs (i + 1) ∙ ap (λ front. front ++ behind) (part_more text xs i x within is ∙ ap (λ t. written ++ t) cut.2) ∙ regroup written cut.0 cut.1 behind in
    (written ++ cut.0, cut.1 ++ behind, whole, adds_more a b c written cut.0 added cut.3)

-- of a last part a front was written
pub cut_last : (a b c : Option (List ℕ)) (x y : List ℕ) → Adds a b x → AddsFront b c y → AddsFront a c (x ++ y)
cut_last a b c x y first cut = last_failed a b c (x ++ y) y (behind_first a b x y first) cut

-- what is printed of a log for clients is what is printed for the first, and for the others
pub logged_parts : (contexts : List (ContextOf (List ℕ))) (log : List (List AuditLine)) (n : ℕ) (clients : List ClientLine) (client : ClientLine) → 1 ≤ length clients → client ≡ get_or clients 0 client
    → logged_text contexts log n clients ≡ flat_map (line_text contexts client.name) (of_client log n) ++ logged_text contexts log (n + 1) (take (length clients - 1) (drop 1 clients))
logged_parts contexts log n [] client some is = absurd (omega (arith, some))
logged_parts contexts log n (first ∷ clients) client some is =
    let count : length (first ∷ clients) - 1 ≡ length clients = omega arith in
    let others : take (length (first ∷ clients) - 1) clients ≡ clients = ap (λ n. take n clients) count ∙ take-length clients in
    ap (λ (c : ClientLine). flat_map (line_text contexts c.name) (of_client log n) ++ logged_text contexts log (n + 1) clients) (sym is)
    ∙ ap (λ (rest : List ClientLine). flat_map (line_text contexts client.name) (of_client log n) ++ logged_text contexts log (n + 1) rest) (sym others)
