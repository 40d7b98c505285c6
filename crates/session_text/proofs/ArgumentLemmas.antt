-- What the words of a call give as its arguments: values of their forms and in their ranges.
use Rattle.std.proofs.Common.{◌≡◌, ◌<◌, ◌≤◌, ℕ, Bool, true, false, List, [], ◌∷◌, length, Option, None, Some, Result, Ok, Err, inl, inr, refl, ap, arith}
use Rattle.std.specs.Prelude.{IfSome, IfOk, if◌then◌else◌, ◌||◌, nat_lt, codes}
use Rattle.std.specs.List.{list_all}
use Rattle.std.specs.Str.{bytes_eq}
use Rattle.std.proofs.lemmas.Bool.Decides.{nat_tests}
use Rattle.flask_sid.specs.Names.{is_name_form, is_long}
use Rattle.flask_sid.specs.Contexts.{context_form, is_long_context}
use Rattle.flask_sid.specs.declared.context.ContextOf.{ContextOf}
use Rattle.text_lines.specs.declared.fault.FaultKind.{FaultKind}
use Rattle.text_lines.specs.declared.fault.FaultKind.TheVariants.{Syntax, Limit, Unknown, Undeclared}
use Rattle.text_lines.specs.Numerals.{numeral_of}
use Rattle.text_lines.specs.ResultSteps.{◌>>=◌, found_or}
use Rattle.policy_model.specs.declared.policy.ContextLine.{ContextLine}
use Rattle.policy_text.proofs.StepLemmas.{unless, after}
use Rattle.file_calls.specs.Formed.{IsPath, IsEntryPath, IsData, IsFileMode}
use Rattle.port_calls.specs.Formed.{IsBindMode, IsConnectMode}
use Rattle.session_forms.specs.FirstFaults.{both}
use Rattle.session_forms.specs.Arguments.{is_root, one_word, two_words, three_words, of_one, of_two, of_three}
use Rattle.session_forms.specs.ArgumentTypes.{in_range, number_of, datum_of, path_of, entry_of, mode_of, bind_mode_of, connect_mode_of}
use Rattle.session_forms.specs.ArgumentForms.{is_word, IsWord, IsPathForm}
use Rattle.session_forms.specs.PathForms.{path_form, is_long_path}
use Rattle.session_forms.specs.Ranges.{is_long_word}
use Rattle.session_forms.proofs.FormedLemmas.{parts_given}
use Rattle.session_forms.proofs.WordLemmas.{AreWords, both as both_true}
use Rattle.session_text.specs.Above.{context_sid, client_number}
use Rattle.session_text.specs.Calls.{context_of, client_of, receiver_of}
use Rattle.session_text.specs.Sessions.{AreWordBytes, IsSidOf}
use Rattle.session_text.specs.declared.session.ClientLine.{ClientLine}
use Rattle.session_text.proofs.LimitLemmas.{neither, path_formed, data_formed, written, client_within, sid_within}

-- what holds of an answer holds of the one that was given
pub if_ok : {X E : Type 0} (r : Result X E) (x : X) (P : X → Type 0) → IfOk r P → r ≡ Ok x → P x
if_ok r x P h is = rw is at h

-- what each arm of a choice gives
pub chosen : {X E : Type 0} (P : X → Type 0) (b : Bool) (x y : Result X E) → IfOk x P → IfOk y P → IfOk (if b then x else y) P
chosen P true x y here there = here
chosen P false x y here there = there

-- what is made of what is given
pub made : {A X E : Type 0} (Q : A → Type 0) (P : X → Type 0) (f : A → X) (r : Result A E) → IfOk r Q → ((a : A) → Q a → P (f a)) → IfOk (r >>= λ a. Ok (f a)) P
made Q P f (Ok a) given each = each a given
made Q P f (Err kind) given each = tt

-- what is found, or else a fault
found_given : {A E : Type 0} (P : A → Type 0) (fault : E) (found : Option A) → IfSome found P → IfOk (found_or fault found) P
found_given P fault None given = tt
found_given P fault (Some a) given = given

-- what two readings give
pub both_given : {A B : Type 0} (P : A → Type 0) (Q : B → Type 0) (one : Result A FaultKind) (other : Result B FaultKind) → IfOk one P → IfOk other Q → IfOk (both one other) (λ said. P said.0 × Q said.1)
both_given P Q (Ok a) (Ok b) here there = (here, there)
both_given P Q (Ok a) (Err kind) here there = tt
both_given P Q (Err kind) (Ok b) here there = tt
both_given P Q (Err kind) (Err other) here there = tt

-- what a reader of words gives
abbrev pub Reads : {A : Type 0} → (A → Type 0) → (List ℕ → Result A FaultKind) → Type 0
Reads P read = (word : List ℕ) → IsWord word → IfOk (read word) P

-- the first word, and those behind it
apart : (word : List ℕ) (words : List (List ℕ)) → AreWords (word ∷ words) → IsWord word × AreWords words
apart word words are = both_true (is_word word) (list_all is_word words) are

-- one argument
pub one_given : {A : Type 0} (P : A → Type 0) (read : List ℕ → Result A FaultKind) (words : List (List ℕ)) → Reads P read → AreWords words → IfOk (of_one read words) P
unfolding one_word
one_given P read [] each are = tt
one_given P read (word ∷ []) each are = each word (apart word [] are).0
one_given P read (word ∷ next ∷ words) each are = tt

-- two arguments
pub two_given : {A B : Type 0} (P : A → Type 0) (Q : B → Type 0) (first : List ℕ → Result A FaultKind) (second : List ℕ → Result B FaultKind) (words : List (List ℕ)) → Reads P first → Reads Q second → AreWords words → IfOk (of_two first second words) (λ said. P said.0 × Q said.1)
unfolding two_words
two_given P Q first second [] one other are = tt
two_given P Q first second (word ∷ []) one other are = tt
two_given P Q first second (word ∷ next ∷ []) one other are =
    let front = apart word (next ∷ []) are in
    both_given P Q (first word) (second next) (one word front.0) (other next (apart next [] front.1).0)
two_given P Q first second (word ∷ next ∷ more ∷ words) one other are = tt

-- three arguments
pub three_given : {A B C : Type 0} (P : A → Type 0) (Q : B → Type 0) (R : C → Type 0) (first : List ℕ → Result A FaultKind) (second : List ℕ → Result B FaultKind) (third : List ℕ → Result C FaultKind) (words : List (List ℕ)) → Reads P first → Reads Q second → Reads R third → AreWords words → IfOk (of_three first second third words) (λ said. P said.0 × (Q said.1.0 × R said.1.1))
unfolding three_words
three_given P Q R first second third [] one other last are = tt
three_given P Q R first second third (word ∷ []) one other last are = tt
three_given P Q R first second third (word ∷ next ∷ []) one other last are = tt
three_given P Q R first second third (word ∷ next ∷ more ∷ []) one other last are =
    let front = apart word (next ∷ more ∷ []) are in
    let middle = apart next (more ∷ []) front.1 in
    both_given P (λ said. Q said.0 × R said.1) (first word) (both (second next) (third more)) (one word front.0)
    (both_given Q R (second next) (third more) (other next middle.0) (last more (apart more [] middle.1).0))
three_given P Q R first second third (word ∷ next ∷ more ∷ others ∷ words) one other last are = tt

-- a call that is made of one argument
pub made_one : {A X : Type 0} (P : A → Type 0) (R : X → Type 0) (f : A → X) (read : List ℕ → Result A FaultKind) (words : List (List ℕ)) → Reads P read → AreWords words → ((a : A) → P a → R (f a)) → IfOk (of_one read words >>= λ said. Ok (f said)) R
made_one P R f read words reads are each = made P R f (of_one read words) (one_given P read words reads are) each

-- of two
pub made_two : {A B X : Type 0} (P : A → Type 0) (Q : B → Type 0) (R : X → Type 0) (f : A → B → X) (first : List ℕ → Result A FaultKind) (second : List ℕ → Result B FaultKind) (words : List (List ℕ)) → Reads P first → Reads Q second → AreWords words
    → ((a : A) (b : B) → P a → Q b → R (f a b)) → IfOk (of_two first second words >>= λ said. Ok (f said.0 said.1)) R
made_two {A = A} {B = B} P Q R f first second words one other are each =
    made (λ (said : A × B). P said.0 × Q said.1) R (λ (said : A × B). f said.0 said.1) (of_two first second words) (two_given P Q first second words one other are) (λ said is. each said.0 said.1 is.0 is.1)

-- and of three
pub made_three : {A B C X : Type 0} (P : A → Type 0) (Q : B → Type 0) (T : C → Type 0) (R : X → Type 0) (f : A → B → C → X) (first : List ℕ → Result A FaultKind) (second : List ℕ → Result B FaultKind) (third : List ℕ → Result C FaultKind) (words : List (List ℕ)) → Reads P first → Reads Q second → Reads T third → AreWords words
    → ((a : A) (b : B) (c : C) → P a → Q b → T c → R (f a b c)) → IfOk (of_three first second third words >>= λ said. Ok (f said.0 said.1.0 said.1.1)) R
made_three {A = A} {B = B} {C = C} P Q T R f first second third words one other last are each =
    made (λ (said : A × (B × C)). P said.0 × (Q said.1.0 × T said.1.1)) R (λ (said : A × (B × C)). f said.0 said.1.0 said.1.1) (of_three first second third words)
    (three_given P Q T first second third words one other last are) (λ said is. each said.0 said.1.0 said.1.1 is.0 is.1.0 is.1.1)

-- a number in its range
pub number_given : (least most : ℕ) (P : ℕ → Type 0) → ((number : ℕ) → least ≤ number → number ≤ most → P number) → Reads P (number_of least most)
unfolding number_of
number_given least most P each word is = by_number (numeral_of word)
  where
    by_number : (found : Option ℕ) → IfOk (found_or Syntax found >>= λ number. in_range least most number) P
    by_number None = tt
    by_number (Some number) = unless (nat_lt number least || nat_lt most number) Limit (Ok number) P (λ within.
        let both_within = neither (nat_lt number least) (nat_lt most number) within in
        each number (grind (arith, nat_tests)) (grind (arith, nat_tests)))

-- a datum
pub datum_given : Reads (λ bytes. IsData bytes × AreWordBytes bytes) datum_of
datum_given word is = unless (is_long_word word) Limit (Ok word) (λ bytes. IsData bytes × AreWordBytes bytes) (λ short. (data_formed word is short, written word is))

-- a path
pub path_given : Reads IsPath path_of
unfolding path_of
path_given word is = by_path (path_form word) (parts_given word)
  where
    by_path : (found : Option (List (List ℕ))) → IfSome found IsPathForm → IfOk (found_or Syntax found >>= λ path. if is_long_path path then Err Limit else Ok path) IsPath
    by_path None formed = tt
    by_path (Some path) formed = unless (is_long_path path) Limit (Ok path) IsPath (λ short. path_formed path formed short)

-- a path that is not the root's
below_root : (path : List (List ℕ)) → IsPath path → IfOk (if is_root path then Err Syntax else Ok path) IsEntryPath
below_root [] formed = tt
below_root (part ∷ parts) formed = record { some = omega arith; formed = formed }

-- a path below the root
pub entry_given : Reads IsEntryPath entry_of
unfolding entry_of
entry_given word is =
    after (path_of word) (λ path. if is_root path then Err Syntax else Ok path) IsEntryPath
    (λ path said. below_root path (if_ok (path_of word) path IsPath (path_given word is) said))

-- the modes
pub mode_given : Reads IsFileMode mode_of
unfolding mode_of
mode_given word is =
    chosen IsFileMode (bytes_eq word (codes "r")) _ _ (omega arith, omega arith)
    (chosen IsFileMode (bytes_eq word (codes "w")) _ _ (omega arith, omega arith)
    (chosen IsFileMode (bytes_eq word (codes "a")) _ _ (omega arith, omega arith)
    (chosen IsFileMode (bytes_eq word (codes "rw")) _ _ (omega arith, omega arith)
    (chosen IsFileMode (bytes_eq word (codes "ra")) _ _ (omega arith, omega arith)
    (chosen IsFileMode (bytes_eq word (codes "wa")) _ _ (omega arith, omega arith)
    (chosen IsFileMode (bytes_eq word (codes "rwa")) (Ok 7) (Err Syntax) (omega arith, omega arith) tt))))))

pub bind_mode_given : Reads IsBindMode bind_mode_of
unfolding bind_mode_of
bind_mode_given word is =
    chosen IsBindMode (bytes_eq word (codes "b")) _ _ (inl refl) (chosen IsBindMode (bytes_eq word (codes "br")) (Ok 3) (Err Syntax) (inr refl) tt)

pub connect_mode_given : Reads IsConnectMode connect_mode_of
unfolding connect_mode_of
connect_mode_given word is =
    chosen IsConnectMode (bytes_eq word (codes "c")) _ _ (inl refl) (chosen IsConnectMode (bytes_eq word (codes "cs")) (Ok 12) (Err Syntax) (inr refl) tt)

-- a declared context
pub context_given : (contexts : List ContextLine) → Reads (IsSidOf contexts) (context_of contexts)
unfolding context_of
context_given contexts word is = by_context (context_form word)
  where
    by_context : (found : Option (ContextOf (List ℕ))) → IfOk (found_or Syntax found >>= λ context. if is_long_context context then Err Limit else found_or Undeclared (context_sid contexts context)) (IsSidOf contexts)
    by_context None = tt
    by_context (Some context) = unless (is_long_context context) Limit (found_or Undeclared (context_sid contexts context)) (IsSidOf contexts) (λ short. found_given (IsSidOf contexts) Undeclared (context_sid contexts context) (sid_within contexts context))

-- the client of a name
pub client_given : (clients : List ClientLine) (word : List ℕ) → IfOk (client_of clients word) (λ client. client < length clients)
unfolding client_of
client_given clients word =
    unless (is_long word) Limit (found_or Unknown (client_number clients word)) (λ client. client < length clients)
    (λ short. found_given (λ client. client < length clients) Unknown (client_number clients word) (client_within clients word))

pub receiver_given : (clients : List ClientLine) → Reads (λ client. client < length clients) (receiver_of clients)
unfolding receiver_of
receiver_given clients word is = chosen (λ client. client < length clients) (is_name_form word) (client_of clients word) (Err Syntax) (client_given clients word) tt

-- a client that was read is the one of that name
found_is : (fault : FaultKind) (found : Option ℕ) (client : ℕ) → found_or fault found ≡ Ok client → found ≡ Some client
found_is fault None client is = cc
found_is fault (Some other) client is = let same : other ≡ client = cc in ap Some same

pub client_is : (clients : List ClientLine) (word : List ℕ) (client : ℕ) → client_of clients word ≡ Ok client → client_number clients word ≡ Some client
unfolding client_of
client_is clients word client is = by_length (is_long word) is
  where
    by_length : (long : Bool) → (if long then Err Limit else found_or Unknown (client_number clients word)) ≡ Ok client → client_number clients word ≡ Some client
    by_length true is = cc
    by_length false is = found_is Unknown (client_number clients word) client is
