-- What stands at a place of a list is found there again: contexts by their names, clients by theirs.
use Rattle.std.proofs.Common.{◌≡◌, ◌∙◌, ◌<◌, ◌≤◌, ◌+◌, ◌-◌, ℕ, suc, zero, Bool, true, false, ltb, length, length-append, List, [], ◌∷◌, ◌++◌, Some, Ok, refl, sym, arith}
use Rattle.std.specs.Prelude.{slice_get, codes}
use Rattle.std.specs.List.{list_any, position, position_or_len}
use Rattle.std.specs.Str.{bytes_eq}
use Rattle.std.proofs.lemmas.Bool.{or_parts, lt-ltb}
use Rattle.std.proofs.lemmas.List.Folds.{list_any-append}
use Rattle.std.proofs.lemmas.Option.{slice_get_within}
use Rattle.std.proofs.lemmas.Slice.Eq.{bytes_eq-Decides}
use Rattle.flask_sid.specs.Names.{is_name}
use Rattle.flask_sid.specs.Contexts.{context_form, is_long_context}
use Rattle.flask_sid.specs.declared.context.ContextOf.{ContextOf}
use Rattle.text_print.specs.Printed.{is_word}
use Rattle.text_print.proofs.NameLaws.{form_of_name, context_form_text, context_is_word}
use Rattle.policy_model.specs.declared.policy.ContextLine.{ContextLine}
use Rattle.policy_model.specs.declared.policy.PolicyParts.{PolicyParts}
use Rattle.policy_model.specs.Declarations.{same_context, has_context, context_limit}
use Rattle.policy_model.specs.Kept.{Grows, MayContext, Grown, is_kind_name}
use Rattle.policy_print.specs.Same.{IsSamePolicy}
use Rattle.policy_print.proofs.SameLaws.{context_place_same}
use Rattle.policy_print.proofs.FieldLaws.{declared_kind, kind_form, kind_short, name_short}
use Rattle.session_text.specs.declared.session.ClientLine.{ClientLine}
use Rattle.session_text.specs.Above.{context_sid, client_number, has_client}
use Rattle.session_text.specs.Calls.{context_of, client_of, receiver_of}
use Rattle.session_text.specs.Sessions.{IsSidOf, MayClient}
use Rattle.session_print.specs.Words.{context_word, client_word}

-- what may follow others at a place is none of those before it
later_new : {X : Type 0} (May : List X → X → Type 0) (same : X → X → Bool) → ((seen : List X) (x : X) → May seen x → list_any (λ y. same y x) seen ≡ false) → (seen xs : List X) (i : ℕ) (x : X) → Grows May seen xs → slice_get xs i ≡ Some x → list_any (λ y. same y x) seen ≡ false
later_new May same new seen [] i x grown at = cc
later_new May same new seen (y ∷ ys) zero x grown at =
    let is : y ≡ x = cc in
    rw is at (new seen y grown.0)
later_new May same new seen (y ∷ ys) (suc i) x grown at =
    let later = later_new May same new (seen ++ y ∷ []) ys i x grown.1 at in
    (or_parts (list_any (λ z. same z x) seen) (list_any (λ z. same z x) (y ∷ [])) (sym (list_any-append (λ z. same z x) seen (y ∷ [])) ∙ later)).0

-- the first place that passes is that of the member itself
first_place : {X : Type 0} (May : List X → X → Type 0) (same : X → X → Bool) → ((x : X) → same x x ≡ true) → ((seen : List X) (x : X) → May seen x → list_any (λ y. same y x) seen ≡ false) → (seen xs : List X) (i : ℕ) (x : X) → Grows May seen xs → slice_get xs i ≡ Some x → position_or_len (λ y. same y x) xs ≡ i
first_place May same itself new seen [] i x grown at = cc
first_place May same itself new seen (y ∷ ys) zero x grown at =
    let is : y ≡ x = cc in
    let passes : same y x ≡ true = rw is (itself x) in
    rw passes refl
first_place May same itself new seen (y ∷ ys) (suc i) x grown at =
    let later = later_new May same new (seen ++ y ∷ []) ys i x grown.1 at in
    let apart = or_parts (list_any (λ z. same z x) seen) (list_any (λ z. same z x) (y ∷ [])) (sym (list_any-append (λ z. same z x) seen (y ∷ [])) ∙ later) in
    let fails : same y x ≡ false = (or_parts (same y x) false apart.1).0 in
    let rest = first_place May same itself new (seen ++ y ∷ []) ys i x grown.1 at in
    rw (fails, rest) (omega arith)

-- so it is found there
found_there : {X : Type 0} (May : List X → X → Type 0) (same : X → X → Bool) → ((x : X) → same x x ≡ true) → ((seen : List X) (x : X) → May seen x → list_any (λ y. same y x) seen ≡ false) → (xs : List X) (i : ℕ) (x : X) → Grows May [] xs → slice_get xs i ≡ Some x → position (λ y. same y x) xs ≡ Some i
found_there May same itself new xs i x grown at =
    let place = first_place May same itself new [] xs i x grown at in
    rw (place, lt-ltb i (length xs) (slice_get_within xs i x at)) refl

-- what each member may do before others, it may do
at_place : {X : Type 0} (May : List X → X → Type 0) (P : X → Type 0) → ((seen : List X) (x : X) → May seen x → P x) → (seen xs : List X) (i : ℕ) (x : X) → Grows May seen xs → slice_get xs i ≡ Some x → P x
at_place May P holds seen [] i x grown at = cc
at_place May P holds seen (y ∷ ys) zero x grown at =
    let is : y ≡ x = cc in
    rw is at (holds seen y grown.0)
at_place May P holds seen (y ∷ ys) (suc i) x grown at = at_place May P holds (seen ++ y ∷ []) ys i x grown.1 at

-- a place within a list has a member
pub member_at : {X : Type 0} (xs : List X) (i : ℕ) → i < length xs → (x : X) × (slice_get xs i ≡ Some x)
member_at [] i within = absurd (omega arith)
member_at (x ∷ xs) zero within = (x, refl)
member_at (x ∷ xs) (suc i) within = member_at xs i (omega arith)

-- a text is itself
itself_eq : (bytes : List ℕ) → bytes_eq bytes bytes ≡ true
itself_eq bytes = (bytes_eq-Decides bytes bytes).1 refl

-- the word of a declared context, and the context that it is
pub record IsContextWord (contexts : List ContextLine) (sid : ℕ) (word : List ℕ) (context : ContextOf (List ℕ)) : Type 0 where
  pub is_word : is_word word ≡ true
  pub read : context_form word ≡ Some context
  pub short : is_long_context context ≡ false
  pub place : position (λ line. same_context line.context context) contexts ≡ Some (sid - 1)

-- the names of a context are not too long
context_short : (context : ContextOf (List ℕ)) → is_name context.user ≡ true → is_name context.role ≡ true → is_kind_name context.kind ≡ true → is_long_context context ≡ false
unfolding is_long_context
context_short context user role kind = rw (name_short context.user user, name_short context.role role, kind_short context.kind kind) refl

-- a context is new where it may stand
context_new : (policy : PolicyParts) (seen : List ContextLine) (line : ContextLine) → MayContext policy.kinds seen line → list_any (λ other. same_context other.context line.context) seen ≡ false
unfolding has_context
context_new policy seen line may = may.new

-- a context that an identifier stands for, printed
pub context_printed : (policy : PolicyParts) → Grown policy → (sid : ℕ) → IsSidOf policy.contexts sid → (context : ContextOf (List ℕ)) × IsContextWord policy.contexts sid (context_word policy.contexts sid) context
context_printed policy grown sid known =
    let line = member_at policy.contexts (sid - 1) (omega arith) in
    let user = at_place (MayContext policy.kinds) (λ one. is_name one.context.user ≡ true) (λ seen one may. may.user) [] policy.contexts (sid - 1) line.0 grown.contexts line.1 in
    let role = at_place (MayContext policy.kinds) (λ one. is_name one.context.role ≡ true) (λ seen one may. may.role) [] policy.contexts (sid - 1) line.0 grown.contexts line.1 in
    let kind = at_place (MayContext policy.kinds) (λ one. is_kind_name one.context.kind ≡ true) (λ seen one may. declared_kind policy.kinds grown.kinds one.context.kind may.kind) [] policy.contexts (sid - 1) line.0 grown.contexts line.1 in (
      line.0.context,
      record {
        is_word = rw line.1 (context_is_word line.0.context (form_of_name line.0.context.user user) (form_of_name line.0.context.role role) (kind_form line.0.context.kind kind));
        read = rw line.1 (context_form_text line.0.context (form_of_name line.0.context.user user) (form_of_name line.0.context.role role) (kind_form line.0.context.kind kind));
        short = context_short line.0.context user role kind;
        place = found_there (MayContext policy.kinds) (λ one other. same_context one.context other.context) (λ one. rw (itself_eq one.context.user, itself_eq one.context.role, itself_eq one.context.kind) refl) (context_new policy) policy.contexts (sid - 1) line.0 grown.contexts line.1;
      },
    )

-- contexts are at most as many as identifiers
contexts_few : (policy : PolicyParts) (seen contexts : List ContextLine) → Grows (MayContext policy.kinds) seen contexts → length seen ≤ context_limit → length seen + length contexts ≤ context_limit
contexts_few policy seen [] grown few = omega arith
contexts_few policy seen (line ∷ contexts) grown few =
    let below : length seen < context_limit = grown.0.few in
    let one_more : length (seen ++ line ∷ []) ≡ length seen + 1 = length-append seen (line ∷ []) in
    let rest : length (seen ++ line ∷ []) + length contexts ≤ context_limit = contexts_few policy (seen ++ line ∷ []) contexts grown.1 (omega arith) in
    omega arith

-- where a policy says the same, that context has the identifier again
pub context_again : (policy next : PolicyParts) → Grown policy → IsSamePolicy next policy → (sid : ℕ) (word : List ℕ) (context : ContextOf (List ℕ)) → IsSidOf policy.contexts sid → IsContextWord policy.contexts sid word context → context_sid next.contexts context ≡ Some sid
unfolding context_sid
context_again policy next grown same sid word context known is =
    let place = context_place_same next policy same context ∙ is.place in
    let few : length {A = ContextLine} [] + length policy.contexts ≤ context_limit = contexts_few policy [] policy.contexts grown.contexts (omega arith) in
    let within : ltb (sid - 1) 4095 ≡ true = lt-ltb (sid - 1) 4095 (omega arith) in
    let number : sid - 1 + 1 ≡ sid = omega arith in
    rw (place, within, number) refl

-- it is read as an argument
pub context_reads : (policy next : PolicyParts) → Grown policy → IsSamePolicy next policy → (sid : ℕ) → IsSidOf policy.contexts sid → context_of next.contexts (context_word policy.contexts sid) ≡ Ok sid
unfolding context_of
context_reads policy next grown same sid known =
    let context = context_printed policy grown sid known in
    rw (context.1.read, context.1.short, context_again policy next grown same sid _ context.0 known context.1) refl

-- a client is new where it may stand
client_new : (contexts : List ContextLine) (seen : List ClientLine) (client : ClientLine) → MayClient contexts seen client → list_any (λ other. bytes_eq other.name client.name) seen ≡ false
unfolding has_client
client_new contexts seen client may = may.new

-- the name of a client, and its number
pub record IsClientWord (clients : List ClientLine) (client : ℕ) (name : List ℕ) : Type 0 where
  pub is_name : is_name name ≡ true
  pub other : bytes_eq name (codes "admin") ≡ false
  pub number : client_number clients name ≡ Some client

-- a client's name is found again
pub client_printed : (contexts : List ContextLine) (clients : List ClientLine) → Grows (MayClient contexts) [] clients → (client : ℕ) → client < length clients → IsClientWord clients client (client_word clients client)
unfolding client_number
client_printed contexts clients grown client within =
    let line = member_at clients client within in
    record {
      is_name = rw line.1 (at_place (MayClient contexts) (λ one. is_name one.name ≡ true) (λ seen one may. may.named) [] clients client line.0 grown line.1);
      other = rw line.1 (at_place (MayClient contexts) (λ one. bytes_eq one.name (codes "admin") ≡ false) (λ seen one may. may.other) [] clients client line.0 grown line.1);
      number = rw line.1 (found_there (MayClient contexts) (λ one other. bytes_eq one.name other.name) (λ one. itself_eq one.name) (client_new contexts) clients client line.0 grown line.1);
    }

-- it is read as the client of that number
pub client_reads : (clients : List ClientLine) (client : ℕ) (name : List ℕ) → IsClientWord clients client name → client_of clients name ≡ Ok client
unfolding client_of
client_reads clients client name is = rw (name_short name is.is_name, is.number) refl

-- and as an argument
pub receiver_reads : (clients : List ClientLine) (client : ℕ) (name : List ℕ) → IsClientWord clients client name → receiver_of clients name ≡ Ok client
unfolding receiver_of
receiver_reads clients client name is = rw (form_of_name name is.is_name) (client_reads clients client name is)
