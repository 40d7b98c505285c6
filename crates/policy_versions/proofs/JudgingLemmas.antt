-- The tables decide what the policy decides.
use Rattle.std.proofs.Common.{◌≡◌, ◌<◌, ◌≤◌, ◌+◌, ◌-◌, ◌∙◌, ◌^◌, ℕ, zero, suc, Bool, true, false, cond, List, [], length, get_or, Option, Some, None, refl, sym, ap, subst, arith, lit<}
use Rattle.std.specs.Prelude.{◌&&◌, nat_lt, nat_le}
use Rattle.std.specs.List.{Contains, position_or_len}
use Rattle.std.proofs.lemmas.Bool.{and_parts, and_from, ltb-true, leb-true, lt-ltb, le-leb}
use Rattle.std.proofs.lemmas.Nat.{or_lt}
use Rattle.std.proofs.Math.Pow.{pow-lt}
use Rattle.std.proofs.lemmas.List.{get_or-map, get_or_default, length-map}
use Rattle.std.proofs.lemmas.List.Sums.{position_or_len_is}
use Rattle.std.proofs.lemmas.List.Folds.{Any-from_list_any, list_any_at}
use Rattle.std.proofs.lemmas.Map.Keys.{apart_from_distinct}
use Rattle.std.proofs.lemmas.Map.Made.{length-le_from_is_member}
use Rattle.flask_sid.specs.declared.context.ContextOf.{ContextOf}
use Rattle.std.specs.Set.{is_member}
use Rattle.flask_sid.specs.SidTables.{is_same_context, AreDistinct}
use Rattle.access_vectors.specs.declared.class.Class.{Class}
use Rattle.access_vectors.specs.Vectors.{with_index}
use Rattle.access_vectors.specs.Decisions.{IsClosed}
use Rattle.policy_model.specs.declared.policy.PolicyParts.{PolicyParts}
use Rattle.policy_model.specs.declared.policy.Labelling.TheVariants.{Member}
use Rattle.policy_model.specs.Deciding.{vector_where, vector_of, decided_vector, label_of, member_of, takes_after_maker}
use Rattle.policy_model.specs.Kept.{IsWholePolicy}
use Rattle.policy_versions.specs.declared.contexts.Contexts.{Contexts}
use Rattle.policy_versions.specs.declared.vectors.VectorRows.{VectorRows}
use Rattle.policy_versions.specs.declared.given.GivenRows.{GivenRows}
use Rattle.policy_versions.specs.declared.place.Place.{Place}
use Rattle.policy_versions.specs.Places.{kind_at}
use Rattle.policy_versions.specs.Vectors.{AreVectorsOf, vector_at}
use Rattle.policy_versions.specs.Given.{AreGivenOf, given_at}
use Rattle.policy_versions.specs.Closure.{IsDerivable, label, member, AreContexts}
use Rattle.policy_versions.specs.Numbers.{context_at, object_row, made_row, made_kind, Derives}
use Rattle.policy_versions.specs.Identifiers.{cell_in, AreNumbered}
use Rattle.policy_versions.specs.Judging.{context_with, is_sid, is_asked, sid_among, decisions_of, HasRoom}
use Rattle.policy_versions.specs.Tables.{place_with, label_cell, led_cell, decisions_by}
use Rattle.policy_versions.proofs.NameLemmas.{few_versions}
use Rattle.policy_versions.proofs.ContextLemmas.{label_at, member_itself, member_at, one_context, place_declared}
use Rattle.policy_versions.proofs.IdentifierLemmas.{same_context_equiv}
use Rattle.policy_versions.proofs.RoundLemmas.{same_context}

-- the identifier of a context at a place
sid_at_place : (contexts : List (ContextOf (List ℕ))) (k : ℕ) (context : ContextOf (List ℕ)) → AreDistinct contexts → k < length contexts → get_or contexts k context ≡ context → sid_among contexts context ≡ k + 1
unfolding sid_among
sid_at_place contexts k context distinct within is =
    let p : ContextOf (List ℕ) → Bool = is_same_context context in
    let first : position_or_len p contexts ≡ k = position_or_len_is p contexts k context (omega arith)
    (λ j before.
    (let apart : is_same_context (get_or contexts j context) (get_or contexts k context) ≡ false = apart_from_distinct is_same_context contexts j k context distinct before within in
    same_context_equiv.symm context (get_or contexts j context) ∙ (rw is at apart)))
    (λ low. rw is (same_context_equiv.refl context)) in
    rw (first, lt-ltb k (length contexts) within) refl

-- a number is an identifier
sid_parts : (count sid : ℕ) → is_sid count sid ≡ true → (0 < sid) × (sid ≤ count)
sid_parts count sid is =
    let parts = and_parts (nat_lt 0 sid) (nat_le sid count) is in
    (ltb-true 0 sid parts.0, leb-true sid count parts.1)

sid_from : (count sid : ℕ) → 0 < sid → sid ≤ count → is_sid count sid ≡ true
sid_from count sid low high = and_from _ _ (lt-ltb 0 sid low) (le-leb sid count high)

-- what may be asked
pub record Asks (versions count version s t : ℕ) : Type 0 where
  pub below : version < versions
  pub source : is_sid count s ≡ true
  pub target : is_sid count t ≡ true

pub asks : (versions count version s t : ℕ) → is_asked versions count version s t ≡ true → Asks versions count version s t
unfolding is_asked
asks versions count version s t asked =
    let parts = and_parts (nat_lt version versions) (is_sid count s && is_sid count t) asked in
    let both = and_parts (is_sid count s) (is_sid count t) parts.1 in
    record { below = ltb-true version versions parts.0; source = both.0; target = both.1 }

pub asked_from : (versions count version s t : ℕ) → version < versions → is_sid count s ≡ true → is_sid count t ≡ true → is_asked versions count version s t ≡ true
unfolding is_asked
asked_from versions count version s t below source target = and_from _ _ (lt-ltb version versions below) (and_from _ _ source target)

-- two answers that are one where they are asked
where_asked : (asked : Bool) (a b : ℕ) → (asked ≡ true → a ≡ b) → cond asked a 0 ≡ cond asked b 0
where_asked true a b same = same refl
where_asked false a b same = refl

-- a vector of the first permissions has 16 bits
where_small : (n : ℕ) (test : ℕ → Bool) → n ≤ 16 → vector_where n test < 2 ^ 16
unfolding vector_where with_index
where_small zero test within = lit< tt
where_small (suc n) test within =
    let below : vector_where n test < 2 ^ 16 = where_small n test (omega arith) in
    elim (test n) as (λ b. cond b (with_index (vector_where n test) n) (vector_where n test) < 2 ^ 16) [
      | true ↦ or_lt 16 (vector_where n test) (2 ^ n) below (pow-lt {i = n} {j = 16} (omega arith))
      | false ↦ below
    ]

vector_small : (policy : PolicyParts) (version : ℕ) (s t : List ℕ) (class : Class) → vector_of policy version s t class < 65536
unfolding vector_of decided_vector
vector_small policy version s t class = where_small 16 _ (omega arith)

module _ (policy : PolicyParts) (contexts : Contexts) (given : GivenRows) (kept : IsWholePolicy policy) (are : AreGivenOf policy given) (numbered : AreNumbered policy contexts.users contexts.places.items contexts.sids contexts.cells.items) where
  -- the place of an identifier
  pub record IsPlaced (sid : ℕ) : Type 0 where
    pub within : sid - 1 < length contexts.places.items
    pub row : (place_with contexts sid).row < length contexts.users
    pub context : context_at policy contexts.users (place_with contexts sid).row (place_with contexts sid).kind ≡ context_with contexts.sids sid
    pub derives : Derives policy contexts.users (place_with contexts sid).row (place_with contexts sid).kind
    pub kind : (place_with contexts sid).kind < length policy.kinds

  many : length contexts.sids ≡ length contexts.places.items
  many = ap length numbered.of_places ∙ length-map contexts.places.items (λ (place : Place). context_at policy contexts.users place.row place.kind)

  pub placed : (sid : ℕ) → is_sid (length contexts.sids) sid ≡ true → IsPlaced sid
  placed sid is =
      let parts = sid_parts (length contexts.sids) sid is in
      let d : Place = record { row = 0; kind = 0 } in
      let none : ContextOf (List ℕ) = record { user = []; role = []; kind = [] } in
      let within : sid - 1 < length contexts.places.items = rw (← many) (omega (arith, parts.0, parts.1)) in
      let derives : Derives policy contexts.users (place_with contexts sid).row (place_with contexts sid).kind = numbered.derive (sid - 1) d within in
      record {
        within = within;
        row = (numbered.inside (sid - 1) d within).row;
        context = sym (ap (λ xs. get_or xs (sid - 1) none) numbered.of_places ∙ get_or-map (λ (place : Place). context_at policy contexts.users place.row place.kind) contexts.places.items (sid - 1) d none within);
        derives = derives;
        kind = place_declared policy kept contexts.users _ _ derives;
      }

  -- the cell of a context to which the policy leads
  pub record HasCell (row kind : ℕ) : Type 0 where
    pub cell : cell_in contexts.cells.items row kind ≡ sid_among contexts.sids (context_at policy contexts.users row kind)
    pub known : is_sid (length contexts.sids) (sid_among contexts.sids (context_at policy contexts.users row kind)) ≡ true

  pub has_cell : (row kind : ℕ) → row < length contexts.users → Derives policy contexts.users row kind → HasCell row kind
  has_cell row kind of_row derives =
      let context : ContextOf (List ℕ) = context_at policy contexts.users row kind in
      let d : Place = record { row = 0; kind = 0 } in
      let among : Contains contexts.sids context = subst (λ xs. Contains xs context) (sym numbered.contexts.all) (numbered.contexts.are_derived.whole context derives) in
      let k : ℕ = among.0 in
      let within : k < length contexts.places.items = rw (← many) among.1 in
      let place : Place = get_or contexts.places.items k d in
      let same : context_at policy contexts.users place.row place.kind ≡ context =
      sym (get_or-map (λ (one : Place). context_at policy contexts.users one.row one.kind) contexts.places.items k d context within) ∙ ap (λ xs. get_or xs k context) (sym numbered.of_places) ∙ among.2 in
      let numbers = one_context policy contexts.users kept numbered.rows place.row place.kind row kind (numbered.inside k d within).row of_row (numbered.derive k d within) derives same in
      let sid : sid_among contexts.sids context ≡ k + 1 = sid_at_place contexts.sids k context numbered.apart among.1 among.2 in
      let counted : cell_in contexts.cells.items place.row place.kind ≡ k + 1 = numbered.counted k within in
      record {
        cell = (rw (numbers.0, numbers.1) at counted) ∙ sym sid;
        known = rw sid (sid_from (length contexts.sids) (k + 1) (omega arith) (omega (arith, among.1)));
      }

  -- an identifier is that of its context
  itself : (sid : ℕ) → is_sid (length contexts.sids) sid ≡ true → sid_among contexts.sids (context_with contexts.sids sid) ≡ sid
  itself sid is =
      let parts = sid_parts (length contexts.sids) sid is in
      let low : sid - 1 < length contexts.sids = omega (arith, parts.0, parts.1) in
      let next : sid - 1 + 1 ≡ sid = omega (arith, parts.0) in
      sid_at_place contexts.sids (sid - 1) (context_with contexts.sids sid) numbered.apart low (get_or_default contexts.sids (sid - 1) _ _ low) ∙ next

  -- the type of an identifier's context
  pub kinds_same : (sid : ℕ) → is_sid (length contexts.sids) sid ≡ true → kind_at policy (place_with contexts sid).kind ≡ (context_with contexts.sids sid).kind
  unfolding context_at
  kinds_same sid is = ap (λ (c : ContextOf (List ℕ)). c.kind) (placed sid is).context

  -- the tables decide what the policy decides
  module _ (versions : ℕ) (vectors : VectorRows) (of : versions ≡ length policy.versions) (decide : AreVectorsOf policy vectors) where
    vector_same : (version s t : ℕ) (class : Class) → is_asked versions (length contexts.sids) version s t ≡ true → vector_at vectors version (place_with contexts s).kind (place_with contexts t).kind class ≡ vector_of policy version (context_with contexts.sids s).kind (context_with contexts.sids t).kind class
    unfolding context_at
    vector_same version s t class asked =
        let asked = asks versions (length contexts.sids) version s t asked in
        let source = placed s asked.source in
        let target = placed t asked.target in
        decide version (place_with contexts s).kind (place_with contexts t).kind class source.kind target.kind
        ∙ ap (λ (c : ContextOf (List ℕ)). vector_of policy version c.kind (kind_at policy (place_with contexts t).kind) class) source.context
        ∙ ap (λ (c : ContextOf (List ℕ)). vector_of policy version (context_with contexts.sids s).kind c.kind class) target.context

    -- the label of known contexts, by their places
    label_same : (version s t : ℕ) (class : Class) → IsPlaced s → IsPlaced t → context_at policy contexts.users (made_row contexts.users (place_with contexts s).row class) (made_kind (given_at given) version (place_with contexts s).kind (place_with contexts t).kind class) ≡ label_of policy version (context_with contexts.sids s) (context_with contexts.sids t) class
    label_same version s t class source target =
        label_at policy contexts.users (given_at given) are numbered.rows version (place_with contexts s).row (place_with contexts s).kind (place_with contexts t).row (place_with contexts t).kind source.row source.kind target.kind class
        ∙ ap (λ c. label_of policy version c (context_at policy contexts.users (place_with contexts t).row (place_with contexts t).kind) class) source.context
        ∙ ap (λ c. label_of policy version (context_with contexts.sids s) c class) target.context

    made_within : (row : ℕ) (class : Class) → row < length contexts.users → made_row contexts.users row class < length contexts.users
    made_within row class within = elim (takes_after_maker class) as (λ b. cond b row (object_row contexts.users row) < length contexts.users) [ true ↦ within | false ↦ (numbered.rows.objects row within).within ]

    derives_with : (sid : ℕ) → IsPlaced sid → IsDerivable policy (context_with contexts.sids sid)
    derives_with sid is = subst (IsDerivable policy) is.context is.derives

    pub label_cells : (version s t : ℕ) (class : Class) → is_asked versions (length contexts.sids) version s t ≡ true → (label_cell contexts (given_at given) version (place_with contexts s) (place_with contexts t) class ≡ sid_among contexts.sids (label_of policy version (context_with contexts.sids s) (context_with contexts.sids t) class)) × (is_sid (length contexts.sids) (sid_among contexts.sids (label_of policy version (context_with contexts.sids s) (context_with contexts.sids t) class)) ≡ true)
    label_cells version s t class asked =
        let asked = asks versions (length contexts.sids) version s t asked in
        let source = placed s asked.source in
        let target = placed t asked.target in
        let same = label_same version s t class source target in
        let below : version < length policy.versions = rw of at asked.below in
        let derived : IsDerivable policy (label_of policy version (context_with contexts.sids s) (context_with contexts.sids t) class) = label version _ _ class below (derives_with s source) (derives_with t target) in
        let has = has_cell (made_row contexts.users (place_with contexts s).row class) (made_kind (given_at given) version (place_with contexts s).kind (place_with contexts t).kind class) (made_within (place_with contexts s).row class source.row) (subst (IsDerivable policy) (sym same) derived) in
        (has.cell ∙ ap (sid_among contexts.sids) same, rw same at has.known)

    pub member_cells : (version s t : ℕ) (class : Class) → is_asked versions (length contexts.sids) version s t ≡ true → (led_cell contexts (place_with contexts s) t (given_at given Member version (place_with contexts s).kind (place_with contexts t).kind class) ≡ sid_among contexts.sids (member_of policy version (context_with contexts.sids s) (context_with contexts.sids t) class)) × (is_sid (length contexts.sids) (sid_among contexts.sids (member_of policy version (context_with contexts.sids s) (context_with contexts.sids t) class)) ≡ true)
    member_cells version s t class asked = by_given (given_at given Member version (place_with contexts s).kind (place_with contexts t).kind class) refl
      where
        asks_it : Asks versions (length contexts.sids) version s t
        asks_it = asks versions (length contexts.sids) version s t asked

        source : IsPlaced s
        source = placed s asks_it.source

        target : IsPlaced t
        target = placed t asks_it.target

        contexts_same : member_of policy version (context_at policy contexts.users (place_with contexts s).row (place_with contexts s).kind) (context_at policy contexts.users (place_with contexts t).row (place_with contexts t).kind) class ≡ member_of policy version (context_with contexts.sids s) (context_with contexts.sids t) class
        contexts_same =
            ap (λ c. member_of policy version c (context_at policy contexts.users (place_with contexts t).row (place_with contexts t).kind) class) source.context
            ∙ ap (λ c. member_of policy version (context_with contexts.sids s) c class) target.context

        by_given : (place : Option ℕ) → given_at given Member version (place_with contexts s).kind (place_with contexts t).kind class ≡ place → (led_cell contexts (place_with contexts s) t place ≡ sid_among contexts.sids (member_of policy version (context_with contexts.sids s) (context_with contexts.sids t) class)) × (is_sid (length contexts.sids) (sid_among contexts.sids (member_of policy version (context_with contexts.sids s) (context_with contexts.sids t) class)) ≡ true)
        by_given None none =
            let is : member_of policy version (context_with contexts.sids s) (context_with contexts.sids t) class ≡ context_with contexts.sids t =
            sym contexts_same ∙ member_itself policy contexts.users (given_at given) are numbered.rows version (place_with contexts s).row (place_with contexts s).kind (place_with contexts t).row (place_with contexts t).kind source.row source.kind target.kind class none ∙ target.context in
            rw is (sym (itself t asks_it.target), rw (itself t asks_it.target) asks_it.target)
        by_given (Some kind) gives =
            let is : member_of policy version (context_with contexts.sids s) (context_with contexts.sids t) class ≡ context_at policy contexts.users (object_row contexts.users (place_with contexts s).row) kind =
            sym contexts_same ∙ member_at policy contexts.users (given_at given) are numbered.rows version (place_with contexts s).row (place_with contexts s).kind (place_with contexts t).row (place_with contexts t).kind source.row source.kind target.kind class kind gives in
            let below : version < length policy.versions = rw of at asks_it.below in
            let derived : IsDerivable policy (member_of policy version (context_with contexts.sids s) (context_with contexts.sids t) class) = member version _ _ class below (derives_with s source) (derives_with t target) in
            let has = has_cell (object_row contexts.users (place_with contexts s).row) kind ((numbered.rows.objects (place_with contexts s).row source.row).within) (rw is at derived) in
            rw is (has.cell, has.known)

    pub decides_same : decisions_by versions contexts vectors given ≡ decisions_of policy contexts.sids
    unfolding decisions_by decisions_of
    decides_same =
        let vectors_same : (version s t : ℕ) (class : Class) → cond (is_asked versions (length contexts.sids) version s t) (vector_at vectors version (place_with contexts s).kind (place_with contexts t).kind class) 0 ≡ cond (is_asked (length policy.versions) (length contexts.sids) version s t) (vector_of policy version (context_with contexts.sids s).kind (context_with contexts.sids t).kind class) 0 =
        λ version s t class. where_asked _ _ _ (vector_same version s t class) ∙ ap (λ n. cond (is_asked n (length contexts.sids) version s t) (vector_of policy version (context_with contexts.sids s).kind (context_with contexts.sids t).kind class) 0) of in
        let labels_same : (version s t : ℕ) (class : Class) → cond (is_asked versions (length contexts.sids) version s t) (label_cell contexts (given_at given) version (place_with contexts s) (place_with contexts t) class) 0 ≡ cond (is_asked (length policy.versions) (length contexts.sids) version s t) (sid_among contexts.sids (label_of policy version (context_with contexts.sids s) (context_with contexts.sids t) class)) 0 =
        λ version s t class. where_asked _ _ _ (λ asked. (label_cells version s t class asked).0) ∙ ap (λ n. cond (is_asked n (length contexts.sids) version s t) (sid_among contexts.sids (label_of policy version (context_with contexts.sids s) (context_with contexts.sids t) class)) 0) of in
        let members_same : (version s t : ℕ) (class : Class) → cond (is_asked versions (length contexts.sids) version s t) (led_cell contexts (place_with contexts s) t (given_at given Member version (place_with contexts s).kind (place_with contexts t).kind class)) 0 ≡ cond (is_asked (length policy.versions) (length contexts.sids) version s t) (sid_among contexts.sids (member_of policy version (context_with contexts.sids s) (context_with contexts.sids t) class)) 0 =
        λ version s t class. where_asked _ _ _ (λ asked. (member_cells version s t class asked).0) ∙ ap (λ n. cond (is_asked n (length contexts.sids) version s t) (sid_among contexts.sids (member_of policy version (context_with contexts.sids s) (context_with contexts.sids t) class)) 0) of in
        λ i. record {
          versions = of i;
          known = is_sid (length contexts.sids);
          vector = λ version s t class. vectors_same version s t class i;
          label = λ version s t class. labels_same version s t class i;
          member = λ version s t class. members_same version s t class i;
        }

    -- and it holds together
    pub decides_closed : IsClosed (decisions_of policy contexts.sids)
    unfolding decisions_of
    decides_closed =
        let few : length contexts.sids ≤ 4095 = numbered.few in
        record {
          some_version = kept.version;
          few_versions = (let versions_few : length policy.versions ≤ 64 = few_versions policy kept in omega arith);
          sids = λ sid is. (let parts = sid_parts (length contexts.sids) sid is in (parts.0, omega (arith, parts.1)));
          vectors = λ version s t class below source target.
              rw (asked_from (length policy.versions) (length contexts.sids) version s t below source target) (vector_small policy version _ _ class);
          labels = λ version s t class below source target.
              (let asked = asked_from (length policy.versions) (length contexts.sids) version s t below source target in
              rw asked ((label_cells version s t class (rw of asked)).1));
          members = λ version s t class below source target.
              (let asked = asked_from (length policy.versions) (length contexts.sids) version s t below source target in
              rw asked ((member_cells version s t class (rw of asked)).1));
        }

    pub tables_closed : IsClosed (decisions_by versions contexts vectors given)
    tables_closed = subst IsClosed (sym decides_same) decides_closed

    pub places_many : length contexts.places.items ≡ length contexts.sids
    places_many = sym many

-- all contexts fit where they have identifiers
pub has_room : (policy : PolicyParts) (contexts : List (ContextOf (List ℕ))) → AreContexts policy contexts → length contexts ≤ 4095 → HasRoom policy
has_room policy contexts are few many =
    let within : length many.contexts ≤ length contexts = length-le_from_is_member same_context_equiv many.contexts contexts many.distinct (λ context is. kept_from contexts context (all_kept context is)) in
    absurd (omega (arith, many.many, within))
  where
    all_kept : (context : ContextOf (List ℕ)) → is_member is_same_context many.contexts context ≡ true → Contains contexts context
    all_kept context is =
        let found = Any-from_list_any (is_same_context context) many.contexts is in
        let same : context ≡ found.1 = same_context context found.1 found.4 in
        let derives : IsDerivable policy found.1 = subst (IsDerivable policy) found.3 (many.sound found.0 found.1 found.2) in
        subst (λ xs. Contains xs context) (sym are.all) (are.are_derived.whole context (subst (IsDerivable policy) (sym same) derives))

    kept_from : (xs : List (ContextOf (List ℕ))) (context : ContextOf (List ℕ)) → Contains xs context → is_member is_same_context xs context ≡ true
    kept_from xs context among = list_any_at (is_same_context context) xs among.0 context among.1 (rw among.2 (same_context_equiv.refl context))
