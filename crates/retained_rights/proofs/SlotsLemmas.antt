-- Loops over the slots of a store.
use Rattle.std.proofs.Common.{◌≡◌, ℕ, zero, suc, ◌⊎◌, ◌+◌, ◌<◌, ◌≤◌, Bool, true, false, cond, not, ◌&&◌, ◌||◌, eqb, List, [], ◌∷◌, ◌++◌, length, take, drop, min, Option, None, Some, IsTrue, refl, sym, ap, subst, ◌∙◌, inl, inr, arith}
use Rattle.std.specs.Option.{option_map}
use Rattle.std.specs.Ordering.{nat_cmp}
use Rattle.std.specs.FinMap as maps
use Rattle.std.specs.FinMap.{FinMap, nat_cmp-IsAntisymmetric}
use Rattle.std.proofs.lemmas.Bool.{cases_eq, cases_lt, eq-eqb, ne_eqb, eqb-true, true≢false}
use Rattle.std.proofs.lemmas.List.Folds.{list_any-append}
use Rattle.slot_tables.specs.Words.{holds, places, among, IsFound}
use Rattle.slot_tables.proofs.WordLemmas.{among-places}
use Rattle.slot_tables.proofs.BitLemmas.{places_less}
use Rattle.slot_tables.proofs.SlotLemmas.{get-put, get-taken, same_maps}
use Rattle.retained_rights.specs.declared.grant.Grant.{Grant}
use Rattle.access_vectors.specs.Decisions.{Decisions, IsClosed}
use Rattle.access_vectors.specs.Phases.{version_at, number_of, is_pending}
use Rattle.access_vectors.specs.Stale.{is_stale_pair}
use Rattle.access_vectors.specs.Asking.{Key}
use Rattle.access_vectors.specs.declared.class.Class.{Class}
use Rattle.access_vectors.specs.declared.phase.Phase.{Phase}
use Rattle.access_vectors.proofs.MappedLemmas.{get-mapped}
use Rattle.slot_tables.specs.Rows.{has_row}
use Rattle.retained_rights.specs.declared.rule.Rule.{Rule}
use Rattle.retained_rights.specs.Rights.{IsRight, is_on, without_object, moved, all_moved, revised, all_revised, followed, bits_under}
use Rattle.retained_rights.specs.Stored.{HaveRows, pair_name, rewritten}
use Rattle.retained_rights.specs.Good.{stale_at, IsGood}
use Rattle.retained_rights.proofs.FitLemmas.{good_put, newest_fresh}

get-without : (object : ℕ) (held : FinMap nat_cmp Grant) (q : ℕ) → maps.get (without_object object held) q ≡ cond (not (is_on object (maps.get held q))) (maps.get held q) None
get-without object held q =
    maps.get-retain_keys held (λ place. not (is_on object (maps.get held place))) q (λ x tied. ap (λ p. not (is_on object (maps.get held p))) (sym (nat_cmp-IsAntisymmetric q x tied)))

turned : (b : Bool) (o : Option Grant) → cond (not b) o None ≡ cond b None o
turned true o = refl
turned false o = refl

-- what a slot holds once the object is held by none
pub get-without_object : (object : ℕ) (held : FinMap nat_cmp Grant) (q : ℕ) → maps.get (without_object object held) q ≡ cond (is_on object (maps.get held q)) None (maps.get held q)
get-without_object object held q = get-without object held q ∙ turned (is_on object (maps.get held q)) (maps.get held q)

-- ---- an object's slots freed

-- the slots on the object before a place are freed, and the others are as they were
pub record IsDropped (held : FinMap nat_cmp Grant) (words : List ℕ) (now : FinMap nat_cmp Grant) (words' : List ℕ) (object from : ℕ) : Type 0 where
  pub behind : (q : ℕ) → q < from → maps.get now q ≡ cond (is_on object (maps.get held q)) None (maps.get held q)
  pub ahead : (q : ℕ) → from ≤ q → maps.get now q ≡ maps.get held q
  pub words_behind : (q : ℕ) → q < from → holds words' q ≡ (not (is_on object (maps.get held q)) && holds words q)
  pub words_ahead : (q : ℕ) → from ≤ q → holds words' q ≡ holds words q

module _ {held : FinMap nat_cmp Grant} {words : List ℕ} {now : FinMap nat_cmp Grant} {words' : List ℕ} {object from : ℕ} (dropped : IsDropped held words now words' object from) where
  -- one more freed
  pub dropped_step : (now2 : FinMap nat_cmp Grant) (words2 : List ℕ) (place : ℕ) → IsFound (λ q. is_on object (maps.get now q)) from place → now2 ≡ maps.remove now place
      → ((q : ℕ) → holds words2 q ≡ (not (eqb q place) && holds words' q)) → IsDropped held words now2 words2 object (place + 1)
  dropped_step now2 words2 place found is listed =
      let above : from ≤ place = found.above in
      record {
        behind = λ q below. elim (cases_eq q place) [
          | inl same ↦ here q same ∙ sym (ap (λ t. cond t None (maps.get held q)) (ap (is_on object) (sym (dropped.ahead q (omega arith))) ∙ ap (λ p. is_on object (maps.get now p)) same ∙ found.passes))
          | inr apart ↦ other q apart ∙ elim (cases_lt q from) [
            | inl early ↦ dropped.behind q early
            | inr late ↦ dropped.ahead q late ∙ sym (ap (λ t. cond t None (maps.get held q)) (ap (is_on object) (sym (dropped.ahead q late)) ∙ found.first q late (omega arith)))
          ]
        ];
        ahead = λ q late. other q (λ same. omega arith) ∙ dropped.ahead q (omega arith);
        words_behind = λ q below. listed q ∙ elim (cases_eq q place) [
          | inl same ↦ ap (λ t. not t && holds words' q) (eq-eqb q place same)
              ∙ sym (ap (λ t. not t && holds words q) (ap (is_on object) (sym (dropped.ahead q (omega arith))) ∙ ap (λ p. is_on object (maps.get now p)) same ∙ found.passes))
          | inr apart ↦ ap (λ t. not t && holds words' q) (ne_eqb q place apart) ∙ elim (cases_lt q from) [
            | inl early ↦ dropped.words_behind q early
            | inr late ↦ dropped.words_ahead q late ∙ sym (ap (λ t. not t && holds words q) (ap (is_on object) (sym (dropped.ahead q late)) ∙ found.first q late (omega arith)))
          ]
        ];
        words_ahead = λ q late. listed q ∙ ap (λ t. not t && holds words' q) (ne_eqb q place (λ same. omega arith)) ∙ dropped.words_ahead q (omega arith);
      }
    where
      here : (q : ℕ) → q ≡ place → maps.get now2 q ≡ None
      here q same = ap (λ m. maps.get m q) is ∙ get-taken now place q ∙ ap (λ t. cond t None (maps.get now q)) (eq-eqb q place same)

      other : (q : ℕ) → (q ≡ place → ⊥) → maps.get now2 q ≡ maps.get now q
      other q apart = ap (λ m. maps.get m q) is ∙ get-taken now place q ∙ ap (λ t. cond t None (maps.get now q)) (ne_eqb q place apart)

  -- all freed
  pub dropped_gets : ((q : ℕ) → from ≤ q → is_on object (maps.get now q) ≡ false) → (q : ℕ) → maps.get now q ≡ cond (is_on object (maps.get held q)) None (maps.get held q)
  dropped_gets none q = elim (cases_lt q from) [
    | inl early ↦ dropped.behind q early
    | inr late ↦ dropped.ahead q late ∙ sym (ap (λ t. cond t None (maps.get held q)) (ap (is_on object) (sym (dropped.ahead q late)) ∙ none q late))
  ]

  pub dropped_words : ((q : ℕ) → from ≤ q → is_on object (maps.get now q) ≡ false) → (q : ℕ) → holds words' q ≡ (not (is_on object (maps.get held q)) && holds words q)
  dropped_words none q = elim (cases_lt q from) [
    | inl early ↦ dropped.words_behind q early
    | inr late ↦ dropped.words_ahead q late ∙ sym (ap (λ t. not t && holds words q) (ap (is_on object) (sym (dropped.ahead q late)) ∙ none q late))
  ]

  pub dropped_all : ((q : ℕ) → from ≤ q → is_on object (maps.get now q) ≡ false) → now ≡ without_object object held
  dropped_all none = same_maps _ _ (λ q. dropped_gets none q ∙ sym (get-without_object object held q))

-- ---- an object's slots moved to another label

-- the slots on the object before a place are moved, and the others are as they were
pub record IsMoved (d : Decisions) (rule : Rule) (class : Class) (phase : Phase) (object t number version : ℕ) (held now : FinMap nat_cmp Grant) (words : List ℕ) (pairs : List (ℕ × ℕ)) (from : ℕ) : Type 0 where
  pub behind : (q : ℕ) → q < from → maps.get now q ≡ option_map (λ grant. cond (eqb grant.object object) (moved d rule class version t number grant) grant) (maps.get held q)
  pub ahead : (q : ℕ) → from ≤ q → maps.get now q ≡ maps.get held q
  pub good : IsGood d rule class phase now words
  pub rows : HaveRows now pairs object t

not_moved : (d : Decisions) (rule : Rule) (class : Class) (object t number version : ℕ) (o : Option Grant) → is_on object o ≡ false
    → o ≡ option_map (λ grant. cond (eqb grant.object object) (moved d rule class version t number grant) grant) o
not_moved d rule class object t number version None off = refl
not_moved d rule class object t number version (Some grant) off = ap Some (sym (ap (λ b. cond b (moved d rule class version t number grant) grant) off))

some_is : (a b : Grant) → Some a ≡ Some b → a ≡ b
some_is a b same = cc

module _ {d : Decisions} {rule : Rule} {class : Class} {phase : Phase} {object t number version : ℕ} {held now : FinMap nat_cmp Grant} {words : List ℕ} {pairs : List (ℕ × ℕ)} {from : ℕ}
    (so_far : IsMoved d rule class phase object t number version held now words pairs from) where
  -- one more moved
  pub moved_step : (now2 : FinMap nat_cmp Grant) (words2 : List ℕ) (pairs2 : List (ℕ × ℕ)) (place : ℕ) (was : Grant) (bits : ℕ) (is_stale : Bool)
      → IsFound (λ q. is_on object (maps.get now q)) from place → maps.get now place ≡ Some was → place < 65536
      → now2 ≡ maps.insert now place (rewritten was t bits number) → bits ≡ bits_under d rule class version was.s t was.mode → version ≡ version_at phase number
      → IsTrue (d.known t) → IsClosed d → is_stale ≡ is_stale_pair d class phase (Some (record { source = was.s; target = t })) (Some (followed phase number))
      → ((q : ℕ) → holds words2 q ≡ cond (eqb q place) is_stale (holds words q))
      → ((n q : ℕ) → q < 65536 → (n ≡ pair_name was.s was.t → n ≡ pair_name was.s t) → has_row pairs n q ≡ true → has_row pairs2 n q ≡ true)
      → IsMoved d rule class phase object t number version held now2 words2 pairs2 (place + 1)
  moved_step now2 words2 pairs2 place was bits is_stale found used small is bits_are version_is known closed stale_is listed rows =
      let above : from ≤ place = found.above in
      record {
        behind = λ q below. elim (cases_eq q place) [
          | inl same ↦ here q same ∙ sym (ap (option_map (λ grant. cond (eqb grant.object object) (moved d rule class version t number grant) grant))
              (sym (so_far.ahead q (omega arith)) ∙ ap (maps.get now) same ∙ used) ∙ ap (λ b. Some (cond b (moved d rule class version t number was) was)) on_object)
          | inr apart ↦ other q apart ∙ elim (cases_lt q from) [
            | inl early ↦ so_far.behind q early
            | inr late ↦ so_far.ahead q late ∙ not_moved d rule class object t number version (maps.get held q) (ap (is_on object) (sym (so_far.ahead q late)) ∙ found.first q late (omega arith))
          ]
        ];
        ahead = λ q late. other q (λ same. omega arith) ∙ so_far.ahead q (omega arith);
        good = good_put so_far.good now2 words2 place (rewritten was t bits number) is
            (record {
              source = (so_far.good.right place was used).source;
              target = known;
              bits = bits_are ∙ ap (λ v. bits_under d rule class v was.s t was.mode) version_is;
            })
            (λ q. listed q ∙ ap (λ b. cond (eqb q place) b (holds words q)) stale_is);
        rows = λ q grant below has on. elim (cases_eq q place) [
          | inl same ↦
              let new : rewritten was t bits number ≡ grant = some_is _ grant (sym (filled q same) ∙ has) in
              subst (λ g. has_row pairs2 (pair_name g.s t) q ≡ true) new
              (rows (pair_name was.s t) q below (λ e. refl) (so_far.rows q was below (ap (maps.get now) same ∙ used) (eqb-true was.object object on_object)))
          | inr apart ↦
              let still : maps.get now q ≡ Some grant = sym (other q apart) ∙ has in
              rows (pair_name grant.s t) q below (λ same. renamed grant q still same) (so_far.rows q grant below still on)
        ];
      }
    where
      on_object : eqb was.object object ≡ true
      on_object = sym (ap (is_on object) used) ∙ found.passes

      filled : (q : ℕ) → q ≡ place → maps.get now2 q ≡ Some (rewritten was t bits number)
      filled q same = ap (λ m. maps.get m q) is ∙ get-put now place (rewritten was t bits number) q ∙ ap (λ b. cond b (Some (rewritten was t bits number)) (maps.get now q)) (eq-eqb q place same)

      other : (q : ℕ) → (q ≡ place → ⊥) → maps.get now2 q ≡ maps.get now q
      other q apart = ap (λ m. maps.get m q) is ∙ get-put now place (rewritten was t bits number) q ∙ ap (λ b. cond b (Some (rewritten was t bits number)) (maps.get now q)) (ne_eqb q place apart)

      here : (q : ℕ) → q ≡ place → maps.get now2 q ≡ Some (moved d rule class version t number was)
      here q same = filled q same ∙ ap (λ b. Some (rewritten was t b number)) bits_are

      renamed : (grant : Grant) (q : ℕ) → maps.get now q ≡ Some grant → pair_name grant.s t ≡ pair_name was.s was.t → pair_name grant.s t ≡ pair_name was.s t
      renamed grant q still same =
          let t_small : t < 4096 = (closed.sids t known).1 in
          let was_small : was.t < 4096 = (closed.sids was.t (so_far.good.right place was used).target).1 in
          omega arith

  -- all moved
  pub moved_all : ((q : ℕ) → from ≤ q → is_on object (maps.get now q) ≡ false) → now ≡ all_moved d rule class version object t number held
  moved_all none = same_maps _ _ (λ q. gets q ∙ sym (get-mapped (λ place grant. cond (eqb grant.object object) (moved d rule class version t number grant) grant) held q))
    where
      gets : (q : ℕ) → maps.get now q ≡ option_map (λ grant. cond (eqb grant.object object) (moved d rule class version t number grant) grant) (maps.get held q)
      gets q = elim (cases_lt q from) [
        | inl early ↦ so_far.behind q early
        | inr late ↦ so_far.ahead q late ∙ not_moved d rule class object t number version (maps.get held q) (ap (is_on object) (sym (so_far.ahead q late)) ∙ none q late)
      ]

-- ---- the first stale slots revised

no_cons : (x : ℕ) (rest : List ℕ) → [] ≡ x ∷ rest → ⊥
no_cons x rest same = cc

heads : (x y : ℕ) (xs ys : List ℕ) → x ∷ xs ≡ y ∷ ys → x ≡ y
heads x y xs ys same = cc

tails : (x y : ℕ) (xs ys : List ℕ) → x ∷ xs ≡ y ∷ ys → xs ≡ ys
tails x y xs ys same = cc

none_some : (grant : Grant) → None ≡ Some grant → ⊥
none_some grant same = cc

suc_is : (n : ℕ) → suc n + 1 ≡ suc (n + 1)
suc_is n = omega arith

no_members : (xs : List ℕ) → ((q : ℕ) → among q xs ≡ false) → xs ≡ []
no_members [] none = refl
no_members (x ∷ xs) none = absurd (true≢false (sym (ap (λ b. b || among x xs) (eq-eqb x x refl)) ∙ none x))

past_end : (n : ℕ) (xs : List ℕ) → drop n xs ≡ [] → length xs ≤ n
past_end zero [] none = omega arith
past_end zero (x ∷ xs) none = absurd (no_cons x xs (sym none))
past_end (suc n) [] none = omega arith
past_end (suc n) (x ∷ xs) none = omega (arith, past_end n xs none)

drop_past : (n : ℕ) (xs : List ℕ) → length xs ≤ n → drop n xs ≡ []
drop_past zero [] past = refl
drop_past zero (x ∷ xs) past = absurd (omega arith)
drop_past (suc n) [] past = refl
drop_past (suc n) (x ∷ xs) past = drop_past n xs (omega arith)

take_past : (n : ℕ) (xs : List ℕ) → length xs ≤ n → take n xs ≡ xs
take_past zero [] past = refl
take_past zero (x ∷ xs) past = absurd (omega arith)
take_past (suc n) [] past = refl
take_past (suc n) (x ∷ xs) past = ap (λ zs. x ∷ zs) (take_past n xs (omega arith))

drop_cons : (all : List ℕ) (n x : ℕ) (rest : List ℕ) → drop n all ≡ x ∷ rest → (n < length all) × (take (n + 1) all ≡ take n all ++ x ∷ []) × (drop (n + 1) all ≡ rest)
drop_cons [] zero x rest is = absurd (no_cons x rest is)
drop_cons [] (suc n) x rest is = absurd (no_cons x rest is)
drop_cons (y ∷ ys) zero x rest is = (omega arith, ap (λ h. h ∷ []) (heads y x ys rest is), tails y x ys rest is)
drop_cons (y ∷ ys) (suc n) x rest is =
    let later = drop_cons ys n x rest is in
    (omega (arith, later.0), ap (λ k. take k (y ∷ ys)) (suc_is n) ∙ ap (λ zs. y ∷ zs) later.1, ap (λ k. drop k (y ∷ ys)) (suc_is n) ∙ later.2)

-- the first so many stale slots are revised: they follow the newest number and are not stale any more
pub record IsRevised (d : Decisions) (rule : Rule) (class : Class) (phase : Phase) (held : FinMap nat_cmp Grant) (all : List ℕ) (now : FinMap nat_cmp Grant) (words : List ℕ) (from done : ℕ) : Type 0 where
  pub good : IsGood d rule class phase now words
  pub left : places words ≡ drop done all
  pub within : done ≤ length all
  pub gets : (q : ℕ) → maps.get now q ≡ option_map (λ grant. cond (among q (take done all)) (revised d rule class (version_at phase (number_of phase)) (number_of phase) grant) grant) (maps.get held q)
  pub none : (q : ℕ) → q < from → holds words q ≡ false

-- none revised yet
pub revised_none : {d : Decisions} {rule : Rule} {class : Class} {phase : Phase} (held : FinMap nat_cmp Grant) (words : List ℕ) → IsGood d rule class phase held words → IsRevised d rule class phase held (places words) held words 0 0
revised_none {d} {rule} {class} {phase} held words good =
    record {
      good = good;
      left = refl;
      within = omega arith;
      gets = λ q. same (maps.get held q);
      none = λ q below. absurd (omega arith);
    }
  where
    same : (o : Option Grant) → o ≡ option_map (λ (grant : Grant). grant) o
    same None = refl
    same (Some grant) = refl

module _ {d : Decisions} {rule : Rule} {class : Class} {phase : Phase} {held : FinMap nat_cmp Grant} {all : List ℕ} {now : FinMap nat_cmp Grant} {words : List ℕ} {from done : ℕ}
    (so_far : IsRevised d rule class phase held all now words from done) where
  abbrev anew : Grant → Grant
  anew grant = revised d rule class (version_at phase (number_of phase)) (number_of phase) grant

  -- one more revised
  pub revised_step : (now2 : FinMap nat_cmp Grant) (words2 : List ℕ) (place : ℕ) (was : Grant) (bits : ℕ)
      → IsFound (holds words) from place → maps.get now place ≡ Some was → is_pending phase ≡ true
      → now2 ≡ maps.insert now place (rewritten was was.t bits (number_of phase)) → bits ≡ bits_under d rule class (version_at phase (number_of phase)) was.s was.t was.mode
      → ((q : ℕ) → holds words2 q ≡ (not (eqb q place) && holds words q)) → IsRevised d rule class phase held all now2 words2 (place + 1) (done + 1)
  revised_step now2 words2 place was bits found used pending is bits_are listed =
      record {
        good = good_put so_far.good now2 words2 place (rewritten was was.t bits (number_of phase)) is
            (record { source = right.source; target = right.target; bits = bits_are })
            (λ q. listed q ∙ cleared q (eqb q place) (holds words q));
        left = sym cut.2;
        within = omega (arith, cut.0);
        gets = λ q. elim (cases_eq q place) [
          | inl same ↦ filled q same ∙ ap (λ b. Some (rewritten was was.t b (number_of phase))) bits_are ∙ here (maps.get held q) (among q (take done all)) (sym (so_far.gets q) ∙ ap (maps.get now) same ∙ used)
              ∙ ap (λ b. option_map (λ grant. cond b (anew grant) grant) (maps.get held q)) (sym (in_more q ∙ ap (λ b. among q (take done all) || (b || false)) (eq-eqb place q (sym same)) ∙ or_true _))
          | inr apart ↦ other q apart ∙ so_far.gets q
              ∙ ap (λ b. option_map (λ grant. cond b (anew grant) grant) (maps.get held q)) (sym (in_more q ∙ ap (λ b. among q (take done all) || (b || false)) (ne_eqb place q (λ same. apart (sym same))) ∙ or_false _))
        ];
        none = λ q below. listed q ∙ elim (cases_eq q place) [
          | inl same ↦ ap (λ t. not t && holds words q) (eq-eqb q place same)
          | inr apart ↦ ap (λ t. not t && holds words q) (ne_eqb q place apart) ∙ elim (cases_lt q from) [
            | inl early ↦ so_far.none q early
            | inr late ↦ found.first q late (omega arith)
          ]
        ];
      }
    where
      right : IsRight d rule class phase was
      right = so_far.good.right place was used

      before : (q : ℕ) → q < place → holds words q ≡ false
      before q below = elim (cases_lt q from) [ inl early ↦ so_far.none q early | inr late ↦ found.first q late below ]

      cut : (done < length all) × (take (done + 1) all ≡ take done all ++ place ∷ []) × (drop (done + 1) all ≡ places words2)
      cut = drop_cons all done place (places words2) (sym so_far.left ∙ places_less words words2 place found.passes before listed)

      in_more : (q : ℕ) → among q (take (done + 1) all) ≡ (among q (take done all) || (eqb place q || false))
      in_more q = ap (among q) cut.1 ∙ list_any-append (λ one. eqb one q) (take done all) (place ∷ [])

      or_true : (b : Bool) → (b || (true || false)) ≡ true
      or_true true = refl
      or_true false = refl

      or_false : (b : Bool) → (b || (false || false)) ≡ b
      or_false true = refl
      or_false false = refl

      cleared : (q : ℕ) (b listed : Bool) → (not b && listed) ≡ cond b (stale_at d class phase (Some (rewritten was was.t bits (number_of phase)))) listed
      cleared q true listed = sym (newest_fresh d class phase (rewritten was was.t bits (number_of phase)) pending refl)
      cleared q false listed = refl

      filled : (q : ℕ) → q ≡ place → maps.get now2 q ≡ Some (rewritten was was.t bits (number_of phase))
      filled q same = ap (λ m. maps.get m q) is ∙ get-put now place (rewritten was was.t bits (number_of phase)) q ∙ ap (λ b. cond b (Some (rewritten was was.t bits (number_of phase))) (maps.get now q)) (eq-eqb q place same)

      other : (q : ℕ) → (q ≡ place → ⊥) → maps.get now2 q ≡ maps.get now q
      other q apart = ap (λ m. maps.get m q) is ∙ get-put now place (rewritten was was.t bits (number_of phase)) q ∙ ap (λ b. cond b (Some (rewritten was was.t bits (number_of phase))) (maps.get now q)) (ne_eqb q place apart)

      -- a grant revised twice is revised once
      twice : (b : Bool) (grant : Grant) → cond b (anew grant) grant ≡ was → anew was ≡ anew grant
      twice true grant same = ap anew (sym same)
      twice false grant same = ap anew (sym same)

      here : (o : Option Grant) (b : Bool) → option_map (λ grant. cond b (anew grant) grant) o ≡ Some was → Some (anew was) ≡ option_map (λ grant. anew grant) o
      here None b same = absurd (none_some was same)
      here (Some grant) b same = ap Some (twice b grant (some_is _ was same))

  all_none : ((q : ℕ) → from ≤ q → holds words q ≡ false) → (q : ℕ) → holds words q ≡ false
  all_none nothing q = elim (cases_lt q from) [ inl early ↦ so_far.none q early | inr late ↦ nothing q late ]

  -- where no more is stale all are revised
  none_left : ((q : ℕ) → from ≤ q → holds words q ≡ false) → (places words ≡ []) × (length all ≤ done)
  none_left nothing =
      let empty : places words ≡ [] = no_members (places words) (λ q. among-places words q ∙ all_none nothing q) in
      (empty, past_end done all (sym so_far.left ∙ empty))

  -- how many were revised where the loop ends
  pub revised_count : (k : ℕ) → done ≤ k → (done ≡ k) ⊎ ((q : ℕ) → from ≤ q → holds words q ≡ false) → done ≡ min k (length all)
  revised_count k few ended = elim ended [
    | inl is ↦ omega (arith, so_far.within)
    | inr nothing ↦ omega (arith, so_far.within, (none_left nothing).1)
  ]

  -- as many as were to be revised, or all of them
  pub revised_gets : (k : ℕ) → done ≤ k → (done ≡ k) ⊎ ((q : ℕ) → from ≤ q → holds words q ≡ false) → (places words ≡ drop k all) × (now ≡ all_revised d rule class (version_at phase (number_of phase)) (number_of phase) (take k all) held)
  revised_gets k few ended = elim ended [
    | inl is ↦ (so_far.left ∙ ap (λ n. drop n all) is, same_maps _ _ (λ q. so_far.gets q ∙ ap (λ n. option_map (λ grant. cond (among q (take n all)) (anew grant) grant) (maps.get held q)) is ∙ sym (get-revised k q)))
    | inr nothing ↦
        let empty : places words ≡ [] = (none_left nothing).0 in
        let over : length all ≤ done = (none_left nothing).1 in (
          empty ∙ sym (drop_past k all (omega arith)),
          same_maps _ _ (λ q. so_far.gets q
              ∙ ap (λ xs. option_map (λ grant. cond (among q xs) (anew grant) grant) (maps.get held q)) (take_past done all over ∙ sym (take_past k all (omega arith))) ∙ sym (get-revised k q)),
        )
  ]
    where
      get-revised : (k q : ℕ) → maps.get (all_revised d rule class (version_at phase (number_of phase)) (number_of phase) (take k all) held) q
          ≡ option_map (λ grant. cond (among q (take k all)) (anew grant) grant) (maps.get held q)
      get-revised k q = get-mapped (λ place grant. cond (among place (take k all)) (anew grant) grant) held q

-- ---- an asker that was asked

-- the asker has the decider, the version and the keys that it had
pub record IsSameAsker {Asker : Type 0} (decides : Asker → Decisions) (version : Asker → ℕ) (keys : Asker → Option (List Key)) (same : Asker → Asker → Type 0) (was now : Asker) : Type 0 where
  pub decider : decides now ≡ decides was
  pub at : version now ≡ version was
  pub looked_up : keys now ≡ keys was
  pub alike : same was now
