-- The promise between grants and a decider, slot by slot.
use Rattle.std.proofs.Common.{◌≡◌, ℕ, ◌+◌, ◌-◌, ◌<◌, ◌≤◌, Bool, true, false, cond, not, ◌&&◌, ◌||◌, eqb, T, List, [], ◌∷◌, map, filter, length, Option, None, Some, refl, sym, ap, subst, ◌∙◌, inl, inr, arith}
use Rattle.std.specs.Option.{is_some, option_map}
use Rattle.std.specs.List.{list_any}
use Rattle.std.specs.Ordering.{nat_cmp, eq_by_cmp, is_lt}
use Rattle.std.specs.Cmp.{unsigned_tied}
use Rattle.std.specs.FinMap as maps
use Rattle.std.specs.FinMap.{FinMap}
use Rattle.std.specs.FinMap.Entries.{is_sorted, below_all}
use Rattle.std.proofs.lemmas.Bool.{cases_eq, cases_Bool, eq-eqb, ne_eqb, eqb-true, false≢true, true≢false}
use Rattle.std.proofs.lemmas.Bool.Decides.{nat_tests}
use Rattle.access_vectors.specs.Decisions.{Decisions}
use Rattle.access_vectors.specs.Mapped.{mapped}
use Rattle.access_vectors.specs.Phases.{version_at, number_of, MayName, AreVersions, is_pending}
use Rattle.access_vectors.specs.Stale.{is_stale_pair, stale_slots}
use Rattle.access_vectors.specs.declared.class.Class.{Class}
use Rattle.access_vectors.specs.declared.phase.Phase.{Phase}
use Rattle.access_vectors.specs.declared.phase.Phase.TheVariants.{Settled, Pending}
use Rattle.access_vectors.proofs.MappedLemmas.{get-mapped, keys-mapped}
use Rattle.slot_tables.specs.Words.{holds, places, among, Rises}
use Rattle.slot_tables.proofs.WordLemmas.{same_lists, places_rise, among-places, rises_weaker}
use Rattle.slot_tables.proofs.SlotLemmas.{get-put}
use Rattle.retained_rights.specs.declared.rule.Rule.{Rule}
use Rattle.retained_rights.specs.declared.grant.Grant.{Grant}
use Rattle.retained_rights.specs.Rights.{Rights, IsRight, Fit, followed, pair_in, bits_under}
use Rattle.retained_rights.specs.Rules.{ruled}
use Rattle.retained_rights.specs.Stored.{is_changed, AreNumbered}
use Rattle.retained_rights.specs.Good.{stale_at, IsGood}

-- ---- the list of stale slots

among-filter : (p : ℕ → Bool) (q : ℕ) (xs : List ℕ) → among q (filter p xs) ≡ (p q && among q xs)
among-filter p q [] = elim (p q) as (λ t. false ≡ (t && false)) [ true ↦ refl | false ↦ refl ]
among-filter p q (x ∷ xs) = elim (cases_eq x q) [
  | inl same ↦ here same (among-filter p q xs)
  | inr apart ↦ away (among-filter p q xs) apart
]
  where
    here : x ≡ q → among q (filter p xs) ≡ (p q && among q xs) → among q (cond (p x) (x ∷ filter p xs) (filter p xs)) ≡ (p q && (eqb x q || among q xs))
    here same rest = elim (p x) as (λ t. p x ≡ t → among q (cond t (x ∷ filter p xs) (filter p xs)) ≡ (p q && (eqb x q || among q xs))) [
      | true ↦ λ is. ap (λ b. b || among q (filter p xs)) (eq-eqb x q same) ∙ sym (ap (λ b. b && (eqb x q || among q xs)) (sym (ap p same) ∙ is) ∙ ap (λ b. b || among q xs) (eq-eqb x q same))
      | false ↦ λ is. rest ∙ ap (λ b. b && among q xs) (sym (ap p same) ∙ is) ∙ sym (ap (λ b. b && (eqb x q || among q xs)) (sym (ap p same) ∙ is))
    ] refl

    away : among q (filter p xs) ≡ (p q && among q xs) → (x ≡ q → ⊥) → among q (cond (p x) (x ∷ filter p xs) (filter p xs)) ≡ (p q && (eqb x q || among q xs))
    away rest apart =
        elim (p x) as (λ t. among q (cond t (x ∷ filter p xs) (filter p xs)) ≡ among q (filter p xs)) [
          | true ↦ ap (λ b. b || among q (filter p xs)) (ne_eqb x q apart)
          | false ↦ refl
        ] ∙ rest ∙ ap (λ b. p q && (b || among q xs)) (sym (ne_eqb x q apart))

rises-filter : (p : ℕ → Bool) (low : ℕ) (xs : List ℕ) → Rises low xs → Rises low (filter p xs)
rises-filter p low [] rises = tt
rises-filter p low (x ∷ xs) rises = elim (p x) as (λ t. Rises low (cond t (x ∷ filter p xs) (filter p xs))) [
  | true ↦ (rises.0, rises-filter p (x + 1) xs rises.1)
  | false ↦ rises_weaker (x + 1) low (filter p xs) (omega (arith, rises.0)) (rises-filter p (x + 1) xs rises.1)
]

first_of : (a b : Bool) → T (a && b) → T a
first_of true b t = tt
first_of false b t = t

second_of : (a b : Bool) → T (a && b) → T b
second_of true b t = t
second_of false b t = absurd t

less_is : (a b : ℕ) → T (is_lt (nat_cmp a b)) → a < b
less_is a b t = elim (cases_Bool (is_lt (nat_cmp a b))) [
  | inl less ↦ lt_from less
  | inr not_less ↦ absurd (subst T not_less t)
]
  where
    lt_from : is_lt (nat_cmp a b) ≡ true → a < b
    lt_from less = grind (arith, nat_tests)

rises-entries : (es : List (ℕ × Grant)) → T (is_sorted nat_cmp es) → Rises 0 (map (λ e. e.0) es)
rises-entries [] sorted = tt
rises-entries (e ∷ es) sorted =
    (omega arith, raised e.0 es (first_of _ _ sorted) (rises-entries es (second_of _ _ sorted)))
  where
    raised : (x : ℕ) (fs : List (ℕ × Grant)) → T (below_all nat_cmp x fs) → Rises 0 (map (λ f. f.0) fs) → Rises (x + 1) (map (λ f. f.0) fs)
    raised x [] below rises = tt
    raised x (f ∷ fs) below rises = let less : x < f.0 = less_is x f.0 (first_of _ _ below) in (omega arith, rises.1)

keys_rise : (held : FinMap nat_cmp Grant) → Rises 0 (maps.keys held)
keys_rise held = rises-entries (maps.entries held) (maps.entries_sorted held)

any_same : (q : ℕ) (xs : List ℕ) → among q xs ≡ list_any (eq_by_cmp nat_cmp q) xs
any_same q [] = refl
any_same q (x ∷ xs) = λ i. tied x i || any_same q xs i
  where
    turned : (x : ℕ) → eqb x q ≡ eqb q x
    turned x = grind (arith, nat_tests)

    tied : (x : ℕ) → eqb x q ≡ eq_by_cmp nat_cmp q x
    tied x = turned x ∙ sym (unsigned_tied q x)

among-keys : (held : FinMap nat_cmp Grant) (q : ℕ) → among q (maps.keys held) ≡ is_some (maps.get held q)
among-keys held q = any_same q (maps.keys held) ∙ sym (maps.contains_key-keys held q)

no_pair_stale : (d : Decisions) (class : Class) (phase : Phase) (follows : Option ℕ) → is_stale_pair d class phase None follows ≡ false
no_pair_stale d class (Settled number version) follows = refl
no_pair_stale d class (Pending number old new) follows = refl

module _ (d : Decisions) (class : Class) (phase : Phase) (held : FinMap nat_cmp Grant) where
  -- what each used slot follows
  abbrev follows : FinMap nat_cmp ℕ
  follows = mapped (λ place grant. followed phase grant.number) held

  -- the list of the definition has the stale slots
  pub stale_slots_has : (q : ℕ) → among q (stale_slots d class phase (pair_in held) follows) ≡ stale_at d class phase (maps.get held q)
  stale_slots_has q =
      among-filter (λ place. is_stale_pair d class phase (pair_in held place) (maps.get follows place)) q (maps.keys follows)
      ∙ ap (λ b. is_stale_pair d class phase (pair_in held q) (maps.get follows q) && b) (ap (among q) (keys-mapped _ held) ∙ among-keys held q)
      ∙ ap (λ o. is_stale_pair d class phase (pair_in held q) o && is_some (maps.get held q)) (get-mapped (λ place grant. followed phase grant.number) held q)
      ∙ by_slot (maps.get held q)
    where
      and_true : (b : Bool) → (b && true) ≡ b
      and_true true = refl
      and_true false = refl

      by_slot : (o : Option Grant) → (is_stale_pair d class phase (option_map (λ grant. record { source = grant.s; target = grant.t }) o) (option_map (λ grant. followed phase grant.number) o) && is_some o) ≡ stale_at d class phase o
      by_slot None = ap (λ b. b && false) (no_pair_stale d class phase None)
      by_slot (Some grant) = and_true _

  -- and rises
  pub stale_slots_rise : Rises 0 (stale_slots d class phase (pair_in held) follows)
  stale_slots_rise = rises-filter (λ place. is_stale_pair d class phase (pair_in held place) (maps.get follows place)) 0 (maps.keys follows) (subst (Rises 0) (sym (keys-mapped _ held)) (keys_rise held))

-- the record that contracts see
abbrev pub rights_of : Rule → Class → Phase → FinMap nat_cmp Grant → List ℕ → Rights
rights_of rule class phase held words = record { rule = rule; class = class; phase = phase; held = held; stale = places words }

-- the promise, slot by slot, and as contracts state it
pub good_from_fit : {d : Decisions} {rule : Rule} {class : Class} {phase : Phase} (held : FinMap nat_cmp Grant) (words : List ℕ) → Fit d (rights_of rule class phase held words) → IsGood d rule class phase held words
unfolding Fit
good_from_fit {d} {rule} {class} {phase} held words fit =
    record {
      right = fit.right;
      stale = λ q. sym (among-places words q) ∙ ap (among q) fit.stale ∙ stale_slots_has d class phase held q;
      versions = fit.versions;
    }

pub fit_from_good : {d : Decisions} {rule : Rule} {class : Class} {phase : Phase} (held : FinMap nat_cmp Grant) (words : List ℕ) → IsGood d rule class phase held words → Fit d (rights_of rule class phase held words)
unfolding Fit
fit_from_good {d} {rule} {class} {phase} held words good =
    record {
      right = good.right;
      stale = same_lists 0 _ _ (places_rise words) (stale_slots_rise d class phase held) (λ q. among-places words q ∙ good.stale q ∙ sym (stale_slots_has d class phase held q));
      versions = good.versions;
    }

-- ---- the promise after a slot is written

some_is : (a b : Grant) → Some a ≡ Some b → a ≡ b
some_is a b same = cc

none_some : (grant : Grant) → None ≡ Some grant → ⊥
none_some grant same = cc

module _ {d : Decisions} {rule : Rule} {class : Class} {phase : Phase} {held : FinMap nat_cmp Grant} {words : List ℕ} (good : IsGood d rule class phase held words) where
  pub good_put : (held' : FinMap nat_cmp Grant) (words' : List ℕ) (place : ℕ) (grant : Grant) → held' ≡ maps.insert held place grant → IsRight d rule class phase grant
      → ((q : ℕ) → holds words' q ≡ cond (eqb q place) (stale_at d class phase (Some grant)) (holds words q)) → IsGood d rule class phase held' words'
  good_put held' words' place grant is right listed =
      record {
        right = λ q other used. elim (cases_eq q place) [
          | inl same ↦ subst (IsRight d rule class phase) (some_is grant other (sym (filled q same) ∙ used)) right
          | inr apart ↦ good.right q other (sym (others q apart) ∙ used)
        ];
        stale = λ q. listed q ∙ elim (cases_eq q place) [
          | inl same ↦ ap (λ t. cond t (stale_at d class phase (Some grant)) (holds words q)) (eq-eqb q place same) ∙ sym (ap (stale_at d class phase) (filled q same))
          | inr apart ↦ ap (λ t. cond t (stale_at d class phase (Some grant)) (holds words q)) (ne_eqb q place apart) ∙ good.stale q ∙ sym (ap (stale_at d class phase) (others q apart))
        ];
        versions = good.versions;
      }
    where
      filled : (q : ℕ) → q ≡ place → maps.get held' q ≡ Some grant
      filled q same = ap (λ m. maps.get m q) is ∙ get-put held place grant q ∙ ap (λ t. cond t (Some grant) (maps.get held q)) (eq-eqb q place same)

      others : (q : ℕ) → (q ≡ place → ⊥) → maps.get held' q ≡ maps.get held q
      others q apart = ap (λ m. maps.get m q) is ∙ get-put held place grant q ∙ ap (λ t. cond t (Some grant) (maps.get held q)) (ne_eqb q place apart)

  -- some slots freed
  pub good_without : (held' : FinMap nat_cmp Grant) (words' : List ℕ) (away : ℕ → Bool) → ((q : ℕ) → maps.get held' q ≡ cond (away q) None (maps.get held q))
      → ((q : ℕ) → holds words' q ≡ (not (away q) && holds words q)) → IsGood d rule class phase held' words'
  good_without held' words' away gets listed =
      record {
        right = λ q grant used. elim (cases_Bool (away q)) [
          | inl gone ↦ absurd (none_some grant (sym (gets q ∙ ap (λ t. cond t None (maps.get held q)) gone) ∙ used))
          | inr stays ↦ good.right q grant (sym (gets q ∙ ap (λ t. cond t None (maps.get held q)) stays) ∙ used)
        ];
        stale = λ q. listed q ∙ ap (λ b. not (away q) && b) (good.stale q) ∙ elim (cases_Bool (away q)) [
          | inl gone ↦ ap (λ t. not t && stale_at d class phase (maps.get held q)) gone ∙ sym (ap (stale_at d class phase) (gets q ∙ ap (λ t. cond t None (maps.get held q)) gone))
          | inr stays ↦ ap (λ t. not t && stale_at d class phase (maps.get held q)) stays ∙ sym (ap (stale_at d class phase) (gets q ∙ ap (λ t. cond t None (maps.get held q)) stays))
        ];
        versions = good.versions;
      }

  -- nothing changed
  pub good_same : (held' : FinMap nat_cmp Grant) (words' : List ℕ) → held' ≡ held → ((q : ℕ) → holds words' q ≡ holds words q) → IsGood d rule class phase held' words'
  good_same held' words' is listed =
      record {
        right = λ q grant used. good.right q grant (ap (λ m. maps.get m q) (sym is) ∙ used);
        stale = λ q. listed q ∙ good.stale q ∙ ap (λ m. stale_at d class phase (maps.get m q)) (sym is);
        versions = good.versions;
      }

  -- only a slot that holds a grant is stale
  pub stale_held : (q : ℕ) → holds words q ≡ true → is_some (maps.get held q) ≡ true
  stale_held q listed = by_slot (maps.get held q) (sym (good.stale q) ∙ listed)
    where
      by_slot : (o : Option Grant) → stale_at d class phase o ≡ true → is_some o ≡ true
      by_slot None stale = absurd (false≢true stale)
      by_slot (Some grant) stale = refl

-- ---- the promise after the phase moved

-- with nothing pending no slot is stale
pub none_stale : {d : Decisions} {rule : Rule} {class : Class} {number version : ℕ} {held : FinMap nat_cmp Grant} {words : List ℕ} → IsGood d rule class (Settled number version) held words → (q : ℕ) → holds words q ≡ false
none_stale {d} {rule} {class} {number} {version} {held} good q = good.stale q ∙ by_slot (maps.get held q)
  where
    by_slot : (o : Option Grant) → stale_at d class (Settled number version) o ≡ false
    by_slot None = refl
    by_slot (Some grant) = refl

-- a change begun: the slots whose pairs have other vectors are stale
pub good_started : {d : Decisions} {rule : Rule} {class : Class} {held : FinMap nat_cmp Grant} {words : List ℕ} (number old new : ℕ) (words' : List ℕ)
    → IsGood d rule class (Settled (number - 1) old) held words → AreNumbered (Settled (number - 1) old) held → 0 < number → old < d.versions → new < d.versions
    → ((q : ℕ) → holds words' q ≡ is_changed d class old new (maps.get held q)) → IsGood d rule class (Pending number old new) held words'
good_started {d} {rule} {class} {held} number old new words' good numbered next old_below new_below listed =
    record {
      right = λ q grant used.
          let right = good.right q grant used in
          record { source = right.source; target = right.target; bits = right.bits ∙ ap (λ v. bits_under d rule class v grant.s grant.t grant.mode) (sym (older q grant used)) };
      stale = λ q. listed q ∙ by_slot q (maps.get held q) refl;
      versions = (next, old_below, new_below);
    }
  where
    apart : (q : ℕ) (grant : Grant) → maps.get held q ≡ Some grant → eqb grant.number number ≡ false
    apart q grant used = let small : grant.number ≤ number - 1 = numbered q grant used in ne_eqb grant.number number (λ same. omega arith)

    older : (q : ℕ) (grant : Grant) → maps.get held q ≡ Some grant → version_at (Pending number old new) grant.number ≡ old
    older q grant used = ap (λ t. cond t new old) (apart q grant used)

    by_slot : (q : ℕ) (o : Option Grant) → maps.get held q ≡ o → is_changed d class old new o ≡ stale_at d class (Pending number old new) o
    by_slot q None used = refl
    by_slot q (Some grant) used =
        sym (ap (λ n. eqb (n + 1) number && not (eqb (d.vector old grant.s grant.t class) (d.vector new grant.s grant.t class))) (ap (λ t. cond t number (number - 1)) (apart q grant used))
        ∙ ap (λ t. t && not (eqb (d.vector old grant.s grant.t class) (d.vector new grant.s grant.t class))) (eq-eqb (number - 1 + 1) number (omega arith)))

-- a change ended, with no slot stale
pub good_settled : {d : Decisions} {rule : Rule} {class : Class} {held : FinMap nat_cmp Grant} {words : List ℕ} (number old new : ℕ)
    → IsGood d rule class (Pending number old new) held words → ((q : ℕ) → holds words q ≡ false) → IsGood d rule class (Settled number new) held words
good_settled {d} {rule} {class} {held} number old new good none =
    record {
      right = λ q grant used.
          let right = good.right q grant used in
          record { source = right.source; target = right.target; bits = right.bits ∙ newer q grant used };
      stale = λ q. none q ∙ by_slot (maps.get held q);
      versions = good.versions.2;
    }
  where
    by_slot : (o : Option Grant) → false ≡ stale_at d class (Settled number new) o
    by_slot None = refl
    by_slot (Some grant) = refl

    not_false : (b : Bool) → not b ≡ false → b ≡ true
    not_false true is = refl
    not_false false is = absurd (true≢false is)

    same_vectors : (grant : Grant) → eqb grant.number number ≡ false → stale_at d class (Pending number old new) (Some grant) ≡ false → d.vector old grant.s grant.t class ≡ d.vector new grant.s grant.t class
    same_vectors grant off fresh = eqb-true _ _ (not_false _ (sym (
        ap (λ n. eqb (n + 1) number && not (eqb (d.vector old grant.s grant.t class) (d.vector new grant.s grant.t class))) (ap (λ t. cond t number (number - 1)) off)
        ∙ ap (λ t. t && not (eqb (d.vector old grant.s grant.t class) (d.vector new grant.s grant.t class))) (eq-eqb (number - 1 + 1) number (omega (arith, good.versions.0)))) ∙ fresh))

    newer : (q : ℕ) (grant : Grant) → maps.get held q ≡ Some grant → bits_under d rule class (version_at (Pending number old new) grant.number) grant.s grant.t grant.mode ≡ bits_under d rule class new grant.s grant.t grant.mode
    newer q grant used = elim (cases_Bool (eqb grant.number number)) [
      | inl is ↦ ap (λ t. bits_under d rule class (cond t new old) grant.s grant.t grant.mode) is
      | inr off ↦ ap (λ t. bits_under d rule class (cond t new old) grant.s grant.t grant.mode) off
          ∙ ap (Rattle.retained_rights.specs.Rules.ruled rule grant.mode) (same_vectors grant off (sym (good.stale q ∙ ap (stale_at d class (Pending number old new)) used) ∙ none q))
    ]

-- ---- numbers

pub numbered_put : (phase : Phase) (held held' : FinMap nat_cmp Grant) (place : ℕ) (grant : Grant) → AreNumbered phase held → held' ≡ maps.insert held place grant
    → grant.number ≤ number_of phase → AreNumbered phase held'
numbered_put phase held held' place grant numbered is small q other used = elim (cases_eq q place) [
  | inl same ↦ subst (λ g. g.number ≤ number_of phase) (some_is grant other (sym (at q ∙ ap (λ t. cond t (Some grant) (maps.get held q)) (eq-eqb q place same)) ∙ used)) small
  | inr apart ↦ numbered q other (sym (at q ∙ ap (λ t. cond t (Some grant) (maps.get held q)) (ne_eqb q place apart)) ∙ used)
]
  where
    at : (q : ℕ) → maps.get held' q ≡ cond (eqb q place) (Some grant) (maps.get held q)
    at q = ap (λ m. maps.get m q) is ∙ get-put held place grant q

pub numbered_without : (phase : Phase) (held held' : FinMap nat_cmp Grant) (away : ℕ → Bool) → AreNumbered phase held
    → ((q : ℕ) → maps.get held' q ≡ cond (away q) None (maps.get held q)) → AreNumbered phase held'
numbered_without phase held held' away numbered gets q grant used = elim (cases_Bool (away q)) [
  | inl gone ↦ absurd (none_some grant (sym (gets q ∙ ap (λ t. cond t None (maps.get held q)) gone) ∙ used))
  | inr stays ↦ numbered q grant (sym (gets q ∙ ap (λ t. cond t None (maps.get held q)) stays) ∙ used)
]

-- a number that may be named is not above the newest
pub named_small : (phase : Phase) (number : ℕ) → MayName phase number → number ≤ number_of phase
named_small (Settled settled version) number named = omega arith
named_small (Pending pending old new) number (inl is) = omega arith
named_small (Pending pending old new) number (inr before) = omega arith

-- a place listed where it is to be, when it was not
pub listed_put : (words : List ℕ) (place : ℕ) (b : Bool) (q : ℕ) → holds words place ≡ false → ((b && eqb q place) || holds words q) ≡ cond (eqb q place) b (holds words q)
listed_put words place b q none = elim (cases_eq q place) [
  | inl same ↦ ap (λ t. (b && t) || holds words q) (eq-eqb q place same) ∙ ap (λ t. (b && true) || t) (ap (holds words) same ∙ none) ∙ alone b ∙ sym (ap (λ t. cond t b (holds words q)) (eq-eqb q place same))
  | inr apart ↦ ap (λ t. (b && t) || holds words q) (ne_eqb q place apart) ∙ nothing b ∙ sym (ap (λ t. cond t b (holds words q)) (ne_eqb q place apart))
]
  where
    alone : (b : Bool) → ((b && true) || false) ≡ b
    alone true = refl
    alone false = refl

    nothing : (b : Bool) → ((b && false) || holds words q) ≡ holds words q
    nothing true = refl
    nothing false = refl

-- a free slot is not stale
pub free_fresh : {d : Decisions} {rule : Rule} {class : Class} {phase : Phase} {held : FinMap nat_cmp Grant} {words : List ℕ} → IsGood d rule class phase held words
    → (q : ℕ) → maps.get held q ≡ None → holds words q ≡ false
free_fresh {d} {rule} {class} {phase} good q none = good.stale q ∙ ap (stale_at d class phase) none

nothing_among : (xs : List ℕ) (q : ℕ) → length xs ≡ 0 → among q xs ≡ false
nothing_among [] q none = refl
nothing_among (x ∷ xs) q none = absurd (omega arith)

-- with no place listed the words hold none
pub no_places : (words : List ℕ) → length (places words) ≡ 0 → (q : ℕ) → holds words q ≡ false
no_places words none q = sym (among-places words q) ∙ nothing_among (places words) q none

-- ---- the pending number

-- bits under the newest number leave no slot stale
pub newest_fresh : (d : Decisions) (class : Class) (phase : Phase) (grant : Grant) → is_pending phase ≡ true → grant.number ≡ number_of phase → stale_at d class phase (Some grant) ≡ false
newest_fresh d class (Settled number version) grant pending newest = refl
newest_fresh d class (Pending number old new) grant pending newest =
    ap (λ n. eqb (n + 1) number && not (eqb (d.vector old grant.s grant.t class) (d.vector new grant.s grant.t class))) (ap (λ t. cond t number (number - 1)) (eq-eqb grant.number number newest))
    ∙ ap (λ t. t && not (eqb (d.vector old grant.s grant.t class) (d.vector new grant.s grant.t class))) (ne_eqb (number + 1) number (λ same. omega arith))

-- the version of the newest number is one of the decider's
pub newest_version : (versions : ℕ) (phase : Phase) → AreVersions versions phase → version_at phase (number_of phase) < versions
newest_version versions (Settled number version) below = below
newest_version versions (Pending number old new) below = subst (λ v. v < versions) (sym (ap (λ t. cond t new old) (eq-eqb number number refl))) below.2

pub numbered_mapped : (phase : Phase) (held now : FinMap nat_cmp Grant) (f : ℕ → Grant → Grant) → AreNumbered phase held → now ≡ mapped f held
    → ((q : ℕ) (grant : Grant) → grant.number ≤ number_of phase → (f q grant).number ≤ number_of phase) → AreNumbered phase now
numbered_mapped phase held now f numbered is small q grant used = by_slot (maps.get held q) refl (sym (get-mapped f held q) ∙ ap (λ m. maps.get m q) (sym is) ∙ used)
  where
    by_slot : (o : Option Grant) → maps.get held q ≡ o → option_map (f q) (maps.get held q) ≡ Some grant → grant.number ≤ number_of phase
    by_slot None was same = absurd (none_some grant (sym (ap (option_map (f q)) was) ∙ same))
    by_slot (Some before) was same = subst (λ g. g.number ≤ number_of phase) (some_is (f q before) grant (sym (ap (option_map (f q)) was) ∙ same)) (small q before (numbered q before was))

pub not_above : (number : ℕ) → number ≤ number
not_above number = omega arith

pub number_either : (b : Bool) (x y : Grant) (limit : ℕ) → x.number ≤ limit → y.number ≤ limit → (cond b x y).number ≤ limit
number_either true x y limit hx hy = hx
number_either false x y limit hx hy = hy
