-- What a change of the processes, and of the grants on what changed, leaves.
use Rattle.std.proofs.Common.{◌≡◌, ℕ, ◌+◌, ◌-◌, ◌<◌, IsTrue, Bool, true, false, cond, not, eqb, Option, Some, None, is_some, zero, suc, refl, sym, ap, subst, ◌∙◌, inl, inr, arith}
use Rattle.std.specs.Prelude.{option_map, ◌==◌, if◌then◌else◌}
use Rattle.std.specs.Ordering.{nat_cmp}
use Rattle.std.specs.Cmp.{nat_cmp_total}
use Rattle.std.specs.FinMap as maps
use Rattle.std.proofs.lemmas.Bool.{cases_eq, eq-eqb, ne_eqb, false≢true}
use Rattle.access_vectors.specs.Decisions.{Decisions}
use Rattle.access_vectors.specs.Mapped.{mapped}
use Rattle.access_vectors.proofs.MappedLemmas.{get-mapped}
use Rattle.slot_tables.proofs.SlotLemmas.{get-put, get-taken}
use Rattle.retained_rights.specs.Claims.{Claim, Claims, claims_of, is_for, not_for, all_relabelled, following_for}
use Rattle.retained_rights.specs.Rights.{Rights, Fit, follows_of}
use Rattle.retained_rights.proofs.MapLemmas.{some_same, none_some, mapped-mapped, mapped-retain_keys}
use Rattle.retained_rights.proofs.StepLemmas.{step_as, step_without, step_relabelled}
use Rattle.process_calls.specs.PlainManager.{follows_moved, follows_without}
use Rattle.process_calls.specs.Rows.{is_attached_to, slots_without, gone}
use Rattle.process_calls.specs.States.{with_process}
use Rattle.process_calls.specs.declared.process.Process.{Process}
use Rattle.process_store.specs.Stores.{Numbered, StoreView, IsProcessOf, IsLinked, IsInStep, IsCounted, Safe, state_of, slots_of, follows}
use Rattle.process_store.specs.Laws.{safe_is}
use Rattle.process_store.proofs.Linking.{AreKnown, with_both, safe_moved}

-- a process at a number
module _ (processes : Numbered) (pid : ℕ) (process : Process) where
  at_pid : maps.get (maps.insert processes pid process) pid ≡ Some process
  at_pid = get-put processes pid process pid ∙ ap (λ t. cond t (Some process) (maps.get processes pid)) (eq-eqb pid pid refl)

  elsewhere : (q : ℕ) → (q ≡ pid → ⊥) → maps.get (maps.insert processes pid process) q ≡ maps.get processes q
  elsewhere q apart = get-put processes pid process q ∙ ap (λ t. cond t (Some process) (maps.get processes q)) (ne_eqb q pid apart)

  process_put : (object was label : ℕ) → (object ≡ pid → process.label ≡ label) → ((object ≡ pid → ⊥) → was ≡ label) → IsProcessOf processes object was
      → IsProcessOf (maps.insert processes pid process) object label
  process_put object was label labelled same_label is = elim (cases_eq object pid) [
    | inl same ↦ record { process = process; held = ap (maps.get (maps.insert processes pid process)) same ∙ at_pid; label_is = labelled same }
    | inr apart ↦ record { process = is.process; held = elsewhere object apart ∙ is.held; label_is = is.label_is ∙ same_label apart }
  ]

  -- where none was
  process_beside : maps.get processes pid ≡ None → (object label : ℕ) → IsProcessOf processes object label → IsProcessOf (maps.insert processes pid process) object label
  process_beside unused object label is =
      process_put object label label (λ same. absurd (none_some is.process (sym unused ∙ ap (maps.get processes) (sym same) ∙ is.held))) (λ apart. refl) is

  -- where one with the same label was
  process_alike : IsProcessOf processes pid process.label → (object label : ℕ) → IsProcessOf processes object label → IsProcessOf (maps.insert processes pid process) object label
  process_alike there object label is =
      process_put object label label
      (λ same. sym there.label_is ∙ ap (λ (x : Process). x.label) (some_same there.process is.process (sym there.held ∙ ap (maps.get processes) (sym same) ∙ is.held)) ∙ is.label_is)
      (λ apart. refl) is

  labels_put : (d : Decisions) → IsTrue (d.known process.label) → AreKnown d processes → AreKnown d (maps.insert processes pid process)
  labels_put d known labels q x is = elim (cases_eq q pid) [
    | inl same ↦ subst (λ (y : Process). IsTrue (d.known y.label)) (some_same process x (sym at_pid ∙ ap (maps.get (maps.insert processes pid process)) (sym same) ∙ is)) known
    | inr apart ↦ labels q x (sym (elsewhere q apart) ∙ is)
  ]

-- a process more
module _ (shown : StoreView) (pid : ℕ) (process : Process) (processes : Numbered) (is : processes ≡ maps.insert shown.processes pid process) (unused : maps.get shown.processes pid ≡ None) (step : IsInStep shown) where
  step_added : IsInStep (with_both shown processes shown.rights)
  step_added = step_as step (IsLinked shown.opening.clients processes) (λ place claim link. record {
    target = subst (λ n. IsProcessOf n claim.object claim.t) (sym is) (process_beside shown.processes pid process unused claim.object claim.t link.target);
    source = link.source;
    mode = link.mode;
  })

  pub counted_added : (count : ℕ) → count ≡ maps.len shown.processes → IsCounted (count + 1) (with_both shown processes shown.rights)
  counted_added count counts = record {
    step = step_added;
    count_is = ap (λ n. n + 1) counts
        ∙ sym (ap maps.len is ∙ maps.len-insert nat_cmp_total shown.processes pid process
        ∙ ap (λ o. cond (is_some o) (maps.len shown.processes) (maps.len shown.processes + 1)) unused);
  }

  pub safe_added : (d : Decisions) → IsTrue (d.known process.label) → Safe d shown → Safe d (with_both shown processes shown.rights)
  safe_added d known safe =
      let was = safe_is d shown safe in
      safe_moved d shown processes shown.rights safe step_added (subst (AreKnown d) (sym is) (labels_put shown.processes pid process d known was.labels)) was.rights

-- a process in the place of one with the same label
module _ (shown : StoreView) (pid : ℕ) (process : Process) (processes : Numbered) (is : processes ≡ maps.insert shown.processes pid process) (there : IsProcessOf shown.processes pid process.label) (step : IsInStep shown) where
  step_replaced : IsInStep (with_both shown processes shown.rights)
  step_replaced = step_as step (IsLinked shown.opening.clients processes) (λ place claim link. record {
    target = subst (λ n. IsProcessOf n claim.object claim.t) (sym is) (process_alike shown.processes pid process there claim.object claim.t link.target);
    source = link.source;
    mode = link.mode;
  })

  pub counted_replaced : (count : ℕ) → count ≡ maps.len shown.processes → IsCounted count (with_both shown processes shown.rights)
  counted_replaced count counts = record {
    step = step_replaced;
    count_is = counts
        ∙ sym (ap maps.len is ∙ maps.len-insert nat_cmp_total shown.processes pid process
        ∙ ap (λ o. cond (is_some o) (maps.len shown.processes) (maps.len shown.processes + 1)) there.held);
  }

  pub safe_replaced : (d : Decisions) → Safe d shown → Safe d (with_both shown processes shown.rights)
  safe_replaced d safe =
      let was = safe_is d shown safe in
      safe_moved d shown processes shown.rights safe step_replaced
      (subst (AreKnown d) (sym is) (labels_put shown.processes pid process d (subst (λ sid. IsTrue (d.known sid)) there.label_is (was.labels pid there.process there.held)) was.labels)) was.rights

-- where a process is, there is one at least
pub some_kept : (processes : Numbered) (pid : ℕ) → is_some (maps.get processes pid) ≡ true → (count : ℕ) → count ≡ maps.len processes → 0 < count
some_kept processes pid there zero counts =
    absurd (false≢true (sym (ap is_some (ap (λ m. maps.get m pid) (maps.empty_of_len processes (sym counts)) ∙ maps.get-empty nat_cmp pid)) ∙ there))
some_kept processes pid there (suc count) counts = omega arith

-- a slot is for a process exactly where it is attached to it
attached_as : (claims : Claims) (pid place : ℕ) → is_for pid (maps.get claims place) ≡ is_attached_to pid (maps.get (slots_of claims) place)
attached_as claims pid place = at (maps.get claims place) ∙ ap (is_attached_to pid) (sym (get-mapped (λ q claim. claim.object) claims place))
  where
    at : (o : Option Claim) → is_for pid o ≡ is_attached_to pid (option_map (λ claim. claim.object) o)
    at None = refl
    at (Some claim) = refl

-- a process less, and the grants on it
module _ (shown : StoreView) (pid : ℕ) (there : is_some (maps.get shown.processes pid) ≡ true) (processes : Numbered) (now : Rights) (is : processes ≡ maps.remove shown.processes pid)
    (rule : now.rule ≡ shown.rights.rule) (class : now.class ≡ shown.rights.class) (claims : claims_of now ≡ not_for pid (claims_of shown.rights) (claims_of shown.rights)) (step : IsInStep shown) where
  still : (q : ℕ) → (q ≡ pid → ⊥) → maps.get processes q ≡ maps.get shown.processes q
  still q apart = ap (λ m. maps.get m q) is ∙ get-taken shown.processes pid q ∙ ap (λ t. cond t None (maps.get shown.processes q)) (ne_eqb q pid apart)

  step_left : IsInStep (with_both shown processes now)
  step_left = step_without step now rule class (IsLinked shown.opening.clients processes) pid claims (λ place claim apart link. record {
    target = record { process = link.target.process; held = still claim.object apart ∙ link.target.held; label_is = link.target.label_is };
    source = link.source;
    mode = link.mode;
  })

  pub counted_left : (count : ℕ) → count ≡ maps.len shown.processes → IsCounted (count - 1) (with_both shown processes now)
  counted_left count counts = record {
    step = step_left;
    count_is = ap (λ n. n - 1) counts
        ∙ sym (ap maps.len is ∙ maps.len-remove nat_cmp_total shown.processes pid
        ∙ ap (λ b. cond b (maps.len shown.processes - 1) (maps.len shown.processes)) there);
  }

  labels_left : (d : Decisions) → AreKnown d shown.processes → AreKnown d processes
  labels_left d labels q x at = elim (cases_eq q pid) [
    | inl same ↦ absurd (none_some x (sym (ap (λ t. cond t None (maps.get shown.processes q)) (eq-eqb q pid same)) ∙ sym (ap (λ m. maps.get m q) is ∙ get-taken shown.processes pid q) ∙ at))
    | inr apart ↦ labels q x (sym (still q apart) ∙ at)
  ]

  pub safe_left : (d : Decisions) → Safe d shown → (Fit d shown.rights → Fit d now) → Safe d (with_both shown processes now)
  safe_left d safe fit = let was = safe_is d shown safe in safe_moved d shown processes now safe step_left (labels_left d was.labels) (fit was.rights)

  pub state_left : state_of (with_both shown processes now) ≡ gone (state_of shown) pid
  state_left = λ i. record { opening = shown.opening; processes = is i; slots = slots i }
    where
      slots : slots_of (claims_of now) ≡ slots_without pid (slots_of (claims_of shown.rights))
      slots =
          ap slots_of claims ∙ mapped-retain_keys _ (claims_of shown.rights) _
          ∙ (λ i. maps.retain_keys (slots_of (claims_of shown.rights)) (λ place. not (attached_as (claims_of shown.rights) pid place i)))

  pub follows_left : follows_of now ≡ not_for pid (claims_of shown.rights) (follows shown) → follows_of now ≡ follows_without (state_of shown) pid (follows shown)
  follows_left following = following ∙ (λ i. maps.retain_keys (follows shown) (λ place. not (attached_as (claims_of shown.rights) pid place i)))

-- a process with another label, and the grants on it moved
module _ (shown : StoreView) (pid : ℕ) (process : Process) (there : is_some (maps.get shown.processes pid) ≡ true) (processes : Numbered) (now : Rights) (is : processes ≡ maps.insert shown.processes pid process)
    (rule : now.rule ≡ shown.rights.rule) (class : now.class ≡ shown.rights.class) (claims : claims_of now ≡ all_relabelled pid process.label (claims_of shown.rights)) (step : IsInStep shown) where
  process_now : (object was label : ℕ) → (object ≡ pid → process.label ≡ label) → ((object ≡ pid → ⊥) → was ≡ label) → IsProcessOf shown.processes object was → IsProcessOf processes object label
  process_now object was label here away target = subst (λ n. IsProcessOf n object label) (sym is) (process_put shown.processes pid process object was label here away target)

  step_now : IsInStep (with_both shown processes now)
  step_now = step_relabelled step now rule class (IsLinked shown.opening.clients processes) pid process.label claims
      (λ place claim same link. record { target = process_now claim.object claim.t process.label (λ tied. refl) (λ apart. absurd (apart same)) link.target; source = link.source; mode = link.mode })
      (λ place claim apart link. record { target = process_now claim.object claim.t claim.t (λ tied. absurd (apart tied)) (λ away. refl) link.target; source = link.source; mode = link.mode })

  pub counted_relabelled : (count : ℕ) → count ≡ maps.len shown.processes → IsCounted count (with_both shown processes now)
  counted_relabelled count counts = record {
    step = step_now;
    count_is = counts
        ∙ sym (ap maps.len is ∙ maps.len-insert nat_cmp_total shown.processes pid process
        ∙ ap (λ b. cond b (maps.len shown.processes) (maps.len shown.processes + 1)) there);
  }

  pub safe_relabelled : (d : Decisions) → IsTrue (d.known process.label) → Safe d shown → Fit d now → Safe d (with_both shown processes now)
  safe_relabelled d known safe fit =
      safe_moved d shown processes now safe step_now (subst (AreKnown d) (sym is) (labels_put shown.processes pid process d known (safe_is d shown safe).labels)) fit

  pub state_relabelled : state_of (with_both shown processes now) ≡ with_process (state_of shown) pid process
  state_relabelled = λ i. record { opening = shown.opening; processes = is i; slots = slots i }
    where
      same : (claim : Claim) (b : Bool) → (if b then record { object = claim.object; mode = claim.mode; s = claim.s; t = process.label } else claim).object ≡ claim.object
      same claim true = refl
      same claim false = refl

      slots : slots_of (claims_of now) ≡ slots_of (claims_of shown.rights)
      slots = ap slots_of claims ∙ mapped-mapped _ _ (claims_of shown.rights) ∙ (λ i. mapped (λ place claim. same claim (claim.object == pid) i) (claims_of shown.rights))

  pub follows_relabelled : (number : ℕ) → follows_of now ≡ following_for pid number (claims_of shown.rights) (follows shown) → follows_of now ≡ follows_moved (state_of shown) pid number (follows shown)
  follows_relabelled number following =
      following ∙ (λ i. mapped (λ place before. if attached_as (claims_of shown.rights) pid place i then number else before) (follows shown))
