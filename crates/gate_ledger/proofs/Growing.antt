-- Turns that add one line or none, as the gate tells of them.
use Rattle.std.proofs.Common.{◌≡◌, ◌≢◌, ℕ, zero, suc, ◌+◌, ◌-◌, ◌≤◌, true, false, cond, eqb, List, [], ◌∷◌, ◌++◌, sym, ap, ◌∙◌, subst, inr, eq-eqb, Option, Some, None, arith}
use Rattle.access_vectors.specs.Phases.{number_of, is_pending}
use Rattle.gate_rule.specs.declared.view.Item.{Item}
use Rattle.gate_rule.specs.declared.view.StepDone.{StepDone}
use Rattle.gate_rule.specs.declared.view.Trace.{Trace}
use Rattle.gate_rule.specs.declared.view.Pass.TheVariants.{Inside}
use Rattle.gate_rule.specs.declared.view.View.{View}
use Rattle.gate_rule.specs.History.{MayCome, Alternates, StartsWith, settled_in, last_notice}
use Rattle.gate_rule.specs.History.Kind.{Call}
use Rattle.gate_rule.specs.Views.{caller_of, leave_word, one_more, done, traced, entry_added}
use Rattle.gate_rule.proofs.Histories.{alternates_more, phase_settled, phase_pending, nothing_added, one_added}
use Rattle.epoch_gate.specs.Seats.{SeatView}
use Rattle.gate_rule.specs.Tickets.{word_of}
use Rattle.epoch_gate.specs.Known.{IsCallerOf, seen_by, pass_held, found_last, turns_had}
use Rattle.epoch_gate.specs.Calls.{HasWaited, ExtendsAsCaller}
use Rattle.gate_ledger.specs.declared.ledger.Line.{Line}
use Rattle.gate_ledger.specs.Lines.{kind_of}
use Rattle.gate_ledger.specs.Changes.{phase_after, HasTurnAlone}

-- what was counted, as the answer says it
pub shown : (c m older : ℕ) → older + m ≡ c → (looked : Option ℕ) → looked ≡ Some (c - m) → looked ≡ Some older
shown c m older sum looked is = is ∙ ap (λ (x : ℕ). Some x) (omega arith)

-- where nothing older is out, nothing below the newest number is left
pub cleared : (c m older newest clear : ℕ) → older + m ≡ c → older ≤ 0 → cond (eqb (c - m) 0) newest clear ≡ newest
cleared c m older newest clear sum none = ap (λ (b : _). cond b newest clear) (eq-eqb (c - m) 0 (omega arith))

-- a load, named by another word
load_is : (e l : StepDone) (word word' : ℕ) → e ≡ l → l ≡ done word l.found l.found → word ≡ word' → e ≡ done word' e.found e.found
load_is e l word word' same is at = same ∙ (is ∙ (λ i. done (at i) ((sym same i).found) ((sym same i).found)))

-- the one turn of a call
pub had_turn : {D O : Type 0} (s w t : SeatView Line D O) (log : List Line) (l : ℕ) → HasWaited s w → t.view.trace ≡ traced w.view.trace (done 4 (found_last t) (one_more (found_last t))) → turns_had w ≡ turns_had s → turns_had t ≡ turns_had w ++ (record { entry = entry_added w.view.seen log; looked = w.view.admin_view.looked; found = w.view.admin_view.found; left = l }) ∷ [] → HasTurnAlone s t
had_turn s w t log l waited gave same more =
    let item : Item Line = record { entry = entry_added w.view.seen log; looked = w.view.admin_view.looked; found = w.view.admin_view.found; left = l } in
    let last = ap (λ (x : Trace). x.last) gave in (
      record { ticket = word_of w.view.ticket; taken = w.view.trace; waited = waited; item = item; once = more ∙ ap (λ (l : List (Item Line)). l ++ item ∷ []) same; passed = last },
      gave ∙ ap (traced w.view.trace) (sym last),
    )

module _ {E D O : Type 0} where
  -- what the load of the older passes showed, said of the seat before the turn and of the one after it
  pub load_shown : (a u w b : View E D O) (older : ℕ) → b.trace.earlier ≡ w.trace.last → w.trace.last ≡ done (leave_word (u.admin_view.newest + 1)) w.trace.last.found w.trace.last.found → older + w.trace.last.found ≡ u.admin_view.counted
      → u.admin_view.newest ≡ a.admin_view.newest → u.admin_view.counted ≡ a.admin_view.counted → (b.trace.earlier ≡ done (leave_word (a.admin_view.newest + 1)) b.trace.earlier.found b.trace.earlier.found) × (older + b.trace.earlier.found ≡ a.admin_view.counted)
  load_shown a u w b older same is sum newest counted =
      (load_is b.trace.earlier w.trace.last _ _ same is (ap (λ (x : ℕ). leave_word (x + 1)) newest), ap (λ (d : StepDone). older + d.found) same ∙ (sum ∙ counted))

  -- the item of a turn, with its parts as they are known
  pub turn_done : (w u : View E D O) (log : List E) (l : ℕ) → u.admin_view.turns ≡ w.admin_view.turns ++ (record { entry = entry_added w.seen log; looked = w.admin_view.looked; found = w.admin_view.found; left = l }) ∷ []
      → (turns : List (Item E)) (entry : Option E) (looked : Option ℕ) (found : ℕ) → w.admin_view.turns ≡ turns → entry_added w.seen log ≡ entry → w.admin_view.looked ≡ looked → w.admin_view.found ≡ found
      → u.admin_view.turns ≡ turns ++ (record { entry = entry; looked = looked; found = found; left = l }) ∷ []
  turn_done w u log l is turns entry looked found a b c d = is ∙ (λ i. a i ++ (record { entry = b i; looked = c i; found = d i; left = l }) ∷ [])

  pub none_added : (w : View E D O) (items log : List E) → w.seen ≡ items → log ≡ items → entry_added w.seen log ≡ None
  none_added w items log seen same = (λ i. entry_added (seen i) (same i)) ∙ nothing_added items

  pub line_added : (w : View E D O) (items log : List E) (e : E) → w.seen ≡ items → log ≡ items ++ e ∷ [] → entry_added w.seen log ≡ Some e
  line_added w items log e seen more = (λ i. entry_added (seen i) (more i)) ∙ one_added items e

module _ {E : Type 0} where
  -- what begins a list begins an equal one
  pub begins_same : (items log seen : List E) → log ≡ items → StartsWith items seen → StartsWith log seen
  begins_same items log seen same h = (h.0, same ∙ h.1)

pub grown : (versions : ℕ) (log log' : List Line) (e : Line) → Alternates kind_of versions 0 0 log → log' ≡ log ++ e ∷ [] → MayCome versions (settled_in kind_of log) (last_notice kind_of log).0 (kind_of e) → Alternates kind_of versions 0 0 log'
grown versions log log' e h more may = subst (Alternates kind_of versions 0 0) (sym more) (alternates_more kind_of versions log e h may)

-- a caller's call, behind what it has seen with the turn
pub calls : {D O : Type 0} (s : SeatView Line D O) (items log : List Line) (e : Line) (n mark number version : ℕ) → log ≡ items ++ e ∷ [] → seen_by s ≡ items → IsCallerOf n s → pass_held s ≡ Inside number version → kind_of e ≡ Call n mark number → ExtendsAsCaller kind_of s log
calls s items log e n mark number version more seen role pass is =
    inr (e, more ∙ ap (λ (l : List Line). l ++ e ∷ []) (sym seen), (mark, number, version, pass, is ∙ ap (λ (c : ℕ). Call c mark number) (sym (ap caller_of role))))

-- where the settled number is not the last one noticed, that one is pending
pub pends : (versions : ℕ) (items log : List Line) → log ≡ items → Alternates kind_of versions 0 0 items → settled_in kind_of items ≢ (last_notice kind_of items).0 → is_pending (phase_after log) ≡ true
pends versions items log same h apart = ap (λ (l : List Line). is_pending (phase_after l)) same ∙ ap is_pending (phase_pending kind_of versions items h apart).1

pub pending_number : (versions : ℕ) (items : List Line) → Alternates kind_of versions 0 0 items → settled_in kind_of items ≢ (last_notice kind_of items).0 → number_of (phase_after items) ≡ (last_notice kind_of items).0
pending_number versions items h apart = ap number_of (phase_pending kind_of versions items h apart).1

-- and where it is, nothing is
pub rests : (versions : ℕ) (items log : List Line) → log ≡ items → Alternates kind_of versions 0 0 items → settled_in kind_of items ≡ (last_notice kind_of items).0 → is_pending (phase_after log) ≡ false
rests versions items log same h at = ap (λ (l : List Line). is_pending (phase_after l)) same ∙ ap is_pending (phase_settled kind_of versions items h at)
