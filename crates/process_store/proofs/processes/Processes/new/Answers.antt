use Rattle.std.proofs.Common.{◌≡◌, ◌∙◌, sym, ap, subst}
use Rattle.std.specs.FinMap as maps
use Rattle.slot_tables.specs.Slots.{map_of}
use Rattle.slot_tables.proofs.SlotLemmas.{map_of-none}
use Rattle.process_calls.specs.States.{opened_with}
use Rattle.process_store.specs.Stores.{StoreView, IsInStep, Safe, state_of, follows}
use Rattle.process_store.proofs.Linking.{none_opened, step_opened, state_opened, follows_opened, safe_opened}
use Rattle.process_store.proofs.processes.Processes.new.Goals as goal

pub invariant_of-result : goal.invariant_of-result
invariant_of-result g c =
    let shown : StoreView = record { opening = c.args.opening; processes = map_of c.new.result; rights = c.new-2.result } in
    let none : maps.empty ≡ shown.processes = sym (ap map_of c.new.ensures ∙ map_of-none) in
    let is : none_opened c.args.opening ≡ shown = λ i. record { opening = c.args.opening; processes = none i; rights = sym c.new-2.ensures i } in
    record { step = subst IsInStep is (step_opened c.args.opening); count_is = sym (maps.len-empty _ _) ∙ ap maps.len none }

pub returns-clause-state : goal.returns-clause-state
returns-clause-state g c =
    let shown : StoreView = record { opening = c.args.opening; processes = map_of c.new.result; rights = c.new-2.result } in
    let none : maps.empty ≡ shown.processes = sym (ap map_of c.new.ensures ∙ map_of-none) in
    let is : none_opened c.args.opening ≡ shown = λ i. record { opening = c.args.opening; processes = none i; rights = sym c.new-2.ensures i } in
    subst (λ one. state_of one ≡ opened_with c.args.opening) is (state_opened c.args.opening)

pub returns-clause-follows : goal.returns-clause-follows
returns-clause-follows g c =
    let shown : StoreView = record { opening = c.args.opening; processes = map_of c.new.result; rights = c.new-2.result } in
    let none : maps.empty ≡ shown.processes = sym (ap map_of c.new.ensures ∙ map_of-none) in
    let is : none_opened c.args.opening ≡ shown = λ i. record { opening = c.args.opening; processes = none i; rights = sym c.new-2.ensures i } in
    subst (λ one. follows one ≡ maps.empty) is (follows_opened c.args.opening)

pub returns-clause-safe : goal.returns-clause-safe
returns-clause-safe g c = λ d some known.
    let shown : StoreView = record { opening = c.args.opening; processes = map_of c.new.result; rights = c.new-2.result } in
    let none : maps.empty ≡ shown.processes = sym (ap map_of c.new.ensures ∙ map_of-none) in
    let is : none_opened c.args.opening ≡ shown = λ i. record { opening = c.args.opening; processes = none i; rights = sym c.new-2.ensures i } in
    subst (Safe d) is (safe_opened c.args.opening d some known)
