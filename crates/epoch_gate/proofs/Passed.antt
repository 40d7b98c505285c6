-- A pass that is held, by its number and version.
use Rattle.std.proofs.Common.{◌≡◌, ℕ, List, refl, subst}
use Rattle.gate_rule.specs.declared.view.Role.{Role}
use Rattle.gate_rule.specs.declared.view.Role.TheVariants.{Caller}
use Rattle.gate_rule.specs.declared.view.View.{View}
use Rattle.gate_rule.specs.History.{Kind}
use Rattle.gate_rule.specs.Told.{Learns, IsAllowed}
use Rattle.gate_rule.specs.declared.view.Pass.{Pass}
use Rattle.gate_rule.specs.declared.view.Pass.TheVariants.{Out, Inside}
use Rattle.gate_rule.specs.Views.{number_of, pass_version}
use Rattle.epoch_gate.specs.Seats.{IsInside}

pub inside_is : (p : Pass) → IsInside p → p ≡ Inside (number_of p) (pass_version p)
inside_is Out h = absurd h
inside_is (Inside number version) h = refl

-- what a caller learns of its pass
pub allowed_by : {E D O : Type 0} (kind : E → Kind) (v : View E D O) (n : ℕ) (pass : Pass) (log : List E) → v.role ≡ Caller n → v.rights.pass ≡ pass → Learns kind v v.role log → IsAllowed kind pass log
allowed_by kind v n pass log is same learns = subst (λ (p : Pass). IsAllowed kind p log) same (subst (λ (role : Role). Learns kind v role log) is learns).1
