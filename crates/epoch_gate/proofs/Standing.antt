-- That the whole rule held at a step, said of the view that a contract names.
use Rattle.std.proofs.Common.{◌≡◌, ℕ, ◌+◌, ◌-◌, ◌∙◌, cond, eqb, eq-eqb, sym, ap, subst, Some, arith}
use Rattle.access_vectors.specs.Decisions.{Decisions}
use Rattle.gate_rule.specs.declared.view.Fixed.{Fixed}
use Rattle.gate_rule.specs.declared.view.View.{View}
use Rattle.gate_rule.specs.Meaning.{Means}
use Rattle.gate_rule.specs.Told.{ManagerView, Stands}

module _ {V E D O : Type 0} (M : Means V E D O) (decides : D → Decisions) where
  pub stood_as : (f : Fixed D O) (v v' : View E D O) (word n n' : ℕ) → v ≡ v' → n' ≡ n → v'.fixed ≡ Some f → ((g : Fixed D O) → v.fixed ≡ Some g → ManagerView M decides g v word n) → ManagerView M decides f v' word n'
  stood_as f v v' word n n' same found named told =
      subst (λ (x : ℕ). ManagerView M decides f v' word x) (sym found) (subst (λ (x : View E D O). ManagerView M decides f x word n) same (told f (ap (λ (x : View E D O). x.fixed) same ∙ named)))

  -- the same, of a word that the contract names otherwise
  pub stood_at : (f : Fixed D O) (v v' : View E D O) (word word' n n' : ℕ) → word ≡ word' → v ≡ v' → n' ≡ n → v'.fixed ≡ Some f → ((g : Fixed D O) → v.fixed ≡ Some g → ManagerView M decides g v word n) → ManagerView M decides f v' word' n'
  stood_at f v v' word word' n n' at same found named told = subst (λ (w : ℕ). ManagerView M decides f v' w n') at (stood_as f v v' word n n' same found named told)

module _ {V E D O : Type 0} (M : Means V E D O) (decides : D → Decisions) where
  -- that the rule held, said of an equal view and an equal word
  pub stands_as : (v v' : View E D O) (word n n' : ℕ) → v ≡ v' → n' ≡ n → Stands M decides v word n → Stands M decides v' word n'
  stands_as v v' word n n' same found told = λ f named. stood_as M decides f v v' word n n' same found named told

-- where nothing older is out, nothing below the newest number is left
pub clear_at : (c m older newest clear : ℕ) → older + m ≡ c → older ≡ 0 → cond (eqb (c - m) 0) newest clear ≡ newest
clear_at c m older newest clear sum none = ap (λ (b : _). cond b newest clear) (eq-eqb (c - m) 0 (omega arith))
