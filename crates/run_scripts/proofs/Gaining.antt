-- Scripts gain a line.
use Rattle.std.proofs.Common.{◌≡◌, ◌∙◌, ◌<◌, ℕ, zero, suc, List, [], ◌∷◌, ◌++◌, length, Option, refl, sym, ap, subst, arith, append_assoc, append-nil}
use Rattle.std.specs.Prelude.{All, option_map, unwrap_or}
use Rattle.std.specs.Global.{Vec}
use Rattle.std.proofs.lemmas.List.Elements.{filter-append, All-head, All-tail}
use Rattle.std.proofs.lemmas.Option.{slice_get_within}
use Rattle.session_text.specs.declared.session.RunLine.{RunLine}
use Rattle.client_script.specs.Scripts.{is_by, is_of_admin, script_of, admin_script}
use Rattle.run_scripts.specs.declared.splitting.Scripts.{Scripts}
use Rattle.run_scripts.specs.Splits.{AreScripts, AreEmpty, AreOnTheWay, Gains, lines_in}

-- a script that has no line
none_in : (scripts : List (Vec RunLine)) (client : ℕ) → All (λ (script : Vec RunLine). script.items ≡ []) scripts → lines_in scripts client ≡ []
none_in [] client empty = refl
none_in (script ∷ scripts) zero empty = All-head (λ (script : Vec RunLine). script.items ≡ []) script scripts empty
none_in (script ∷ scripts) (suc client) empty = none_in scripts client (All-tail (λ (script : Vec RunLine). script.items ≡ []) script scripts empty)

-- before the first line
pub at_start : (clients : ℕ) (all left : List RunLine) (scripts : Scripts) → left ≡ all → AreEmpty clients scripts → AreOnTheWay clients all left scripts
at_start clients all left scripts same empty = record {
  count = empty.count;
  each = λ client below. ap (λ (lines : List RunLine). lines ++ script_of client left) (none_in scripts.clients.items client empty.each) ∙ ap (script_of client) same;
  admin = ap (λ (lines : List RunLine). lines ++ admin_script left) empty.admin ∙ ap admin_script same;
}

-- after a line
pub one_more : (clients : ℕ) (all left rest : List RunLine) (line : RunLine) (old new : Scripts) → left ≡ line ∷ rest → AreOnTheWay clients all left old → Gains (line ∷ []) old new
    → AreOnTheWay clients all rest new
one_more clients all left rest line old new split on gains = record {
  count = gains.count ∙ on.count;
  each = λ client below.
      ap (λ (lines : List RunLine). lines ++ script_of client rest) (gains.each client (subst (λ (n : ℕ). client < n) (sym on.count) below))
      ∙ append_assoc (lines_in old.clients.items client) (script_of client (line ∷ [])) (script_of client rest)
      ∙ ap (λ (lines : List RunLine). lines_in old.clients.items client ++ lines) (sym (filter-append (is_by client) (line ∷ []) rest))
      ∙ ap (λ (lines : List RunLine). lines_in old.clients.items client ++ script_of client lines) (sym split)
      ∙ on.each client below;
  admin = ap (λ (lines : List RunLine). lines ++ admin_script rest) gains.admin
      ∙ append_assoc old.admin.items (admin_script (line ∷ [])) (admin_script rest)
      ∙ ap (λ (lines : List RunLine). old.admin.items ++ lines) (sym (filter-append is_of_admin (line ∷ []) rest))
      ∙ ap (λ (lines : List RunLine). old.admin.items ++ admin_script lines) (sym split)
      ∙ on.admin;
}

-- behind the last line
pub all_split : (clients : ℕ) (all left : List RunLine) (scripts : Scripts) → left ≡ [] → AreOnTheWay clients all left scripts → AreScripts clients all scripts
all_split clients all left scripts none on = record {
  count = on.count;
  each = λ client script at.
      let below : client < clients = subst (λ (n : ℕ). client < n) on.count (slice_get_within scripts.clients.items client script at) in
      sym (ap (λ (o : Option (Vec RunLine)). unwrap_or (option_map (λ (script : Vec RunLine). script.items) o) []) at)
      ∙ sym (append-nil (lines_in scripts.clients.items client))
      ∙ ap (λ (lines : List RunLine). lines_in scripts.clients.items client ++ script_of client lines) (sym none)
      ∙ on.each client below;
  admin = sym (append-nil scripts.admin.items) ∙ ap (λ (lines : List RunLine). scripts.admin.items ++ admin_script lines) (sym none) ∙ on.admin;
}

-- lines of which none is left
pub no_lines : (left : List RunLine) → length left ≡ 0 → left ≡ []
no_lines [] none = refl
no_lines (line ∷ left) none = absurd (omega arith)
