-- Lists whose members were printed in lines, read again member after member.
use Rattle.std.proofs.Common.{◌≡◌, ◌≤◌, ℕ, false, List, [], ◌∷◌, ◌++◌, map, Option, Some, None, Result, Ok, refl, sym, ap, append_assoc}
use Rattle.std.specs.List.{flat_map}
use Rattle.std.proofs.lemmas.List.{append-nil}
use Rattle.text_lines.specs.Lines.{is_comment, line_limit}
use Rattle.text_lines.specs.declared.fault.FaultKind.{FaultKind}
use Rattle.text_print.specs.Printed.{spaced}
use Rattle.text_print.proofs.WordLaws.{line_words_spaced}
use Rattle.text_print.proofs.LeadLaws.{Leads, AllLead, lead_append}
use Rattle.policy_model.specs.declared.policy.PolicyParts.{PolicyParts}
use Rattle.policy_text.specs.declared.form.Form.{Form}
use Rattle.policy_text.specs.Grammar.{form_read, words_read, line_read}
use Rattle.policy_model.specs.Kept.{Grows}
use Rattle.policy_print.specs.Same.{IsSameAbove}
use Rattle.policy_print.proofs.FormLaws.{Says}
use Rattle.policy_print.proofs.StepLaws.{Steps}

-- a list whose members are read one line each
pub grown_lead : {S : Type 0} (read : ℕ → List ℕ → S → Result S FaultKind) (Same : S → S → Type 0) {X : Type 0} (May : List X → X → Type 0) (words : X → List (List ℕ)) (at : List X → S) → ((seen : List X) (x : X) → May seen x → Leads read Same (words x) (at seen) (at (seen ++ x ∷ []))) → (seen xs : List X) → Grows May seen xs → AllLead read Same (map words xs) (at seen) (at (seen ++ xs))
grown_lead read Same May words at leads seen [] grown = ap at (sym (append-nil seen))
grown_lead read Same May words at leads seen (x ∷ xs) grown =
    let rest = grown_lead read Same May words at leads (seen ++ x ∷ []) xs grown.1 in
    (at (seen ++ x ∷ []), leads seen x grown.0, rw (append_assoc seen (x ∷ []) xs) at rest)

-- a list whose members are read some lines each
pub grown_blocks_lead : {S : Type 0} (read : ℕ → List ℕ → S → Result S FaultKind) (Same : S → S → Type 0) {X : Type 0} (May : List X → X → Type 0) (lines : X → List (List (List ℕ))) (at : List X → S) → ((seen : List X) (x : X) → May seen x → AllLead read Same (lines x) (at seen) (at (seen ++ x ∷ []))) → (seen xs : List X) → Grows May seen xs → AllLead read Same (flat_map lines xs) (at seen) (at (seen ++ xs))
grown_blocks_lead read Same May lines at leads seen [] grown = ap at (sym (append-nil seen))
grown_blocks_lead read Same May lines at leads seen (x ∷ xs) grown =
    let rest = grown_blocks_lead read Same May lines at leads (seen ++ x ∷ []) xs grown.1 in
    let on = rw (append_assoc seen (x ∷ []) xs) at rest in
    lead_append read Same (lines x) (flat_map lines xs) (at seen) (at (seen ++ x ∷ [])) (at (seen ++ (x ∷ xs))) (leads seen x grown.0) on

-- a printed line below `policy 1`
pub line_leads : (first : List ℕ) (words : List (List ℕ)) (said : Form) (one other : PolicyParts) → is_comment first ≡ false → Says first words said → Steps said one other → Leads line_read IsSameAbove (first ∷ words) (Some one) (Some other)
unfolding line_read words_read form_read
line_leads first words said one other plain says steps = record { words_are = says.words_are; step = from_above }
  where
    from_above : (n : ℕ) (state : Option PolicyParts) → n ≤ line_limit → IsSameAbove state (Some one) → (next : Option PolicyParts) × (line_read n (spaced (first ∷ words)) state ≡ Ok next) × IsSameAbove next (Some other)
    from_above n None counted same = absurd same
    from_above n (Some state) counted same =
        let next = steps.step n state same in
        (Some next.0, rw (line_words_spaced n first words counted says.words_are plain, says.says, next.1) refl, next.2)
