-- Lines that were printed, read again one after another: for any state, and any reader of a line.
use Rattle.std.proofs.Common.{◌≡◌, ◌≤◌, ◌+◌, ℕ, true, List, [], ◌∷◌, ◌++◌, map, length, Result, Ok, refl, arith}
use Rattle.std.specs.List.{list_all}
use Rattle.std.proofs.lemmas.Bool.{and_from}
use Rattle.text_lines.specs.Lines.{line_limit}
use Rattle.text_lines.specs.ResultSteps.{lines_fold}
use Rattle.text_lines.specs.declared.fault.FaultKind.{FaultKind}
use Rattle.text_print.specs.Printed.{is_word, spaced}

-- the line of these words leads from any state that is the same as one to a state that is the same as another
pub record Leads {S : Type 0} (read : ℕ → List ℕ → S → Result S FaultKind) (Same : S → S → Type 0) (words : List (List ℕ)) (one other : S) : Type 0 where
  pub words_are : list_all is_word words ≡ true
  pub step : (n : ℕ) (state : S) → n ≤ line_limit → Same state one → (next : S) × (read n (spaced words) state ≡ Ok next) × Same next other

-- lines that lead so, one after another
abbrev pub AllLead : {S : Type 0} → (ℕ → List ℕ → S → Result S FaultKind) → (S → S → Type 0) → List (List (List ℕ)) → S → S → Type 0
AllLead read Same [] one other = one ≡ other
AllLead read Same (words ∷ lines) one other = (middle : _) × Leads read Same words one middle × AllLead read Same lines middle other

-- one line
pub lead_one : {S : Type 0} (read : ℕ → List ℕ → S → Result S FaultKind) (Same : S → S → Type 0) (words : List (List ℕ)) (one other : S) → Leads read Same words one other → AllLead read Same (words ∷ []) one other
lead_one read Same words one other lead = (other, lead, refl)

-- lines and the lines below them
pub lead_append : {S : Type 0} (read : ℕ → List ℕ → S → Result S FaultKind) (Same : S → S → Type 0) (front back : List (List (List ℕ))) (one middle other : S) → AllLead read Same front one middle → AllLead read Same back middle other → AllLead read Same (front ++ back) one other
lead_append read Same [] back one middle other a b = rw a b
lead_append read Same (words ∷ front) back one middle other a b = (a.0, a.1, lead_append read Same front back a.0 middle other a.2 b)

-- lines that lead are made of words
pub lead_words : {S : Type 0} (read : ℕ → List ℕ → S → Result S FaultKind) (Same : S → S → Type 0) (lines : List (List (List ℕ))) (one other : S) → AllLead read Same lines one other → list_all (list_all is_word) lines ≡ true
lead_words read Same [] one other lead = refl
lead_words read Same (words ∷ lines) one other lead = and_from _ _ lead.1.words_are (lead_words read Same lines lead.0 other lead.2)

-- lines that lead, read from line number n on
pub lead_lines : {S : Type 0} (read : ℕ → List ℕ → S → Result S FaultKind) (Same : S → S → Type 0) (lines : List (List (List ℕ))) (one other : S) → AllLead read Same lines one other → (n : ℕ) (state : S) → Same state one → n + length lines ≤ line_limit + 1 → (next : S) × (lines_fold read n (map spaced lines) state ≡ Ok next) × Same next other
lead_lines read Same [] one other lead n state same counted = (state, refl, rw (← lead) same)
lead_lines read Same (words ∷ lines) one other lead n state same counted =
    let first = lead.1.step n state (omega arith) same in
    let rest = lead_lines read Same lines lead.0 other lead.2 (n + 1) first.0 first.2 (omega arith) in
    (rest.0, rw first.1 rest.1, rest.2)
