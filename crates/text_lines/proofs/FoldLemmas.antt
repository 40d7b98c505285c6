-- Reading a text line after line: one lemma for each way out of such a loop.
use Rattle.std.proofs.Common.{◌≡◌, ◌+◌, ◌∙◌, ℕ, List, [], ◌∷◌, Result, Ok, Err, refl, sym}
use Rattle.text_lines.specs.ResultSteps.{LineFault, lines_fold}
use Rattle.text_lines.specs.declared.fault.FaultKind.{FaultKind}

-- a line without fault: what is left, read from the new state, is still the whole answer
pub line_done : {S : Type 0} (read : ℕ → List ℕ → S → Result S FaultKind) (n : ℕ) (line : List ℕ) (all rest : List (List ℕ)) (state next : S) (total : Result S LineFault) → all ≡ line ∷ rest → read n line state ≡ Ok next → lines_fold read n all state ≡ total → lines_fold read (n + 1) rest next ≡ total
line_done read n line all rest state next total lines said so_far = rw (lines, said) at so_far

-- a faulty line: its fault is the whole answer
pub line_fails : {S : Type 0} (read : ℕ → List ℕ → S → Result S FaultKind) (n : ℕ) (line : List ℕ) (all rest : List (List ℕ)) (state : S) (kind : FaultKind) (total : Result S LineFault) → all ≡ line ∷ rest → read n line state ≡ Err kind → lines_fold read n all state ≡ total → total ≡ Err (record { line = n; kind = kind })
line_fails read n line all rest state kind total lines said so_far =
    let faulty : lines_fold read n (line ∷ rest) state ≡ Err (record { line = n; kind = kind }) = rw said refl in
    sym so_far ∙ rw lines faulty

-- no line is left: the state is the whole answer
pub lines_end : {S : Type 0} (read : ℕ → List ℕ → S → Result S FaultKind) (n : ℕ) (all : List (List ℕ)) (state : S) (total : Result S LineFault) → all ≡ [] → lines_fold read n all state ≡ total → total ≡ Ok state
lines_end read n all state total none so_far = sym so_far ∙ rw none refl
