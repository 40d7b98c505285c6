-- Reading a policy text to its end.
use Rattle.std.proofs.Common.{◌≡◌, ◌+◌, ℕ, List, [], ◌∷◌, length, Option, None, Result, Ok, Err, refl, sym, ap, arith}
use Rattle.text_lines.specs.Lines.{lines_of}
use Rattle.text_lines.specs.ResultSteps.{LineFault, at_line, lines_fold, ◌>>=◌}
use Rattle.text_lines.specs.Refusals.{FailsText}
use Rattle.text_lines.specs.declared.fault.FaultKind.{FaultKind}
use Rattle.text_lines.specs.declared.fault.TextFault.{TextFault}
use Rattle.text_lines.specs.declared.fault.TextFault.TheVariants as text_fault
use Rattle.text_lines.proofs.FoldLemmas.{line_done, line_fails, lines_end}
use Rattle.policy_model.specs.declared.policy.PolicyParts.{PolicyParts}
use Rattle.policy_text.specs.Grammar.{line_read, end_read, policy_of}
use Rattle.policy_text.specs.Reading.{Reading, begun, read_on}

-- what the reader makes of the rest of a text is what the text is
pub record IsBelow (reading : Reading) (rest : List (List ℕ)) (bytes : List ℕ) : Type 0 where
  pub so_far : lines_fold line_read reading.number rest reading.above ≡ lines_fold line_read 1 (lines_of bytes) None
  pub counted : reading.number + length rest ≡ 1 + length (lines_of bytes)

-- at the first line, all is still to come
pub at_begin : (bytes : List ℕ) → IsBelow begun (lines_of bytes) bytes
at_begin bytes = record { so_far = refl; counted = refl }

-- the reading below a line that says this much
abbrev onto : Reading → Option PolicyParts → Result Reading LineFault
onto reading above = Ok (record { number = reading.number + 1; above = above })

-- what one line makes of a reading, by what the line says
by_line : (reading next : Reading) (said : Result (Option PolicyParts) FaultKind) → (at_line reading.number said >>= onto reading) ≡ Ok next → (said ≡ Ok next.above) × (next.number ≡ reading.number + 1)
by_line reading next (Ok above) h =
    let same : record { number = reading.number + 1; above = above } ≡ next = cc in
    (ap (λ (r : Reading). Ok r.above) same, sym (ap (λ (r : Reading). r.number) same))
by_line reading next (Err kind) h = cc

-- a line without fault
pub below_line : (reading next : Reading) (rest below : List (List ℕ)) (line bytes : List ℕ) → IsBelow reading rest bytes → rest ≡ line ∷ below → read_on reading line ≡ Ok next → IsBelow next below bytes
unfolding read_on
below_line reading next rest below line bytes is_below lines said =
    let step = by_line reading next (line_read reading.number line reading.above) said in
    let done = line_done line_read reading.number line rest below reading.above next.above _ lines step.0 is_below.so_far in
    let count : length rest ≡ length (line ∷ below) = ap length lines in
    record { so_far = rw step.1 done; counted = omega (arith, step.1, count, is_below.counted) }

-- the fault of one line, by what the line says
by_fault : (reading : Reading) (e : LineFault) (said : Result (Option PolicyParts) FaultKind) → (at_line reading.number said >>= onto reading) ≡ Err e → (kind : FaultKind) × (said ≡ Err kind) × (record { line = reading.number; kind = kind } ≡ e)
by_fault reading e (Ok above) h = cc
by_fault reading e (Err kind) h = let same : record { line = reading.number; kind = kind } ≡ e = cc in (kind, refl, same)

-- a faulty line
faulty : (reading : Reading) (rest below : List (List ℕ)) (line bytes : List ℕ) (e : LineFault) → IsBelow reading rest bytes → rest ≡ line ∷ below → read_on reading line ≡ Err e → policy_of bytes ≡ Err e
unfolding read_on policy_of
faulty reading rest below line bytes e is_below lines said =
    let step = by_fault reading e (line_read reading.number line reading.above) said in
    let total = line_fails line_read reading.number line rest below reading.above step.0 _ lines step.1 is_below.so_far in
    rw (total, step.2) refl

-- the text is refused as its faulty line is
pub fails_at : (reading : Reading) (rest below : List (List ℕ)) (line bytes : List ℕ) (fault : TextFault) → IsBelow reading rest bytes → rest ≡ line ∷ below → FailsText fault (read_on reading line) → FailsText fault (policy_of bytes)
fails_at reading rest below line bytes text_fault.Memory is_below lines said = tt
fails_at reading rest below line bytes (text_fault.Text n kind) is_below lines said = faulty reading rest below line bytes (record { line = n; kind = kind }) is_below lines said

-- no line is left
pub at_end : (reading : Reading) (rest : List (List ℕ)) (bytes : List ℕ) → IsBelow reading rest bytes → rest ≡ [] → policy_of bytes ≡ end_read reading.number reading.above
unfolding policy_of
at_end reading rest bytes is_below none =
    let total = lines_end line_read reading.number rest reading.above _ none is_below.so_far in
    let empty : length rest ≡ 0 = ap length none in
    let number : 1 + length (lines_of bytes) ≡ reading.number = omega (arith, empty, is_below.counted) in
    rw (total, number) refl
