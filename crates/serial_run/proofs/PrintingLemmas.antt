-- Lines printed one after another.
use Rattle.std.proofs.Common.{◌≡◌, ◌∙◌, ℕ, List, [], ◌∷◌, Option, Result, Ok, Err, ◌++◌, refl, sym, ap, append-nil, append_assoc, inl, inr, arith}
use Rattle.std.specs.List.{flat_map}
use Rattle.std.specs.Prelude.{OnErr, IfErr, IsErrAnd}
use Rattle.flask_io.specs.Streams.{HasCause}
use Rattle.audit_log.specs.Logs.{Gains}
use Rattle.audit_log.proofs.LogLemmas.{gains_nothing, gains_more}
use Rattle.run_output.specs.Writing.{AddsFront, IsOffered}
use Rattle.run_output.specs.declared.stop.RunStop.{RunStop}
use Rattle.run_output.specs.declared.stop.RunStop.TheVariants as run_stop
use Rattle.run_output.proofs.GatherLemmas.{adds_nothing, gathers, offered_on, put_or_waits}
use Rattle.run_output.proofs.PartLemmas.{cut_first}
use Rattle.run_output.proofs.WritingLemmas.{last_failed}
use Rattle.session_runner.specs.Runs.{Shown}
use Rattle.session_runner.specs.Recorders.{TakesAll, StopsAt}
use Rattle.serial_run.specs.Printing.{Prints, StopsPrint, text_in, audit_in}
use Rattle.serial_run.specs.declared.printing.Printing.{Printing}

-- a front of any text is that nothing was added
pub nothing_put : (put : Option (List ℕ)) (text : List ℕ) → AddsFront put put text
nothing_put put text = ([], text, refl, adds_nothing put)

-- lines were printed: their texts were added behind the answers that waited, but for those that wait now; their audit lines were logged, and nothing failed
pub record PrintsAll {K : Type 0} (written : K → Option (List ℕ)) (faults : K → ℕ) (printing : Printing) (out : K) (all : List Shown) (after : Printing) (later : K) : Type 0 where
  pub setting_is : after.setting ≡ printing.setting
  pub adds : IsOffered (written out) (written later) (printing.gathered ++ flat_map (text_in printing.setting) all) after.gathered
  pub quiet : faults later ≡ faults out
  pub gains : Gains printing.log after.log (flat_map (audit_in printing.setting) all)

-- of a line that was printed, with the lines behind it
one_put : {K : Type 0} (written : K → Option (List ℕ)) (offered : K → Option (List (List ℕ))) (faults : K → ℕ) (printing after : Printing) (out later : K) (one : Shown) (behind : List ℕ)
    → Prints written offered faults printing out one after later
    → IsOffered (written out) (written later) ((printing.gathered ++ text_in printing.setting one) ++ behind) (after.gathered ++ behind)
one_put written offered faults printing after out later one behind took =
    gathers (written out) (written later) (printing.gathered ++ text_in printing.setting one) after.gathered behind
    (put_or_waits (written out) (written later) (offered out) (offered later) (printing.gathered ++ text_in printing.setting one) after.gathered took.puts)

-- all lines that were taken were printed
pub printed_all : {K : Type 0} (written : K → Option (List ℕ)) (offered : K → Option (List (List ℕ))) (faults : K → ℕ) (printing after : Printing) (out later : K) (all : List Shown)
    → TakesAll (Prints written offered faults) printing out all after later → PrintsAll written faults printing out all after later
printed_all written offered faults printing after out later [] taken =
    rw (taken.0, taken.1) (record { setting_is = refl; adds = ([], append-nil printing.gathered, adds_nothing (written out)); quiet = refl; gains = gains_nothing printing.log })
printed_all written offered faults printing after out later (one ∷ more) taken =
    let took = taken.2 in
    let rest = printed_all written offered faults taken.0 after taken.1 later more taken.3 in
    let text = text_in printing.setting one in
    let behind = flat_map (text_in printing.setting) more in
    let first = one_put written offered faults printing taken.0 out taken.1 one behind took in
    let both = offered_on (written out) (written taken.1) (written later) ((printing.gathered ++ text) ++ behind) (taken.0.gathered ++ behind) after.gathered first (rw took.setting_is at rest.adds) in
    record {
      setting_is = rest.setting_is ∙ took.setting_is;
      adds = rw (append_assoc printing.gathered text behind) at both;
      quiet = rest.quiet ∙ took.quiet;
      gains = gains_more printing.log taken.0.log after.log (audit_in printing.setting one) (flat_map (audit_in printing.setting) more) took.gains (rw took.setting_is at rest.gains);
    }

-- want of memory is no fault of the sink
no_fault : (put : ℕ) (stop : RunStop) → stop ≡ run_stop.Memory → HasCause put put (stop ≡ run_stop.WriteFault)
no_fault put stop is = record { later = omega arith; rose = λ fault. let same : run_stop.Memory ≡ run_stop.WriteFault = sym is ∙ fault in cc; quiet = λ _. omega arith }

-- where a run stopped, a front of the answers that waited and of the texts of its lines was added, and a write fault comes only from the sink
pub record StopsPrinting {K : Type 0} (written : K → Option (List ℕ)) (faults : K → ℕ) (printing : Printing) (out : K) (all : List Shown) (later : K) (stop : RunStop) : Type 0 where
  pub adds : AddsFront (written out) (written later) (printing.gathered ++ flat_map (text_in printing.setting) all)
  pub cause : HasCause (faults out) (faults later) (stop ≡ run_stop.WriteFault)

pub printed_front : {K : Type 0} (written : K → Option (List ℕ)) (offered : K → Option (List (List ℕ))) (faults : K → ℕ) (wants : RunStop → Type 0) → ((stop : RunStop) → wants stop → stop ≡ run_stop.Memory)
    → (printing : Printing) (out later : K) (all : List Shown) (stop : RunStop) → StopsAt (Prints written offered faults) (StopsPrint written faults) wants printing out all later stop
    → StopsPrinting written faults printing out all later stop
printed_front written offered faults wants memory printing out later [] stop stopped = absurd stopped
printed_front written offered faults wants memory printing out later (one ∷ more) stop (inl (later_is, want)) =
    rw later_is (record { adds = nothing_put (written out) (printing.gathered ++ flat_map (text_in printing.setting) (one ∷ more)); cause = no_fault (faults out) stop (memory stop want) })
printed_front written offered faults wants memory printing out later (one ∷ more) stop (inr (inl at_line)) =
    let text = text_in printing.setting one in
    let behind = flat_map (text_in printing.setting) more in
    record {
      adds = rw (append_assoc printing.gathered text behind) at (cut_first (written out) (written later) (printing.gathered ++ text) behind at_line.adds);
      cause = at_line.cause;
    }
printed_front written offered faults wants memory printing out later (one ∷ more) stop (inr (inr (mid, now, took, behind))) =
    let rest = printed_front written offered faults wants memory mid now later more stop behind in
    let text = text_in printing.setting one in
    let behind = flat_map (text_in printing.setting) more in
    let first = one_put written offered faults printing mid out now one behind took in
    let cut = last_failed (written out) (written now) (written later) ((printing.gathered ++ text) ++ behind) (mid.gathered ++ behind) first (rw took.setting_is at rest.adds) in
    record { adds = rw (append_assoc printing.gathered text behind) at cut; cause = rw took.quiet at rest.cause }

-- a cause of one failure is that of another that comes with it
pub cause_as : (before now : ℕ) (P Q : Type 0) → (Q → P) → (P → Q) → HasCause before now P → HasCause before now Q
cause_as before now P Q there back has = record { later = has.later; rose = λ q. has.rose (there q); quiet = λ none. has.quiet (λ p. none (back p)) }

-- where the write of a line fails, the run stops at the line
pub stops_at_line : {K A : Type 0} (written : K → Option (List ℕ)) (faults : K → ℕ) (printing : Printing) (out later : K) (one : Shown) (result : Result A RunStop) (text : List ℕ) → text ≡ printing.gathered ++ text_in printing.setting one
    → OnErr result (AddsFront (written out) (written later) text) → HasCause (faults out) (faults later) (result ≡ Err run_stop.WriteFault)
    → IfErr result (λ stop. StopsPrint written faults printing out one later stop)
stops_at_line written faults printing out later one (Ok done) text text_is front cause = tt
stops_at_line {A = A} written faults printing out later one (Err stop) text text_is front cause = record {
  adds = rw text_is at front;
  cause = cause_as (faults out) (faults later) (◌≡◌ {A = Result A RunStop} (Err stop) (Err run_stop.WriteFault)) (stop ≡ run_stop.WriteFault)
      (λ at. ap (λ (s : RunStop). Err s) at) (λ at. let same : stop ≡ run_stop.WriteFault = cc in same) cause;
}

-- and the run ends with what it stopped with
pub stop_as : {A : Type 0} (before now : ℕ) (stop : RunStop) (result : Result A RunStop) → IsErrAnd result (λ given. given ≡ stop) → HasCause before now (stop ≡ run_stop.WriteFault) → HasCause before now (result ≡ Err run_stop.WriteFault)
stop_as before now stop (Ok done) is has = absurd is
stop_as {A = A} before now stop (Err given) is has =
    cause_as before now (stop ≡ run_stop.WriteFault) (◌≡◌ {A = Result A RunStop} (Err given) (Err run_stop.WriteFault))
    (λ at. let same : given ≡ run_stop.WriteFault = cc in sym is ∙ same) (λ at. ap (λ (s : RunStop). Err s) (is ∙ at)) has

-- where no memory is found before the write of a line, nothing was written
pub stops_for_memory : {K A : Type 0} (written : K → Option (List ℕ)) (faults : K → ℕ) (printing : Printing) (out : K) (one : Shown) (result : Result A RunStop) → IsErrAnd result (λ stop. stop ≡ run_stop.Memory)
    → IfErr result (λ stop. StopsPrint written faults printing out one out stop)
stops_for_memory written faults printing out one (Ok done) is = absurd is
stops_for_memory written faults printing out one (Err stop) is = record { adds = nothing_put (written out) _; cause = no_fault (faults out) stop is }
