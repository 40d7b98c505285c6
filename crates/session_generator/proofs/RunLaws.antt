-- What a line of a session that is made asks may be asked.
use Rattle.std.proofs.Common.{◌<◌, ◌^◌, ◌+◌, ◌%◌, ◌/◌, ℕ, Bool, true, false, cond, List, refl, arith, rules}
use Rattle.std.specs.Prelude.{◌==◌, codes}
use Rattle.std.proofs.lemmas.List.Sums.{AllPass-from_list_all}
use Rattle.std.proofs.lemmas.Nat.{mod_below}
use Rattle.text_lines.specs.Lines.{is_word_byte}
use Rattle.file_calls.specs.declared.call.FileCall.TheVariants as file
use Rattle.process_calls.specs.declared.call.ProcessCall.TheVariants as process
use Rattle.port_calls.specs.declared.call.PortCall.TheVariants as port
use Rattle.session_text.specs.declared.session.Run.{Run}
use Rattle.session_text.specs.declared.session.Run.TheVariants.{File, Process, Port, Notify, Update, Ack}
use Rattle.session_text.specs.declared.session.RunLine.{RunLine}
use Rattle.session_text.specs.Sessions.{IsSidOf, IsRun, IsWritten, IsTurn}
use Rattle.session_generator.specs.Generated.{policy, numbered, path_of, admin_run, file_run, run_by}
use Rattle.session_generator.proofs.NumberedLaws.{numbered_word, numbered_short, numbered_some, path_formed}

-- what a line may ask among so many clients, behind any other lines
pub record IsGood (clients : ℕ) (run : Run) : Type 0 where
  pub may : IsRun (IsSidOf policy.contexts) clients run
  pub written : IsWritten run
  pub turn : (seen : List RunLine) → IsTurn seen run

-- what holds of both
either : (P : Run → Type 0) (b : Bool) (x y : Run) → P x → P y → P (cond b x y)
either P true x y one other = one
either P false x y one other = other

-- the remainders
slot_within : (c : ℕ) → c / 64 % 8 < 64
slot_within c = let rest = mod_below (c / 64) 8 (omega arith) in omega (arith, rest)

number_small : (c : ℕ) → c % 64 < 2 ^ 32
number_small c = let rest = mod_below c 64 (omega arith) in omega (arith, rest)

place_within : (c most : ℕ) → 0 < most → most < 65536 → 1 + c % most < 65536
place_within c most some few = let rest = mod_below c most some in omega (arith, rest)

admin_good : (clients c : ℕ) → IsGood clients (admin_run c)
unfolding admin_run
admin_good clients c =
    let notify : IsGood clients (Notify (c / 4 % 3)) = record { may = (let rest = mod_below (c / 4) 3 (omega arith) in omega (arith, rest)); written = tt; turn = λ seen. tt } in
    let ack : IsGood clients Ack = record { may = tt; written = tt; turn = λ seen. tt } in
    let update : IsGood clients (Update 64) = record { may = omega arith; written = tt; turn = λ seen. tt } in
    either (IsGood clients) (c % 4 == 0) _ _ notify (either (IsGood clients) (c % 4 == 3) _ _ ack update)

file_good : (which clients client c : ℕ) → client < clients → IsGood clients (file_run which client c)
unfolding file_run
file_good which clients client c within =
    let path = path_formed (c % 64) (number_small c) in
    let create : IsGood clients (File client (file.Create (path_of (c % 64)))) =
    record { may = (within, record { some = omega arith; formed = path }, tt); written = tt; turn = λ seen. tt } in
    let open_file : IsGood clients (File client (file.OpenFile (c / 64 % 8) (path_of (c % 64)) 3)) =
    record { may = (within, (slot_within c, path, (omega arith, omega arith)), tt); written = tt; turn = λ seen. tt } in
    let short = numbered_short 120 (c % 64) (number_small c) in
    let word = numbered_word 120 (c % 64) refl (number_small c) in
    let write : IsGood clients (File client (file.WriteFile (c / 64 % 8) 0 (numbered (codes "x") (c % 64)))) =
    record {
      may = (within, (slot_within c, omega arith, (numbered_some 120 (c % 64), omega (arith, short), AllPass-from_list_all is_word_byte (numbered (codes "x") (c % 64)) word)), tt);
      written = word;
      turn = λ seen. tt;
    } in
    let read : IsGood clients (File client (file.ReadFile (c / 64 % 8) 0 16)) =
    record { may = (within, (slot_within c, omega arith, (omega arith, omega arith)), tt); written = tt; turn = λ seen. tt } in
    either (IsGood clients) (which == 0) _ _ create (either (IsGood clients) (which == 1) _ _ open_file (either (IsGood clients) (which == 2) _ _ write read))

pub run_good : (clients a b c : ℕ) → 0 < clients → IsGood clients (run_by clients a b c)
unfolding run_by
run_good clients a b c some =
    let within : a % clients < clients = mod_below a clients some in
    let fork : IsGood clients (Process (a % clients) (process.Fork (1 + c % 512))) =
    record { may = (within, (omega arith, place_within c 512 (omega arith) (omega arith)), tt); written = tt; turn = λ seen. tt } in
    let bind : IsGood clients (Port (a % clients) (port.Bind (c / 64 % 8) (1 + c % 128) 3)) =
    record {
      may = (within, (slot_within c, (omega arith, place_within c 128 (omega arith) (omega arith)), search rules));
      written = tt;
      turn = λ seen. tt;
    } in
    let short = numbered_short 109 (c % 64) (number_small c) in
    let word = numbered_word 109 (c % 64) refl (number_small c) in
    let send : IsGood clients (Port (a % clients) (port.Send (1 + c % 128) (numbered (codes "m") (c % 64)))) =
    record {
      may = (within, ((omega arith, place_within c 128 (omega arith) (omega arith)), (numbered_some 109 (c % 64), omega (arith, short), AllPass-from_list_all is_word_byte (numbered (codes "m") (c % 64)) word)));
      written = word;
      turn = λ seen. tt;
    } in
    either (IsGood clients) (b % 8 == 4) _ _ fork
    (either (IsGood clients) (b % 8 == 5) _ _ bind
    (either (IsGood clients) (b % 8 == 6) _ _ send
    (either (IsGood clients) (b % 8 == 7) _ _ (admin_good clients c) (file_good (b % 8) clients (a % clients) c within))))
