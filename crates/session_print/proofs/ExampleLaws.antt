-- A small session, printed.
use Rattle.std.proofs.Common.{◌≡◌, true, [], ◌∷◌, Some, None, refl}
use Rattle.std.specs.Prelude.{codes}
use Rattle.std.specs.Fmt.{digits}
use Rattle.access_vectors.specs.declared.class.Class.TheVariants as class
use Rattle.access_vectors.specs.Table.{perm_word}
use Rattle.access_vectors.specs.Vectors.{has}
use Rattle.flask_sid.specs.Contexts.{context_text}
use Rattle.policy_model.specs.declared.policy.PolicyParts.{PolicyParts}
use Rattle.policy_model.specs.declared.policy.WhoOf.TheVariants.{Named}
use Rattle.policy_model.specs.declared.policy.Verdict.TheVariants.{Allow}
use Rattle.policy_print.specs.Printed.{held_names, policy_lines}
use Rattle.file_calls.specs.declared.call.FileCall.TheVariants as file
use Rattle.process_calls.specs.declared.call.ProcessCall.TheVariants as process
use Rattle.port_calls.specs.declared.call.PortCall.TheVariants as port
use Rattle.session_forms.specs.declared.run_forms.Manager.TheVariants as manager
use Rattle.session_text.specs.declared.session.Run.TheVariants.{File, Process, Port, Begin, End, Notify, Update, Ack, Force}
use Rattle.session_text.specs.declared.session.SessionParts.{SessionParts}
use Rattle.session_print.specs.Words.{mode_word, bind_word}
use Rattle.session_print.specs.CallWords.{file_words, process_words, port_words}
use Rattle.session_print.specs.Printed.{setup_lines, run_lines, lines_below_policy, session_lines, printed}

-- two contexts, and one rule
abbrev policy : PolicyParts
policy = record {
  contexts = record { line = 2; context = record { user = codes "u"; role = codes "r"; kind = codes "t" } }
      ∷ record { line = 3; context = record { user = codes "u"; role = codes "r"; kind = codes "s" } }
      ∷ [];
  kinds = record { line = 2; name = codes "t" } ∷ record { line = 3; name = codes "s" } ∷ [];
  attributes = [];
  nevers = [];
  silent = [];
  loud = [];
  versions = record {
    line = 4;
    rules = record { line = 5; source = Named (codes "t"); target = Named (codes "s"); class = class.File; verdict = Allow 3 } ∷ [];
  } ∷ [];
}

-- a session of each kind of line
abbrev session : SessionParts
session = record {
  policy = policy;
  root = 1;
  port = 2;
  ports = record { port = 80; sid = 1 } ∷ [];
  audit = true;
  nodes = record { path = codes "a" ∷ []; sid = 1; bytes = None }
      ∷ record { path = codes "a" ∷ codes "b" ∷ []; sid = 2; bytes = Some [] }
      ∷ record { path = codes "c" ∷ []; sid = 2; bytes = Some (codes "#x") }
      ∷ [];
  clients = record { name = codes "ann"; sid = 1 } ∷ record { name = codes "bob"; sid = 2 } ∷ [];
  lines = record { line = 20; run = Begin 0 manager.Port }
      ∷ record { line = 21; run = File 0 (file.OpenFile 3 (codes "a" ∷ codes "b" ∷ []) 5) }
      ∷ record { line = 22; run = File 0 (file.Give 3 1 7) }
      ∷ record { line = 23; run = File 1 (file.List [] 0) }
      ∷ record { line = 24; run = Process 1 (process.Exec 65535 1) }
      ∷ record { line = 25; run = Port 0 (port.Bind 0 80 3) }
      ∷ record { line = 26; run = Notify 1 }
      ∷ record { line = 27; run = Update 4294967295 }
      ∷ record { line = 28; run = End 0 manager.Port }
      ∷ record { line = 29; run = Ack }
      ∷ record { line = 30; run = Force }
      ∷ [];
}

-- its text
example_printed : printed session ≡ codes "policy 1\ntype t\ntype s\ncontext u:r:t\ncontext u:r:s\nversion\nallow t s file read write\nsession\ninitial root u:r:t\ninitial port u:r:s\nport 80 u:r:t\naudit\ndir /a u:r:t\nfile /a/b u:r:s\nfile /c u:r:s #x\nclient ann u:r:t\nclient bob u:r:s\nrun\nann port begin\nann file open 3 /a/b ra\nann file give 3 bob 7\nbob file list / 0\nbob process exec 65535 u:r:t\nann port bind 0 80 br\nadmin notify 1\nadmin update 4294967295\nann port end\nadmin ack\nadmin force\n"
unfolding digits perm_word has context_text held_names policy_lines mode_word bind_word file_words process_words port_words setup_lines run_lines lines_below_policy session_lines printed
example_printed = refl
