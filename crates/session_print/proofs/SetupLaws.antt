-- Session lines that were printed are read as those lines.
use Rattle.std.proofs.Common.{◌≡◌, ◌∙◌, ◌<◌, ◌+◌, ℕ, true, false, leb, length, List, [], ◌∷◌, ◌++◌, Option, Some, None, Result, Ok, Err, refl, ap, arith}
use Rattle.std.specs.Prelude.{◌==◌, IfSome, codes, if◌then◌else◌}
use Rattle.std.specs.List.{list_all}
use Rattle.std.proofs.lemmas.Bool.{le-ltb, lt-leb, eq-eqb, not-true}
use Rattle.flask_sid.specs.Contexts.{context_form}
use Rattle.flask_sid.specs.declared.context.ContextOf.{ContextOf}
use Rattle.text_lines.specs.declared.fault.FaultKind.{FaultKind}
use Rattle.text_lines.specs.declared.fault.FaultKind.TheVariants.{Ended}
use Rattle.text_lines.specs.Lines.{is_comment, line_words}
use Rattle.text_lines.specs.ResultSteps.{◌>>=◌}
use Rattle.text_print.specs.Printed.{is_word}
use Rattle.text_print.proofs.NameLaws.{form_of_name, name_is_word}
use Rattle.text_print.proofs.WordLaws.{line_words_spaced}
use Rattle.text_print.proofs.LeadLaws.{Leads}
use Rattle.policy_model.specs.Kept.{Grown}
use Rattle.policy_print.proofs.FieldLaws.{name_short}
use Rattle.file_calls.specs.Openings.{has_node, is_parent_there}
use Rattle.file_calls.specs.declared.opening.Node.{Node}
use Rattle.port_calls.specs.declared.opening.LabelledPort.{LabelledPort}
use Rattle.session_forms.specs.Arguments.{last_word, only_word, only_context}
use Rattle.session_forms.specs.PathForms.{path_form}
use Rattle.session_forms.specs.SetupForms.{file_form, directory_form, client_form, initial_of, initial_form, port_form, setup_form}
use Rattle.session_forms.specs.declared.setup_forms.Initial.TheVariants.{Root, Ports}
use Rattle.session_forms.specs.declared.setup_forms.SetupForm.{SetupForm}
use Rattle.session_forms.specs.declared.setup_forms.SetupForm.TheVariants as form
use Rattle.session_text.specs.declared.session.ClientLine.{ClientLine}
use Rattle.session_text.specs.declared.session.SessionParts.{SessionParts}
use Rattle.session_text.specs.Readers.{SessionReader}
use Rattle.session_text.specs.Readers as reader
use Rattle.session_text.specs.Above.{node_limit, port_limit, client_limit, has_port, has_client}
use Rattle.session_text.specs.Grammar.{Setup, set_up, with_root, with_initial_port, with_audit, with_port, with_node, with_client, is_past_node, is_taken, node_sid, file_read, directory_read, is_past_client, is_named, client_sid, client_read, initial_with, initial_read, audit_read, is_past_port_line, port_with, port_read}
use Rattle.session_text.specs.Reading.{setup_read, below_setup, setup_words_read}
use Rattle.session_text.specs.Sessions.{IsSidOf, IsDatum, MayPort, MayNode, MayClient}
use Rattle.session_print.specs.Words.{context_word, path_word}
use Rattle.session_print.specs.Printed.{initial_words, labelled_port_words, node_words, client_words}
use Rattle.session_print.specs.Same.{IsSameSession}
use Rattle.session_print.proofs.ArgumentLaws.{path_printed, datum_is_word, datum_short, number_printed}
use Rattle.session_print.proofs.CallLaws.{some_is, is_plain}
use Rattle.session_print.proofs.PlaceLaws.{context_printed, context_again}

-- the same setup apart from the numbers of lines
pub record IsSameSetup (one other : Setup) : Type 0 where
  pub session : IsSameSession one.session other.session
  pub root_given : one.root_given ≡ other.root_given
  pub port_given : one.port_given ≡ other.port_given

-- what stands below session line n, as long as `run` has not ended the session lines
abbrev pub still_setup : ℕ → SessionReader → Result Setup FaultKind
still_setup n (reader.Policy reading) = Err Ended
still_setup n (reader.Setup reading) = if reading.number == n + 1 then Ok reading.above else Err Ended
still_setup n (reader.Run reading) = Err Ended

-- what a session line that is not `run` makes of a setup
abbrev pub setup_line : ℕ → List ℕ → Setup → Result Setup FaultKind
setup_line n line setup = line_words n line >>= λ words. setup_words_read n words setup >>= λ next. still_setup n next

-- a setup below line n stands there
stands : (n : ℕ) (setup : Setup) → still_setup n (reader.Setup (record { number = n + 1; above = setup })) ≡ Ok setup
stands n setup = rw (eq-eqb (n + 1) (n + 1) refl) refl

-- what the words of a session line say
abbrev pub setup_of : List (List ℕ) → Option SetupForm
setup_of [] = None
setup_of (first ∷ words) = setup_form first words

-- words say a session line, which leads from one setup to another
pub record SetupSays (words : List (List ℕ)) (one other : Setup) : Type 0 where
  pub said : SetupForm
  pub words_are : list_all is_word words ≡ true
  pub plain : is_plain words ≡ true
  pub says : setup_of words ≡ Some said
  pub stays : (n : ℕ) (setup : Setup) → still_setup n (below_setup n said setup) ≡ Ok setup
  pub reads : (state : Setup) → IsSameSetup state one → (next : Setup) × (setup_read said state ≡ Ok next) × IsSameSetup next other

-- so a line of them leads there
pub said_leads : (words : List (List ℕ)) (one other : Setup) → SetupSays words one other → Leads setup_line IsSameSetup words one other
unfolding setup_words_read
said_leads [] one other says = let never = says.says in cc
said_leads (first ∷ words) one other says =
    record {
      words_are = says.words_are;
      step = λ n state counted same.
          let next = says.reads state same in
          (next.0, rw (line_words_spaced n first words counted says.words_are (not-true (is_comment first) says.plain), says.says, next.1) (says.stays n next.0), next.2);
    }

-- a count below its limit
below_limit : (limit n m : ℕ) → n ≡ m → m < limit → leb limit n ≡ false
below_limit limit n m same few = lt-leb limit n (omega (arith, same, few))

-- the root's context
pub root_says : (one : Setup) → Grown one.session.policy → (sid : ℕ) → IsSidOf one.session.policy.contexts sid → one.root_given ≡ false → SetupSays (initial_words one.session.policy.contexts (codes "root") sid) one (record { session = with_root sid one.session; root_given = true; port_given = one.port_given })
unfolding setup_form initial_form initial_of only_context only_word setup_read initial_read initial_with
root_says one grown sid known free =
    let context = context_printed one.session.policy grown sid known in
    record {
      said = form.Initial Root context.0;
      words_are = rw context.1.is_word refl;
      plain = refl;
      says = rw context.1.read refl;
      stays = λ n setup. stands n setup;
      reads = λ state same.
          let found = context_again one.session.policy state.session.policy grown same.session.policy sid _ context.0 known context.1 in
          let new : state.root_given ≡ false = same.root_given ∙ free in (
            record { session = with_root sid state.session; root_given = true; port_given = state.port_given },
            rw (context.1.short, found, new) refl,
            record {
              session = record { policy = same.session.policy; root = refl; port = same.session.port; ports = same.session.ports; audit = same.session.audit; nodes = same.session.nodes; clients = same.session.clients; lines = same.session.lines };
              root_given = refl;
              port_given = same.port_given;
            },
          );
    }

-- the context of ports without a line
pub initial_port_says : (one : Setup) → Grown one.session.policy → (sid : ℕ) → IsSidOf one.session.policy.contexts sid → one.port_given ≡ false → SetupSays (initial_words one.session.policy.contexts (codes "port") sid) one (record { session = with_initial_port sid one.session; root_given = one.root_given; port_given = true })
unfolding setup_form initial_form initial_of only_context only_word setup_read initial_read initial_with
initial_port_says one grown sid known free =
    let context = context_printed one.session.policy grown sid known in
    record {
      said = form.Initial Ports context.0;
      words_are = rw context.1.is_word refl;
      plain = refl;
      says = rw context.1.read refl;
      stays = λ n setup. stands n setup;
      reads = λ state same.
          let found = context_again one.session.policy state.session.policy grown same.session.policy sid _ context.0 known context.1 in
          let new : state.port_given ≡ false = same.port_given ∙ free in (
            record { session = with_initial_port sid state.session; root_given = state.root_given; port_given = true },
            rw (context.1.short, found, new) refl,
            record {
              session = record { policy = same.session.policy; root = same.session.root; port = refl; ports = same.session.ports; audit = same.session.audit; nodes = same.session.nodes; clients = same.session.clients; lines = same.session.lines };
              root_given = same.root_given;
              port_given = refl;
            },
          );
    }

-- a port with a context of its own
pub port_says : (one : Setup) → Grown one.session.policy → (line : LabelledPort) → MayPort one.session.policy.contexts one.session.ports line → SetupSays (labelled_port_words one.session.policy.contexts line) one (set_up one (record one.session { ports = one.session.ports ++ line ∷ [] }))
unfolding setup_form port_form only_context only_word setup_read port_read is_past_port_line port_with
port_says one grown line may =
    let context = context_printed one.session.policy grown line.sid may.place.1 in
    let number = number_printed line.port (omega (arith, may.place.0)) in
    record {
      said = form.Port line.port context.0;
      words_are = rw (number.is_word, context.1.is_word) refl;
      plain = refl;
      says = rw (context.1.read, number.read) refl;
      stays = λ n setup. stands n setup;
      reads = λ state same.
          let found = context_again one.session.policy state.session.policy grown same.session.policy line.sid _ context.0 may.place.1 context.1 in
          let few : leb port_limit (length state.session.ports) ≡ false = below_limit port_limit _ (length one.session.ports) (ap length same.session.ports) may.few in
          let new : has_port state.session.ports line.port ≡ false = rw same.session.ports may.new in
          let some = some_is line.port may.place.0.0 in
          let within = le-ltb 65535 line.port (omega (arith, may.place.0)) in (
            set_up state (with_port line.port line.sid state.session),
            rw (some, within, context.1.short, few, found, new) refl,
            record {
              session = record { policy = same.session.policy; root = same.session.root; port = same.session.port; ports = ap (λ ports. ports ++ line ∷ []) same.session.ports; audit = same.session.audit; nodes = same.session.nodes; clients = same.session.clients; lines = same.session.lines };
              root_given = same.root_given;
              port_given = same.port_given;
            },
          );
    }

-- audit lines are printed
pub audit_says : (one : Setup) → one.session.audit ≡ false → SetupSays (codes "audit" ∷ []) one (set_up one (with_audit one.session))
unfolding setup_form setup_read audit_read
audit_says one none =
    record {
      said = form.Audit;
      words_are = refl;
      plain = refl;
      says = refl;
      stays = λ n setup. stands n setup;
      reads = λ state same.
          let new : state.session.audit ≡ false = same.session.audit ∙ none in (
            set_up state (with_audit state.session),
            rw new refl,
            record {
              session = record { policy = same.session.policy; root = same.session.root; port = same.session.port; ports = same.session.ports; audit = refl; nodes = same.session.nodes; clients = same.session.clients; lines = same.session.lines };
              root_given = same.root_given;
              port_given = same.port_given;
            },
          );
    }

-- a node more, in setups that are the same
with_same_node : (one state : Setup) → IsSameSetup state one → (path : List (List ℕ)) (sid : ℕ) (bytes : Option (List ℕ)) → IsSameSetup (set_up state (with_node path sid bytes state.session)) (set_up one (with_node path sid bytes one.session))
with_same_node one state same path sid bytes =
    record {
      session = record { policy = same.session.policy; root = same.session.root; port = same.session.port; ports = same.session.ports; audit = same.session.audit; nodes = ap (λ nodes. nodes ++ record { path = path; sid = sid; bytes = bytes } ∷ []) same.session.nodes; clients = same.session.clients; lines = same.session.lines };
      root_given = same.root_given;
      port_given = same.port_given;
    }

-- what a node's line says besides its datum, and that below nodes that are the same it may stand
record NodeReads (one : SessionParts) (path : List (List ℕ)) (sid : ℕ) : Type 0 where
  context : ContextOf (List ℕ)
  path_is_word : is_word (path_word path) ≡ true
  path_read : path_form (path_word path) ≡ Some path
  context_is_word : is_word (context_word one.policy.contexts sid) ≡ true
  context_read : context_form (context_word one.policy.contexts sid) ≡ Some context
  within : (state : SessionParts) → IsSameSession state one → is_past_node path context (length state.nodes) ≡ false
  placed : (state : SessionParts) → IsSameSession state one → node_sid path context state ≡ Ok sid

node_reads : (one : SessionParts) → Grown one.policy → (node : Node) → MayNode one.policy.contexts one.nodes node → NodeReads one node.path node.sid
unfolding is_past_node node_sid is_taken
node_reads one grown node may =
    let word = path_printed node.path may.formed in
    let context = context_printed one.policy grown node.sid may.sid in
    record {
      context = context.0;
      path_is_word = word.is_word;
      path_read = word.read;
      context_is_word = context.1.is_word;
      context_read = context.1.read;
      within = λ state same. rw (word.short, context.1.short) (below_limit node_limit _ (length one.nodes) (ap length same.nodes) may.few);
      placed = λ state same.
          let found = context_again one.policy state.policy grown same.policy node.sid _ context.0 may.sid context.1 in
          let parent : is_parent_there state.nodes node.path ≡ true = rw same.nodes may.place.1 in
          let free : has_node state.nodes node.path ≡ false = rw same.nodes may.place.2 in
          rw (parent, found, some_is (length node.path) may.place.0, free) refl;
    }

-- a directory or a file, by what its bytes are
node_line : (one : Setup) (path : List (List ℕ)) (sid : ℕ) (bytes : Option (List ℕ)) → NodeReads one.session path sid → IfSome bytes IsDatum → SetupSays (node_words one.session.policy.contexts (record { path = path; sid = sid; bytes = bytes })) one (set_up one (with_node path sid bytes one.session))
unfolding setup_form directory_form file_form only_context only_word last_word setup_read directory_read file_read
node_line one path sid None reads datum =
    record {
      said = form.Directory path reads.context;
      words_are = rw (reads.path_is_word, reads.context_is_word) refl;
      plain = refl;
      says = rw (reads.path_read, reads.context_read) refl;
      stays = λ n setup. stands n setup;
      reads = λ state same.
          (set_up state (with_node path sid None state.session), rw (reads.within state.session same.session, reads.placed state.session same.session) refl, with_same_node one state same path sid None);
    }
node_line one path sid (Some []) reads datum =
    record {
      said = form.File path reads.context None;
      words_are = rw (reads.path_is_word, reads.context_is_word) refl;
      plain = refl;
      says = rw (reads.path_read, reads.context_read) refl;
      stays = λ n setup. stands n setup;
      reads = λ state same.
          (set_up state (with_node path sid (Some []) state.session), rw (reads.within state.session same.session, reads.placed state.session same.session) refl, with_same_node one state same path sid (Some []));
    }
node_line one path sid (Some (b ∷ bytes)) reads datum =
    record {
      said = form.File path reads.context (Some (b ∷ bytes));
      words_are = rw (reads.path_is_word, reads.context_is_word, datum_is_word (b ∷ bytes) (omega arith) datum.written) refl;
      plain = refl;
      says = rw (reads.path_read, reads.context_read) refl;
      stays = λ n setup. stands n setup;
      reads = λ state same.
          (set_up state (with_node path sid (Some (b ∷ bytes)) state.session), rw (reads.within state.session same.session, datum_short (b ∷ bytes) datum.short, reads.placed state.session same.session) refl, with_same_node one state same path sid (Some (b ∷ bytes)));
    }

-- a node
pub node_says : (one : Setup) → Grown one.session.policy → (node : Node) → MayNode one.session.policy.contexts one.session.nodes node → SetupSays (node_words one.session.policy.contexts node) one (set_up one (record one.session { nodes = one.session.nodes ++ node ∷ [] }))
node_says one grown node may = node_line one node.path node.sid node.bytes (node_reads one.session grown node may) may.datum

-- a client
pub client_says : (one : Setup) → Grown one.session.policy → (client : ClientLine) → MayClient one.session.policy.contexts one.session.clients client → SetupSays (client_words one.session.policy.contexts client) one (set_up one (record one.session { clients = one.session.clients ++ client ∷ [] }))
unfolding setup_form client_form only_context only_word setup_read client_read is_past_client client_sid is_named
client_says one grown client may =
    let context = context_printed one.session.policy grown client.sid may.sid in
    let name_form = form_of_name client.name may.named in
    record {
      said = form.Client client.name context.0;
      words_are = rw (name_is_word client.name name_form, context.1.is_word) refl;
      plain = refl;
      says = rw (context.1.read, name_form) refl;
      stays = λ n setup. stands n setup;
      reads = λ state same.
          let found = context_again one.session.policy state.session.policy grown same.session.policy client.sid _ context.0 may.sid context.1 in
          let few : leb client_limit (length state.session.clients) ≡ false = below_limit client_limit _ (length one.session.clients) (ap length same.session.clients) may.few in
          let new : has_client state.session.clients client.name ≡ false = rw same.session.clients may.new in (
            set_up state (with_client client.name client.sid state.session),
            rw (name_short client.name may.named, context.1.short, few, found, may.other, new) refl,
            record {
              session = record { policy = same.session.policy; root = same.session.root; port = same.session.port; ports = same.session.ports; audit = same.session.audit; nodes = same.session.nodes; clients = ap (λ clients. clients ++ client ∷ []) same.session.clients; lines = same.session.lines };
              root_given = same.root_given;
              port_given = same.port_given;
            },
          );
    }
