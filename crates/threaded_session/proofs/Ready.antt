-- A session that is prepared may be run.
use Rattle.std.proofs.Common.{◌≡◌, ◌<◌, ◌≤◌, ℕ, Bool, true, false, List, [], ◌∷◌, length, Some, refl, sym, ap, subst, ◌∙◌, arith}
use Rattle.std.specs.Prelude.{All, slice_get}
use Rattle.std.specs.List.{filter}
use Rattle.std.specs.Global.{Vec}
use Rattle.access_vectors.specs.Decisions.{Decisions}
use Rattle.retained_rights.specs.declared.callbacks.EachBits.{EachBits}
use Rattle.retained_rights.specs.declared.callbacks.AllBits.{AllBits}
use Rattle.epoch_gate.specs.Seats.{SeatView, Site}
use Rattle.managed_run.specs.declared.docket.Opened.{Opened}
use Rattle.session_text.specs.declared.session.RunLine.{RunLine}
use Rattle.session_text.specs.declared.session.SessionParts.{SessionParts}
use Rattle.admin_walk.specs.Walks.{own_lines, one_if, is_administrators}
use Rattle.client_script.specs.Scripts.{is_by, is_of_admin, script_of, admin_script}
use Rattle.client_script.specs.Clients.{HaveRoom, IsFormedFor, standings_of}
use Rattle.client_script.specs.declared.stations.Stations.{Stations}
use Rattle.client_script.specs.declared.stations.Seats.{Seats}
use Rattle.run_scripts.specs.Splits.{AreScripts}
use Rattle.run_scripts.specs.declared.splitting.Scripts.{Scripts}
use Rattle.station_start.specs.Starts.{IsStarted, HasStarted}
use Rattle.station_start.specs.Seating.{MaySeatAllAt, MaySeatAll, HasSeatedAllAt, HasSeatedAll, AreFresh}
use Rattle.station_start.specs.declared.started.Limits.{Limits}
use Rattle.station_start.specs.declared.started.Started.{Started}
use Rattle.thread_run.specs.Managers.{IsStation, IsBefore}
use Rattle.thread_run.specs.Runs as runs
use Rattle.thread_run.specs.declared.prepared.Prepared.{Prepared}
use Rattle.thread_run.specs.declared.prepared.Staff.{Staff}
use Rattle.threaded_session.specs.Plans.{MayRun, IsPlanOf}
use Rattle.threaded_session.specs.declared.plan.Plan.{Plan}
use Rattle.threaded_session.proofs.Formed.{script_formed}

-- no more lines are kept than there are
kept_one : (keeps : RunLine → Bool) (line : RunLine) (lines : List RunLine) (b : Bool) → keeps line ≡ b → length (filter keeps lines) ≤ length lines → length (filter keeps (line ∷ lines)) ≤ length (line ∷ lines)
kept_one keeps line lines true is few = rw is (omega (arith, few))
kept_one keeps line lines false is few = rw is (omega (arith, few))

kept_few : (keeps : RunLine → Bool) (lines : List RunLine) → length (filter keeps lines) ≤ length lines
kept_few keeps [] = omega arith
kept_few keeps (line ∷ lines) = kept_one keeps line lines (keeps line) refl (kept_few keeps lines)

one_few : (b : Bool) → one_if b ≤ 1
one_few true = omega arith
one_few false = omega arith

own_few : (lines : List RunLine) → own_lines lines ≤ length lines
own_few [] = omega arith
own_few (line ∷ lines) = omega (arith, one_few (is_administrators line.run), own_few lines)

module _ {C D E : Type 0} (decider : D) (manager : ℕ) (limits : Limits) (site : Site D (Opened C)) (old : SeatView E D (Opened C)) (started : IsStarted decider manager limits site old) where
  -- the station is one of a run
  station : IsStation decider limits.most manager site
  station = record { manager_is = started.manager_is; decider_is = started.decider_is; most_is = started.most }

  -- it may have a seat for each client
  pub may_seat : (count : ℕ) → count ≤ limits.seats → MaySeatAllAt count site old
  may_seat count few = record { gate = started.gate; none = started.nothing.made; room = subst (λ (n : ℕ). count ≤ n) (sym started.seats) few }

  -- its administrator is as before a run, with these seats made
  before : (count : ℕ) (new : SeatView E D (Opened C)) → HasSeatedAllAt count site old new → IsBefore count site new
  before count new seated = record {
    gate = seated.gate;
    idle = seated.ticket ∙ started.nothing.idle;
    made = seated.made;
    retired = seated.retired ∙ started.nothing.retired;
    turns = seated.turns ∙ started.nothing.turns;
    seen = seated.seen ∙ started.nothing.seen;
  }

module _ {D : Type 0} (decides : D → Decisions) (plan : Plan) (limits : Limits) (scripts : Scripts) (started : Started D) (staff : Staff D) (seats : Vec (Seats D EachBits AllBits AllBits))
    (split : AreScripts plan.clients plan.lines.items scripts) (opened : HasStarted staff.decider.now plan.openings limits started)
    (seated : HasSeatedAll plan.clients started.stations started.admins seats.items staff.admins) (script_is : staff.script ≡ scripts.admin) where
  module _ (may : MayRun (decides staff.decider.now) plan) (quota : length plan.lines.items < limits.quota) where
    -- there is room for each line of a script
    room_for : (room quota : ℕ) (script : Vec RunLine) (client : ℕ) → room ≡ quota → quota ≡ limits.quota → script.items ≡ script_of client plan.lines.items → length script.items < room
    room_for room given script client room_is given_is script_is =
        subst (λ (n : ℕ). length script.items < n) (sym (room_is ∙ given_is))
        (subst (λ (lines : List RunLine). length lines < limits.quota) (sym script_is) (omega (arith, kept_few (is_by client) plan.lines.items, quota)))

    -- a client is ready
    ready_at : (client : ℕ) (own : Seats D EachBits AllBits AllBits) (script : Vec RunLine) → slice_get seats.items client ≡ Some own → slice_get scripts.clients.items client ≡ Some script
        → runs.IsReady decides started.stations client own script.items
    ready_at client own script at_seats at_script =
        let fresh : AreFresh started.stations client own = seated.each client own at_seats in
        let is : script.items ≡ script_of client plan.lines.items = split.each client script at_script in
        record {
          seated = fresh.seated;
          fresh = fresh.none;
          client_is = fresh.client_is;
          room = record {
            files = room_for (standings_of own).files.room started.stations.files.fixed.quota script client fresh.room_files opened.files.quota is;
            processes = room_for (standings_of own).processes.room started.stations.processes.fixed.quota script client fresh.room_processes opened.processes.quota is;
            ports = room_for (standings_of own).ports.room started.stations.ports.fixed.quota script client fresh.room_ports opened.ports.quota is;
          };
          formed = subst (All (λ line. IsFormedFor decides started.stations client line.run)) (sym is)
              (script_formed decides started.stations (decides staff.decider.now) plan.clients
              (ap decides opened.files.decider_is) (ap decides opened.processes.decider_is) (ap decides opened.ports.decider_is)
              (ap (λ o. length o.clients) opened.opened_files ∙ may.of_files) (ap (λ o. length o.clients) opened.opened_processes ∙ may.of_processes) (ap (λ o. length o.clients) opened.opened_ports ∙ may.of_ports)
              client plan.lines.items may.formed);
        }

    pub ready : staff.most ≡ limits.most → length plan.lines.items < limits.most → limits.most ≤ 1048575
        → runs.MayRun decides (record { stations = started.stations; staff = staff; seats = seats; scripts = scripts.clients })
    ready most_is most last = record {
      staff = record {
        stations_are = rw most_is (record {
          files = station staff.decider.now 0 limits started.stations.files started.admins.files opened.files;
          processes = station staff.decider.now 1 limits started.stations.processes started.admins.processes opened.processes;
          ports = station staff.decider.now 2 limits started.stations.ports started.admins.ports opened.ports;
        });
        admins = rw seated.length_is (record {
          files = before staff.decider.now 0 limits started.stations.files started.admins.files opened.files plan.clients staff.admins.files seated.files;
          processes = before staff.decider.now 1 limits started.stations.processes started.admins.processes opened.processes plan.clients staff.admins.processes seated.processes;
          ports = before staff.decider.now 2 limits started.stations.ports started.admins.ports opened.ports plan.clients staff.admins.ports seated.ports;
        });
        room = rw (most_is, script_is, split.admin) (omega (arith, own_few (admin_script plan.lines.items), kept_few is_of_admin plan.lines.items, most));
        last = rw most_is last;
      };
      few = subst (λ (n : ℕ). n ≤ 62) (sym seated.length_is) may.few;
      many = split.count ∙ sym seated.length_is;
      each = ready_at;
    }

  pub prepared_of : (session : SessionParts) → IsPlanOf session plan → runs.IsPrepared session (record { stations = started.stations; staff = staff; seats = seats; scripts = scripts.clients })
  prepared_of session of = record {
    opened_files = opened.opened_files ∙ of.files_are;
    opened_processes = opened.opened_processes ∙ of.processes_are;
    opened_ports = opened.opened_ports ∙ of.ports_are;
    clients = seated.length_is ∙ of.clients_are;
    scripts = λ client script at. split.each client script at ∙ ap (script_of client) of.lines_are;
    admin = ap (λ (v : Vec RunLine). v.items) script_is ∙ (split.admin ∙ ap admin_script of.lines_are);
  }
