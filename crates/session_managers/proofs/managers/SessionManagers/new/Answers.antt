use Rattle.std.proofs.Common.{refl, arith}
use Rattle.managed.specs.Posts.{last_asked, last_reply}
use Rattle.session_managers.proofs.OpenedLemmas.{opened_led}
use Rattle.session_managers.proofs.managers.SessionManagers.new.Goals as goal

pub new-requires-2-clause-fits : goal.new-requires-2-clause-fits
new-requires-2-clause-fits g c =
    c.in_ok-files.ensures.fits (g.D.Decider.decides c.args.decider.now) (g.met.D.Decider.closed c.args.decider.now).some_version c.requires.files

pub new-requires-5 : goal.new-requires-5
new-requires-5 g c =
    rw (c.in_ok-managers.ensures.items, c.new-2.ensures, c.new-3.ensures, c.new-4.ensures, c.new-server.ensures)
    (opened_led g.D.Decider.decides c.args.decider.now _ _ _ (g.met.D.Decider.closed c.args.decider.now).some_version
    (record { numbered = refl; most = refl; versions = refl; phase = refl })
    (record { numbered = refl; most = refl; versions = refl; phase = refl })
    (record { numbered = refl; most = refl; versions = refl; phase = refl }))

pub invariant_of-result : goal.invariant_of-result
invariant_of-result g c =
    rw (c.new-5.ensures, c.new-server.ensures, c.in_ok-managers.ensures.items, c.new-2.ensures, c.new-3.ensures, c.new-4.ensures) (
      record {
        file = _;
        process = _;
        port = _;
        managers_are = refl;
        files = _;
        files_are = refl;
        processes = _;
        processes_are = refl;
        ports = _;
        ports_are = refl;
        file_decider = refl;
        process_decider = refl;
        port_decider = refl;
        most = refl;
        changing = λ _. refl;
      },
      omega arith,
    )

pub returns : goal.returns
unfolding last_asked last_reply
returns g c =
    rw (
      c.new-5.ensures,
      c.new-server.ensures,
      c.in_ok-managers.ensures.items,
      c.new-2.ensures,
      c.new-3.ensures,
      c.new-4.ensures,
      c.in_ok-files.ensures.state,
      c.in_ok-files.ensures.follows,
      c.new-processes.ensures.state,
      c.new-processes.ensures.follows,
      c.new-ports.ensures.state,
      c.new-ports.ensures.follows,
    )
    refl
