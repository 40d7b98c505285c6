use Rattle.session_generator.specs.Generated.{generated}
use Rattle.session_generator.proofs.SessionLaws.{is_session}
use Rattle.session_generator.proofs.making.generated.Goals as goal

pub of-requires : goal.of-requires
unfolding generated
of-requires c =
    rw (c.in_ok-policy.ensures, c.sid_at-object.ensures, c.new.ensures, c.new-2.ensures, c.in_ok-made_clients.ensures, c.in_ok-made_lines.ensures, c.from.ensures)
    (is_session c.args.seed c.args.clients c.args.lines c.requires)
