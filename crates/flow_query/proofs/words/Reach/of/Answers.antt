use Rattle.access_vectors.specs.declared.class.Class.TheVariants.{File, Dir, Process, Port, Security}
use Rattle.flow_query.proofs.ReachLemmas.{shut_of, each_class, all_shut}
use Rattle.flow_query.proofs.words.Reach.of.Goals as goal

pub returns : goal.returns
returns c = λ s t hs ht none.
    let rows = c.args.vectors.now in
    let routes = c.args.routes.now in
    let security = c.join-5.ensures s t hs ht none in
    let port = c.join-4.ensures s t hs ht security.0 in
    let process = c.join-3.ensures s t hs ht port.0 in
    let dir = c.join-2.ensures s t hs ht process.0 in
    let file = c.join.ensures s t hs ht dir.0 in
    all_shut rows c.args.version c.args.way s t routes
    (each_class rows c.args.version c.args.way s t routes
    (shut_of File rows c.args.version c.args.way s t c.perms_of-file.result routes c.perms_of-file.ensures file.1)
    (shut_of Dir rows c.args.version c.args.way s t c.perms_of-dir.result routes c.perms_of-dir.ensures dir.1)
    (shut_of Process rows c.args.version c.args.way s t c.perms_of-process.result routes c.perms_of-process.ensures process.1)
    (shut_of Port rows c.args.version c.args.way s t c.perms_of-port.result routes c.perms_of-port.ensures port.1)
    (shut_of Security rows c.args.version c.args.way s t c.perms_of-security.result routes c.perms_of-security.ensures security.1))
