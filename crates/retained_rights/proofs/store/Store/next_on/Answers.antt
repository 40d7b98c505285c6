use Rattle.retained_rights.proofs.IndexLemmas.{next_small}
use Rattle.retained_rights.proofs.store.Store.next_on.Goals as goal

pub returns-clause-small : goal.returns-clause-small
returns-clause-small c = next_small c.self.inside.by_object c.args.object c.args.from c.next.result c.next.ensures
