use Rattle.retained_rights.proofs.store.Store.mark.Goals as goal

pub mark_rows-requires-clause-known : goal.mark_rows-requires-clause-known
mark_rows-requires-clause-known g c = rw (← c.self.view_is) at c.requires.known
