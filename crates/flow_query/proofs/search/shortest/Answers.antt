use Rattle.flow_query.proofs.search.shortest.Goals as goal

pub returns-in-None : goal.returns-in-None
returns-in-None c = rw (c.in-None.is, c.in_ok-finder.ensures) at c.in_ok-levels_below.ensures
