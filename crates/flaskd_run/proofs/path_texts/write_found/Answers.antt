use Rattle.flaskd_run.proofs.path_texts.write_found.Goals as goal

pub returns-in-Found-clause-ok : goal.returns-in-Found-clause-ok
returns-in-Found-clause-ok g c = rw (c.in-Found.is, ← c.hops.ensures) c.write_path.ensures.ok
