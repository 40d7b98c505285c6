use Rattle.std.proofs.Common.{rules}
use Rattle.thread_tasks.proofs.Places.{zip_from_places}
use Rattle.thread_tasks.proofs.each.run_each.Goals as goal

pub returns : goal.returns
returns g c = zip_from_places (g.W.Task.did c.args.task.now) c.args.each.now c.for_each_mut.new.s (search rules) (λ i d lt. search rules)
