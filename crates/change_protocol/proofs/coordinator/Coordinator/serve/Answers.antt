use Rattle.std.proofs.Common.{◌<◌, ◌≡◌, length, Some, refl}
use Rattle.std.specs.Prelude.{slice_get}
use Rattle.std.proofs.lemmas.Option.{slice_get_read}
use Rattle.change_protocol.proofs.Serving.{served_led}
use Rattle.change_protocol.proofs.coordinator.Coordinator.serve.Given as given
use Rattle.change_protocol.proofs.coordinator.Coordinator.serve.Goals as goal

-- the manager that is asked stands at its place
within : (g : given.Over) (c : goal.After-self-1 g) → c.from.result < length c.self.inside.managers.items
within g c = rw c.from.ensures (rw (← c.self.view_is) at c.requires.there)

there : (g : given.Over) (c : goal.After-self-1 g) → slice_get c.self.inside.managers.items c.from.result ≡ Some c.index_mut.result.now
there g c = slice_get_read c.self.inside.managers.items _ c.from.result c.index_mut.result.now refl (within g c) c.index_mut.ensures.value

pub invariant_of-self : goal.invariant_of-self
invariant_of-self g c =
    served_led g.D.Decider.decides g.M.Managed.seen c.self.inside.server c.self.inside.managers.items c.self.inside.reached c.from.result c.index_mut.result.now c.serve.new.self
    c.self.invariant (within g c) (there g c) c.serve.ensures.served

pub returns-clause-served : goal.returns-clause-served
returns-clause-served g c =
    rw (← c.self.view_is, ← c.from.ensures)
    (record { was = c.index_mut.result.now; now = c.serve.new.self; there = there g c; managers = refl; done = c.serve.ensures.does })
