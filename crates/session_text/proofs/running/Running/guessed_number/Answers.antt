use Rattle.std.proofs.Common.{◌≡◌, sym, ap, ◌∙◌, ◌<◌, length, Some}
use Rattle.std.specs.Option.{option_copied}
use Rattle.session_text.specs.Above.{client_number}
use Rattle.session_text.proofs.ClientLemmas.{client_at}
use Rattle.session_text.proofs.running.Running.guessed_number.Goals as goal

-- the client at the guessed place is the one of that name
found : (c : goal.Then-is) → (client_number c.self.inside.parts.clients c.args.name.now ≡ Some c.place-place.result) × (c.place-place.result < length c.self.inside.parts.clients)
found c =
    let got = sym c.get.ensures ∙ ap option_copied c.in_ok-client.was in
    client_at _ c.self.inside.parts.clients c.place-place.result c.in_ok-client.client.now c.args.name.now c.self.invariant.kept.clients got (sym c.is.ensures ∙ c.if-is.true)

pub returns-then-is-clause-value : goal.returns-then-is-clause-value
returns-then-is-clause-value c = rw (← c.self.view_is) (found c).0

pub returns-then-is-clause-within : goal.returns-then-is-clause-within
returns-then-is-clause-within c = rw (← c.self.view_is) (found c).1
