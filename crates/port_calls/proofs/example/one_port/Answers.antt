use Rattle.std.proofs.Common.{◌≡◌, rules, subst, sym}
use Rattle.port_calls.specs.declared.opening.PortOpening.{PortOpening}
use Rattle.port_calls.specs.Example.{AnswersOfDay, one_port_opening}
use Rattle.port_calls.proofs.ExampleLemmas.{answers_of_day}
use Rattle.port_calls.proofs.example.one_port.Goals as goal

pub returns-clause-answers : goal.returns-clause-answers
returns-clause-answers c =
    let is : ◌≡◌ {A = PortOpening} (record { clients = c.push-2.new.self; initial = c.unwrap-4.result; ports = c.push-3.new.self }) one_port_opening = search rules in
    subst AnswersOfDay (sym is) answers_of_day
