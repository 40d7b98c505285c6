use Rattle.std.proofs.Common.{◌≡◌, rules, subst, sym}
use Rattle.process_calls.specs.declared.opening.ProcessOpening.{ProcessOpening}
use Rattle.process_calls.specs.Example.{AnswersOfDay, one_client_opening}
use Rattle.process_calls.proofs.ExampleLemmas.{answers_of_day}
use Rattle.process_calls.proofs.example.one_client.Goals as goal

pub returns-clause-answers : goal.returns-clause-answers
returns-clause-answers c =
    let is : ◌≡◌ {A = ProcessOpening} (record { clients = c.push.new.self }) one_client_opening = search rules in
    subst AnswersOfDay (sym is) answers_of_day
