use Rattle.std.proofs.Common.{sym, ◌∙◌, ◌≡◌, ◌∷◌, []}
use Rattle.flask_sid.proofs.Cuts.{cut_at, uncut}
use Rattle.text_lines.specs.Lines.{is_line_end, lines_of}
use Rattle.text_lines.proofs.LineLemmas.{no_line, one_line, line_cut, first_stands, others_stand}
use Rattle.text_lines.proofs.lines.Lines.next.Goals as goal

pub returns-then-is_empty : goal.returns-then-is_empty
returns-then-is_empty c =
    let none : c.args.self.now ≡ [] = sym c.self.view_is ∙ no_line c.self.inside.rest.now (sym c.if-is_empty.ensures) in
    (none, none)

-- the lines, where no line end is left
last : (c : goal.After-self-in-None-2-1) → lines_of c.self.inside.rest.now ≡ c.self.inside.rest.now ∷ lines_of []
last c = one_line c.self.inside.rest.now (sym c.if-is_empty.ensures) (uncut is_line_end c.self.inside.rest.now (sym c.line_end.ensures ∙ c.in-None.is))

pub returns-in-None : goal.returns-in-None
returns-in-None c = sym c.self.view_is ∙ last c

pub invariant_of-result : goal.invariant_of-result
invariant_of-result c = first_stands c.self.inside.stand _ _ _ (last c) c.self.invariant

pub invariant_of-self : goal.invariant_of-self
invariant_of-self c = others_stand c.self.inside.stand _ _ _ (last c) c.self.invariant

-- the lines, where one ends
cut : (c : goal.After-below-in-Some-1) → lines_of c.self.inside.rest.now ≡ c.split_at.result.0.now ∷ lines_of c.split_at-in-Some.result.1.now
cut c =
    let at = cut_at is_line_end c.self.inside.rest.now 0 c.in-Some.at (sym c.line_end.ensures ∙ c.in-Some.is) in
    rw (c.split_at.ensures.front, c.split_at-in-Some.ensures.back) (line_cut c.self.inside.rest.now _ _ at.1)

pub returns-in-Some : goal.returns-in-Some
returns-in-Some c = sym c.self.view_is ∙ cut c

pub invariant_of-result-in-Some : goal.invariant_of-result-in-Some
invariant_of-result-in-Some c = first_stands c.self.inside.stand _ _ _ (cut c) c.self.invariant

pub invariant_of-self-in-Some : goal.invariant_of-self-in-Some
invariant_of-self-in-Some c = others_stand c.self.inside.stand _ _ _ (cut c) c.self.invariant
