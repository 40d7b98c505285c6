use Rattle.std.proofs.Common.{◌≡◌, ◌∙◌, refl, sym, arith}
use Rattle.gate_rule.specs.History.{settled_in, last_notice}
use Rattle.gate_ledger.specs.Lines.{kind_of}
use Rattle.gate_ledger.proofs.Growing as growing
use Rattle.gate_ledger.proofs.Noticing as noticing
use Rattle.gate_ledger.proofs.ledger.Ledger.with_notice.Goals as goal

pub returns-then-self-newest-clause-err : goal.returns-then-self-newest-clause-err
returns-then-self-newest-clause-err g c =
    let self = c.args.self in
    (refl, noticing.refuses _ _ (noticing.pending c.args.versions c.args.ver c.args.most self.lines.items c.requires.lawful self.newest self.newest_is (λ e. c.if-self-newest.true (self.settled_is ∙ (e ∙ sym self.newest_is)))))

pub returns-then-from-versions-clause-err : goal.returns-then-from-versions-clause-err
returns-then-from-versions-clause-err g c =
    let self = c.args.self in
    let at : settled_in kind_of self.lines.items ≡ (last_notice kind_of self.lines.items).0 = omega (arith, self.settled_is, self.newest_is, c.if-self-newest.false) in
    (refl, noticing.refuses _ _ (noticing.no_version c.args.versions c.args.ver c.args.most self.lines.items c.requires.lawful at (omega (arith, c.from.ensures, c.if-from-versions.true))))

pub returns-then-newest-most-clause-err : goal.returns-then-newest-most-clause-err
returns-then-newest-most-clause-err g c =
    let self = c.args.self in
    let at : settled_in kind_of self.lines.items ≡ (last_notice kind_of self.lines.items).0 = omega (arith, self.settled_is, self.newest_is, c.if-self-newest.false) in (
      refl,
      noticing.refuses _ _
          (noticing.spent c.args.versions c.args.ver c.args.most self.lines.items c.requires.lawful at (omega (arith, c.from.ensures, c.if-from-versions.false)) (sym self.newest_is ∙ c.if-newest-most.true)),
    )

pub returns-in-Ok-clause-allowed : goal.returns-in-Ok-clause-allowed
returns-in-Ok-clause-allowed g c =
    let self = c.args.self in
    let at : settled_in kind_of self.lines.items ≡ (last_notice kind_of self.lines.items).0 = omega (arith, self.settled_is, self.newest_is, c.if-self-newest.false) in
    noticing.allowed c.args.versions c.args.ver c.args.most self.lines.items c.requires.lawful at (omega (arith, c.from.ensures, c.if-from-versions.false)) (λ e. c.if-newest-most.false (self.newest_is ∙ e))

pub returns-in-Ok-clause-lawful : goal.returns-in-Ok-clause-lawful
returns-in-Ok-clause-lawful g c =
    let self = c.args.self in
    growing.grown _ self.lines.items _ _ c.requires.lawful c.in-Ok.ensures.ok
    (omega (arith, self.settled_is, self.newest_is, c.if-self-newest.false), omega (arith, self.settled_is, c.if-self-newest.false), omega (arith, c.from.ensures, c.if-from-versions.false))

pub returns-in-Err-clause-err : goal.returns-in-Err-clause-err
returns-in-Err-clause-err g c =
    let self = c.args.self in
    let at : settled_in kind_of self.lines.items ≡ (last_notice kind_of self.lines.items).0 = omega (arith, self.settled_is, self.newest_is, c.if-self-newest.false) in (
      c.in-Err.ensures.ok,
      noticing.lacks_memory _
          (noticing.allowed c.args.versions c.args.ver c.args.most self.lines.items c.requires.lawful at (omega (arith, c.from.ensures, c.if-from-versions.false)) (λ e. c.if-newest-most.false (self.newest_is ∙ e))),
    )
