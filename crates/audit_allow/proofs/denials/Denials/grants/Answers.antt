use Rattle.std.proofs.Common.{◌≡◌, ◌∙◌, ◌≤◌, [], length, sym, ap, arith}
use Rattle.audit_allow.specs.Grants.{joined_below, grants_from, grants}
use Rattle.audit_allow.proofs.GrantLemmas.{joined_zero, joined_more}
use Rattle.audit_allow.proofs.denials.Denials.grants.Goals as goal

pub sources-init : goal.sources-init
sources-init c = c.new-grants.ensures ∙ sym (joined_zero (grants_from c.args.list c.args.self.now))

pub sources-preserved : goal.sources-preserved
sources-preserved c = joined_more (grants_from c.args.list c.args.self.now) c.sources.s [] c.sources.grants c.put_from.new.grants c.sources.invariant c.in_ok-put_from.ensures

pub returns : goal.returns
unfolding grants
returns c =
    let high : c.sources.s ≤ c.kind_count-s-end.result = c.sources.auto.s-end in
    let low : c.kind_count-s-end.result ≤ c.sources.s = c.sources-test.false in
    let all : c.sources.s ≡ length c.args.self.now.policy.kinds = (let same : c.sources.s ≡ c.kind_count-s-end.result = omega (arith, high, low) in same) ∙ c.kind_count-s-end.ensures in
    c.sources.invariant ∙ ap (λ n. joined_below n (grants_from c.args.list c.args.self.now)) all
