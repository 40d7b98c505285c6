use Rattle.std.proofs.Common.{◌∙◌, sym, ap}
use Rattle.std.specs.Prelude.{◌||◌, ◌+◌, drop}
use Rattle.std.specs.Str.{bytes_eq}
use Rattle.flow_query.specs.Hops.{has_type}
use Rattle.flow_query.proofs.NodeLemmas.{any_from}
use Rattle.flow_query.proofs.nodes.has_type.Goals as goal

pub returns-then-eq : goal.returns-then-eq
returns-then-eq c =
    let step = any_from (λ context. bytes_eq context.kind c.args.name.now) c.args.sids.now c.contexts.place c.context_at.result.now c.context_at.ensures in
    sym (c.contexts.invariant ∙ step ∙ ap (λ b. b || has_type (drop (c.contexts.place + 1) c.args.sids.now) c.args.name.now) (sym (c.eq.ensures ∙ ap (λ n. bytes_eq n c.args.name.now) c.as_bytes.ensures) ∙ c.if-eq.true))

pub contexts-preserved : goal.contexts-preserved
contexts-preserved c =
    let step = any_from (λ context. bytes_eq context.kind c.args.name.now) c.args.sids.now c.contexts.place c.context_at.result.now c.context_at.ensures in
    c.contexts.invariant ∙ step ∙ ap (λ b. b || has_type (drop (c.contexts.place + 1) c.args.sids.now) c.args.name.now) (sym (c.eq.ensures ∙ ap (λ n. bytes_eq n c.args.name.now) c.as_bytes.ensures) ∙ c.if-eq.false)
