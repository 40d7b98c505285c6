use Rattle.std.proofs.Common.{◌≡◌, ◌≤◌, ◌<◌, ◌+◌, ◌∙◌, [], ◌∷◌, ◌++◌, length, get_or, take, sym, ap, subst, arith}
use Rattle.std.proofs.lemmas.List.{take_all}
use Rattle.std.proofs.lemmas.Grind.{take_at_read}
use Rattle.policy_model.specs.Kept.{IsRule}
use Rattle.policy_versions.specs.declared.block.Block.{Block}
use Rattle.policy_versions.specs.Cells.{class_place}
use Rattle.policy_versions.specs.Changes.{Tells, AllTell}
use Rattle.policy_versions.proofs.TellLemmas.{told_none}
use Rattle.policy_versions.proofs.TableLemmas.{drawn_more, place_small}
use Rattle.policy_versions.proofs.blocks.Blocks.draw.Goals as goal

pub rules-init : goal.rules-init
rules-init c = λ policy class none kinds rules s t hs ht.
    let few : length policy.kinds ≤ 128 = kinds.few in
    subst (Tells c.args.content policy _ class s t) (sym (c.clear.ensures (class_place class) s t none (place_small class) (omega arith))) (told_none c.args.content policy class s t)

pub rules-preserved : goal.rules-preserved
rules-preserved c = λ policy class none kinds rules.
    let i = c.rules.rule-index in
    let lines = c.args.rules.now in
    let rule = c.rule-item.result in
    let blocks = c.rules.self.drawn.items in
    let before = c.index_mut.result.now in
    let within : i < length lines = c.rules-test.true in
    let next : take (i + 1) lines ≡ take i lines ++ rule ∷ [] = (take_at_read lines i rule within).1 ∙ ap (λ one. take i lines ++ one ∷ []) (sym c.rule-item.is) in
    let good : IsRule policy.kinds policy.attributes rule = rw c.rule-item.is (rules i rule within) in
    let at : before ≡ get_or blocks (class_place rule.class) before = c.index_mut.ensures.value ∙ ap (λ place. get_or blocks place before) c.place_of.ensures.value in
    let told = subst (λ (block : Block). AllTell c.args.content policy (take i lines) rule.class block.rows.items) (sym at) (c.rules.invariant policy rule.class before kinds rules) in
    rw (next, c.place_of.ensures.value)
    (drawn_more c.args.content policy (take i lines) rule blocks c.draw_line.new.self c.rules.self.whole (λ one spare. c.rules.invariant policy one spare kinds rules)
    (c.draw_line.ensures policy (take i lines) kinds good told) class none)

pub returns : goal.returns
returns c = λ policy class none kinds rules.
    let past : length c.args.rules.now ≤ c.rules.rule-index = omega arith in
    subst (λ lines. AllTell c.args.content policy lines class (get_or c.rules.self.drawn.items (class_place class) none).rows.items) (take_all c.rules.rule-index c.args.rules.now past) (c.rules.invariant policy class none kinds rules)
