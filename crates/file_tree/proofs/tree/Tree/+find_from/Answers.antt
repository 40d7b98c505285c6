use Rattle.std.proofs.Common.{◌≡◌, ◌-◌, ◌++◌, Some, ◌∙◌, sym, ap, subst, length, take, drop}
use Rattle.std.specs.Prelude.{MatchOption}
use Rattle.std.specs.FinMap as maps
use Rattle.file_tree.specs.Nodes.{IsAt, IsFree, path_in, path_of, step_from}
use Rattle.file_tree.specs.PlainTree.{steps_of}
use Rattle.file_tree.proofs.BelowLemmas.{below_file, first_step, free_below, walked_on}
use Rattle.file_tree.proofs.tree.Tree.+find_from.Goals as goal

pub returns-then-is_some : goal.returns-then-is_some
returns-then-is_some t c =
    let nodes = c.args.self.now in
    let names = c.args.names.now in
    let file = c.in_ok-node.field-0.now in
    let held : maps.get nodes c.args.here ≡ Some file = sym c.in_ok-node.ensures.node in
    let rest = steps_of (take (length names - 1) (drop 1 names)) in
    subst (IsFree nodes) ((λ i. sym (ap path_of held) i ++ first_step names c.name-item.result c.in-len1-up.len_at_least c.name-item.is i))
    (below_file nodes c.requires.made.root_path c.requires.made.parents c.requires.made.once c.args.here file held (sym c.if-is_some.ensures)
    (record { key = 0; name = c.name-item.result }) rest)

pub returns-in_err-next : goal.returns-in_err-next
returns-in_err-next t c =
    let nodes = c.args.self.now in
    let names = c.args.names.now in
    let here = path_in nodes c.args.here in
    let path = here ++ steps_of names in
    let free = subst (IsFree nodes) (walked_on here names c.name-item.result c.as_bytes.result.now c.in-len1-up.len_at_least c.name-item.is c.as_bytes.ensures)
    (free_below nodes c.requires.made.root_path c.requires.made.parents (step_from here 0 c.as_bytes.result.now) c.in_err-next.ensures.there (steps_of (take (length names - 1) (drop 1 names)))) in
    subst (λ found. MatchOption found (IsFree nodes path) (IsAt nodes path)) (sym c.from_residual-in_err-next.ensures) free

pub returns : goal.returns
returns t c =
    let nodes = c.args.self.now in
    let names = c.args.names.now in
    let here = path_in nodes c.args.here in
    let at = c.in_ok-next.ensures.there in
    let next : path_in nodes c.in_ok-next.next ≡ step_from here 0 c.as_bytes.result.now = ap path_of at.held ∙ at.at in
    let path = ap (λ p. p ++ steps_of (take (length names - 1) (drop 1 names))) next
    ∙ walked_on here names c.name-item.result c.as_bytes.result.now c.in-len1-up.len_at_least c.name-item.is c.as_bytes.ensures in
    subst (λ p. MatchOption c.find_from.result (IsFree nodes p) (IsAt nodes p)) path c.find_from.ensures
