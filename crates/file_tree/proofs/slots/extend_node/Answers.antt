use Rattle.std.proofs.Common.{◌++◌, arith}
use Rattle.std.proofs.lemmas.Result.{on_ok_weaker}
use Rattle.file_tree.proofs.FileLemmas.{file_bytes, file_changed, file_there, file_within}
use Rattle.file_tree.proofs.slots.extend_node.Goals as goal

pub index_mut-requires : goal.index_mut-requires
index_mut-requires c = omega (arith, file_within c.args.slots.now.items c.args.number c.requires)

pub unreachable-requires : goal.unreachable-requires
unreachable-requires c = file_there c.args.slots.now.items c.args.number c.index_mut.result.now c.requires c.index_mut.ensures.value c.in_default.is

pub extend_bytes-requires : goal.extend_bytes-requires
extend_bytes-requires c =
    file_bytes c.args.slots.now.items c.args.number c.index_mut.result.now c.in-Some.field-0 c.requires c.index_mut.ensures.value c.in-Some.is

pub returns-clause-ok : goal.returns-clause-ok
returns-clause-ok c =
    on_ok_weaker c.extend_bytes.result (file_changed c.args.slots.now.items c.args.number c.index_mut.result.now c.in-Some.field-0 c.requires c.index_mut.ensures.value c.in-Some.is
    (λ bytes. bytes ++ c.args.piece.now) c.extend_bytes.new.bytes)
    c.extend_bytes.ensures.ok
