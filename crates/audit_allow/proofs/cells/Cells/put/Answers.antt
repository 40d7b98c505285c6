use Rattle.std.proofs.Common.{◌≡◌, ◌∙◌, List, ℕ, ap}
use Rattle.access_vectors.specs.Vectors.{with_index}
use Rattle.audit_allow.specs.Cells.{cell_key, vector_at}
use Rattle.audit_allow.proofs.CellLemmas.{put_changed}
use Rattle.audit_allow.proofs.cells.Cells.put.Goals as goal

pub returns : goal.returns
returns c =
    let rows = c.self.inside.rows.entries in
    let key : c.key_of.result ≡ cell_key c.args.s c.args.t c.args.perm.class = rw c.class-2.ensures at c.key_of.ensures in
    let had : c.vector.result ≡ vector_at rows c.key_of.result = rw (c.self.view_is, key) (rw c.class.ensures at c.vector.ensures) in
    let is : c.with-vector.result ≡ with_index (vector_at rows c.key_of.result) c.args.perm.index = rw (had, c.index.ensures.value) at c.with-vector.ensures in
    rw (← c.self.view_is, ← key) (put_changed rows c.insert.new.self.entries c.key_of.result c.with-vector.result c.args.perm.index c.in_ok-insert.ensures.updates.0 is)
