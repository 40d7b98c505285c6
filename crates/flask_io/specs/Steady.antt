-- What a source and a sink that never fail hold and take.
use Rattle.std.specs.Prelude.{ℕ, List}
use Rattle.flask_io.specs.declared.steady.SteadySource.{SteadySource}
use Rattle.flask_io.specs.declared.sink.Put.{Put}
use Rattle.flask_io.specs.declared.sink.Put.TheVariants.{Took, Failed as Refused}

-- the bytes that are still to come
abbrev pub bytes_left : SteadySource → List ℕ
bytes_left source = source.left.now

-- how many bytes a write took
abbrev pub taken_of : Put → ℕ
taken_of (Took n) = n
taken_of Refused = 0
