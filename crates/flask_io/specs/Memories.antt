-- What a source and a sink in memory hold.
use Rattle.std.specs.Prelude.{ℕ, List}
use Rattle.flask_io.specs.Calls.{Calls}
use Rattle.flask_io.specs.declared.memory.MemorySource.{MemorySource}
use Rattle.flask_io.specs.declared.memory.MemorySink.{MemorySink}

-- the bytes that are still to come
abbrev pub bytes_left : MemorySource → List ℕ
bytes_left source = source.left.now

-- the reads that were asked of a source
abbrev pub calls_of_source : MemorySource → Calls
calls_of_source source = source.calls

-- the bytes that were written so far
abbrev pub bytes_written : MemorySink → List ℕ
bytes_written sink = sink.bytes.items

-- the writes that were asked of a sink
abbrev pub calls_of_sink : MemorySink → Calls
calls_of_sink sink = sink.calls
