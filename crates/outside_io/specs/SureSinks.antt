-- a sink in memory that never fails
use Rattle.std.specs.Prelude.{ℕ, List, Option, Some}
use Rattle.outside_io.specs.declared.sure_sink.SureSink.{SureSink}

-- the text that was written
abbrev pub written_to : SureSink → Option (List ℕ)
written_to sink = Some sink.written.items
