use Rattle.tables_csv.proofs.Passing.{passes}
use Rattle.tables_csv.proofs.record.take_record.Goals as goal

pub returns : goal.returns
returns c =
    passes c.args.reader.now c.read_byte_record.new.self c.in-Ok.found _ c.requires (c.in-Ok.ensures.reads c.requires.trim c.requires.ready)
    (c.in-Ok.ensures.ready c.requires.trim)
