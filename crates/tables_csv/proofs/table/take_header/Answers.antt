use Rattle.tables_csv.specs.WholeTables.{names_of}
use Rattle.tables_csv.proofs.Passing.{header_told, lacks_all}
use Rattle.tables_csv.proofs.table.take_header.Goals as goal

pub returns-then-not-branch : goal.returns-then-not-branch
returns-then-not-branch c = lacks_all c.args.reader.now (names_of c.args.columns.now) (rw c.if-not-branch.true at c.in_ok-take_record.ensures)

pub returns : goal.returns
returns c =
    let passes = rw c.if-not-branch.false at c.in_ok-take_record.ensures in
    header_told c.args.reader.now c.take_record.new.reader _ (names_of c.args.columns.now) c.is_header.result passes.0 passes.1 c.is_header.ensures.0 c.is_header.ensures.1
