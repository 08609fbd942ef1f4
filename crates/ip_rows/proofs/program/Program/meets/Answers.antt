use Rattle.ip_rows.proofs.SumLemmas.{bounded_rows}
use Rattle.ip_rows.proofs.program.Program.meets.Goals as goal

pub first_broken-requires-clause-bounded : goal.first_broken-requires-clause-bounded
first_broken-requires-clause-bounded c =
    let program = c.args.self.now in
    bounded_rows program.columns c.args.point.now c.requires.between program.rows _ c.as_slice.ensures c.requires.formed.rows c.requires.measured.rows
