use Rattle.ip_rows.proofs.SumLemmas.{bounded_aim}
use Rattle.ip_rows.proofs.program.Program.value.Goals as goal

pub total-requires : goal.total-requires
total-requires c =
    let program = c.args.self.now in
    bounded_aim program.columns c.args.point.now c.requires.between program.aim _ program.constant c.as_slice.ensures c.requires.formed.aim c.requires.measured.aim
