use Rattle.std.proofs.Common.{subst}
use Rattle.point_listing.specs.Solving.{IsSolved}
use Rattle.program_answer.proofs.Verdicts.{best_verdict, row_verdict}
use Rattle.program_answer.proofs.answer.verdict_of.Goals as goal

pub returns-in-Best : goal.returns-in-Best
returns-in-Best c =
    let query = c.args.subject.now.query.now in
    let tables = c.args.subject.now.tables.now in
    let columns = c.args.subject.now.columns.now in
    let program = c.args.built.now.program in
    let g = c.args.built.now.fold in
    let stands = c.args.built.now.map.stands in
    best_verdict query tables columns program g stands c.requires.encodes c.args.budget c.in-Best.point c.in-Best.parts c.optimal.result
    (subst (IsSolved program g stands c.args.budget) c.in-Best.is c.requires.solved) c.optimal.ensures

pub returns-in-FalseRow : goal.returns-in-FalseRow
returns-in-FalseRow c =
    let query = c.args.subject.now.query.now in
    let tables = c.args.subject.now.tables.now in
    let columns = c.args.subject.now.columns.now in
    let program = c.args.built.now.program in
    let g = c.args.built.now.fold in
    let stands = c.args.built.now.map.stands in
    row_verdict query tables columns program g stands c.requires.encodes c.args.budget c.in-FalseRow.row c.requires.formed c.requires.measured
    (subst (IsSolved program g stands c.args.budget) c.in-FalseRow.is c.requires.solved)
