use Rattle.std.proofs.Common.{inl, inr}
use Rattle.world_eval.proofs.Stands.{no_table, stands_wrong}
use Rattle.world_eval.proofs.standing.standing_of.Goals as goal

pub returns-in-Err-NoTable : goal.returns-in-Err-NoTable
returns-in-Err-NoTable c =
    stands_wrong c.args.query.now c.args.tables.now c.args.sections.now c.in-Err-NoTable.hypo _
    (inl (no_table c.args.query.now c.args.tables.now c.args.sections.now c.in-Err-NoTable.hypo _ c.in-Err-NoTable.field-0-is c.in-Err-NoTable.ensures.fault)) c.not_possible.ensures

pub returns-in-None : goal.returns-in-None
returns-in-None c = (c.in-Ok.ensures.world, (c.is_possible.ensures.possible c.requires.columns).0 c.in-None.is)

pub returns-in-Some : goal.returns-in-Some
returns-in-Some c =
    stands_wrong c.args.query.now c.args.tables.now c.args.sections.now c.in-Some.hypo _
    (inr (c.in-Ok.world, c.in-Ok.ensures.world, c.in-Some.ensures.first c.requires.columns)) c.not_possible-in-Some.ensures
