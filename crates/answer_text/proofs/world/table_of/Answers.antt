use Rattle.std.proofs.Common.{◌∙◌}
use Rattle.tables_csv.proofs.Outcomes.{table-rows}
use Rattle.answer_text.proofs.Worlds.{no_picks, other_count}
use Rattle.answer_text.proofs.world.table_of.Goals as goal

pub returns-in_default : goal.returns-in_default
returns-in_default c = λ it right. (rw (c.in_default.is, c.as_slice.ensures) at c.in_ok-rows.ensures) it.rows right.rows

pub returns-then-len-section : goal.returns-then-len-section
returns-then-len-section c =
    other_count c.args.name.now c.args.table.now c.args.base.now c.args.section.now c.in-Some.rows (rw (c.in-Some.is, c.as_slice.ensures) at c.in_ok-rows.ensures)
    (λ same. c.if-len-section.true (c.len.ensures ∙ same))

pub returns-in_default-2 : goal.returns-in_default-2
returns-in_default-2 c =
    no_picks c.args.name.now c.args.table.now c.args.base.now c.args.section.now c.in-Some.rows (rw (c.in-Some.is, c.as_slice.ensures) at c.in_ok-rows.ensures)
    (rw c.in_default-2.is at c.in_ok-picks.ensures)

pub picks_of-requires-clause-rows : goal.picks_of-requires-clause-rows
picks_of-requires-clause-rows c =
    table-rows c.args.section.now.bytes c.args.table.now c.in-Some.rows (rw (c.in-Some.is, c.as_slice.ensures) at c.in_ok-rows.ensures)
