use Rattle.std.proofs.Common.{sym}
use Rattle.std.proofs.lemmas.Result.{IfOk-weaker}
use Rattle.answer_text.proofs.Worlds.{base_rows, no_rows, section_found}
use Rattle.answer_text.proofs.world.section_of.Goals as goal

pub returns-in_default-get : goal.returns-in_default-get
returns-in_default-get c = no_rows c.args.query.now c.args.tables.now c.requires c.args.hypo.now c.args.section.now (sym (rw c.in_default-get.is at c.get-2.ensures.value))

pub table_of-requires : goal.table_of-requires
table_of-requires c =
    base_rows c.args.query.now c.args.tables.now c.requires c.args.hypo.now c.args.section.now c.in-Some.table.now c.in-Some-get.base.now
    (sym c.in-Some.ensures.value) (sym c.in-Some-get.ensures.value)

pub returns : goal.returns
returns c =
    IfOk-weaker c.table_of.result _ _
    (λ found is. section_found c.args.query.now c.args.tables.now c.requires c.args.hypo.now c.args.section.now c.in-Some.table.now c.in-Some-get.base.now
    (sym c.in-Some.ensures.value) (sym c.in-Some-get.ensures.value) found is)
    c.table_of.ensures
