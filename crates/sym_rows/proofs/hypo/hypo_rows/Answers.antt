use Rattle.std.proofs.Common.{◌≡◌, ◌≤◌, ◌∙◌, ℕ, get_or, ap, sym, subst, take, drop, length, List, Some}
use Rattle.std.specs.Prelude.{slice_get}
use Rattle.std.proofs.lemmas.Option.{slice_get-get_or}
use Rattle.tiql_query.specs.declared.relation.QHypo.{QHypo}
use Rattle.tiql_query.specs.declared.world_column.WorldColumn.{WorldColumn}
use Rattle.world_def.specs.Worlds.{leading, of_hypo}
use Rattle.sym_rows.specs.Hypos.{start_of}
use Rattle.sym_rows.proofs.PossibleTables.{hypo_told}
use Rattle.sym_rows.proofs.FewColumns.{columns_few, part_few, part_sides}
use Rattle.sym_rows.proofs.hypo.hypo_rows.Goals as goal

pub rows_from-requires-clause-numbers : goal.rows_from-requires-clause-numbers
rows_from-requires-clause-numbers c =
    part_few c.args.columns.now c.behind-rest.result.now c.head-mine.result.now c.start_of-start.result c.leading_hypo.result (columns_few c.args.query.now c.args.tables.now c.args.columns.now c.requires.columns)
    (c.behind-rest.ensures ∙ ap (drop c.start_of-start.result) c.as_slice-3.ensures) c.head-mine.ensures (subst (λ (l : List WorldColumn). c.start_of-start.result ≤ length l) c.as_slice-2.ensures c.start_of-start.ensures.room)

pub rows_from-requires-clause-sides : goal.rows_from-requires-clause-sides
rows_from-requires-clause-sides c =
    part_sides c.args.columns.now c.behind-rest.result.now c.head-mine.result.now c.start_of-start.result c.leading_hypo.result (columns_few c.args.query.now c.args.tables.now c.args.columns.now c.requires.columns)
    (c.behind-rest.ensures ∙ ap (drop c.start_of-start.result) c.as_slice-3.ensures) c.head-mine.ensures

pub returns : goal.returns
returns c =
    let start = c.start_of-start.ensures.value ∙ ap (start_of c.args.hypo) c.as_slice-2.ensures in
    let rest = c.behind-rest.ensures ∙ ap (drop c.start_of-start.result) c.as_slice-3.ensures ∙ ap (λ (n : ℕ). drop n c.args.columns.now) start in
    let there : slice_get c.args.query.now.hypos c.args.hypo ≡ Some c.index-as_slice-hypo.result =
    slice_get-get_or c.args.query.now.hypos c.args.hypo c.index-as_slice-hypo.result c.requires.there
    ∙ ap (λ (t : QHypo). Some t) (sym (subst (λ (l : List QHypo). c.index-as_slice-hypo.result ≡ get_or l c.args.hypo c.index-as_slice-hypo.result) c.as_slice.ensures c.index-as_slice-hypo.is)) in
    record {
      rows = hypo_told c.args.query.now c.args.tables.now c.args.columns.now c.args.hypo c.index-as_slice-hypo.result c.as_slice-4.result.now c.start_of-start.result c.rows_of-bases.result.now c.head-mine.result.now c.args.fold.now c.rows_from.new.fold c.rows_from.result
          c.as_slice-4.ensures start c.rows_of-bases.ensures.value
          (c.head-mine.ensures ∙ ap (λ (n : ℕ). take n c.behind-rest.result.now) c.leading_hypo.ensures.value ∙ ap (λ (l : List WorldColumn). take (leading (of_hypo c.args.hypo) l) l) rest)
          there c.requires.fit c.requires.tables c.requires.columns c.rows_from.ensures;
    }
