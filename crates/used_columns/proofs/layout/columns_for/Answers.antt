use Rattle.std.proofs.Common.{◌≡◌, ◌∙◌, sym, ap, subst, All, List, length, map, arith}
use Rattle.ip_rows.specs.declared.program.IpColumn.{IpColumn}
use Rattle.bool_encode.specs.declared.stand.Stand.{Stand}
use Rattle.used_columns.specs.Columns.{column_for, stands_for}
use Rattle.used_columns.specs.Laid.{IsLaid}
use Rattle.used_columns.specs.Places.{IsIn}
use Rattle.used_columns.proofs.CountLemmas.{laid_few, laid_many, worlds_few}
use Rattle.used_columns.proofs.UsedLaws.{all_in, laws}
use Rattle.used_columns.proofs.layout.columns_for.Goals as goal

pub returns-then-count-gt-MOST_COLUMNS-clause-laid :
    goal.returns-then-count-gt-MOST_COLUMNS-clause-laid
returns-then-count-gt-MOST_COLUMNS-clause-laid c = λ _. laid_many c.args.fold.now c.args.sides.now c.args.used.now c.in_ok-count.count c.in_ok-count.ensures c.if-count-gt-MOST_COLUMNS.true

pub overflow_cast-sides : goal.overflow_cast-sides
overflow_cast-sides c =
    let few = worlds_few c.args.fold.now _ c.args.used.now c.in_ok-count.count c.in_ok-count.ensures in
    let all = c.if-count-gt-MOST_COLUMNS.false in
    omega (arith, few, all)

pub columns-requires : goal.columns-requires
columns-requires c = subst (All (IsIn c.args.fold.now c.args.sides.now)) (sym (c.as_slice.ensures ∙ c.in_ok-stands.ensures)) (all_in c.args.fold.now c.args.used.now c.args.sides.now)

pub returns-clause-laid : goal.returns-clause-laid
returns-clause-laid c =
    laid_few c.args.fold.now c.args.sides.now c.args.used.now c.in_ok-count.count c.in_ok-stands.stands c.as_slice.result.now c.in_ok-columns.columns c.in_ok-count.ensures c.if-count-gt-MOST_COLUMNS.false c.in_ok-stands.ensures c.as_slice.ensures c.in_ok-columns.ensures

pub returns-clause-fits : goal.returns-clause-fits
returns-clause-fits c = λ seeds are has.
    let g = c.args.fold.now in
    let all = stands_for g (length c.args.sides.now) c.args.used.now in
    let is : c.in_ok-stands.stands ≡ all = c.in_ok-stands.ensures in
    let made : c.in_ok-columns.columns ≡ map (column_for g c.args.sides.now) all = c.in_ok-columns.ensures ∙ ap (map (column_for g c.args.sides.now)) (c.as_slice.ensures ∙ is) in
    let few = c.if-count-gt-MOST_COLUMNS.false in
    let count : c.in_ok-count.count ≡ length all = c.in_ok-count.ensures in
    subst (λ (cols : List IpColumn). IsLaid g seeds c.in_ok-stands.stands cols) (sym made)
    (subst (λ (ss : List Stand). IsLaid g seeds ss (map (column_for g c.args.sides.now) all)) (sym is) (laws g seeds c.args.used.now c.args.sides.now c.known.ensures are has (omega (arith, few, count))))
