use Rattle.std.proofs.Common.{rules, ◌-◌, sym, ◌∙◌, ap, pos, get_or, FitsSigned, to_z, of_z}
use Rattle.std.specs.Int.{w64}
use Rattle.std.proofs.lemmas.Int.{to_z-of_z}
use Rattle.dict_pivot.specs.Dictionaries.{least_number}
use Rattle.dict_pivot.proofs.RowLemmas.{least_past, least_there}
use Rattle.dict_pivot.proofs.pivot.lower_side.Goals as goal

pub returns-then-row-eq0 : goal.returns-then-row-eq0
returns-then-row-eq0 c = c.from.ensures ∙ ap (least_number c.args.low.now) (sym c.if-row-eq0.true)

pub returns-then-row-low : goal.returns-then-row-low
returns-then-row-low c = c.from-then-row-low.ensures ∙ sym (least_past c.args.low.now c.args.row c.if-row-low.true)

pub returns : goal.returns
returns c =
    let fits : FitsSigned w64 (get_or c.args.low.now (c.args.row - 1) (pos 0)) = search rules in
    c.from-2.ensures ∙ least_there c.args.low.now c.args.row (to_z w64 (of_z w64 (get_or c.args.low.now (c.args.row - 1) (pos 0)))) c.if-row-eq0.false (to_z-of_z w64 (get_or c.args.low.now (c.args.row - 1) (pos 0)) fits)
