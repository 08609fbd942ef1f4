use Rattle.std.proofs.Common.{◌≡◌, ◌<◌, length, sym, ◌∙◌, ap, subst}
use Rattle.dict_pivot.specs.Dictionaries.{number, line}
use Rattle.dict_pivot.proofs.RowLemmas.{number_is}
use Rattle.dict_pivot.proofs.Lines.{length-line}
use Rattle.dict_pivot.proofs.dict.Dict.cell.Goals as goal

pub returns-clause-cell : goal.returns-clause-cell
returns-clause-cell c =
    let d = c.args.self.now in
    let long : length (line d.cells d.width c.args.row) ≡ d.width = length-line d.cells d.width c.args.row d.height c.requires.row c.row.ensures.dictionary.size in
    number_is c.row.result.now c.args.column c.index-row-column.result (subst (λ xs. c.args.column < length xs) (sym c.row.ensures.row) (subst (λ n. c.args.column < n) (sym long) c.requires.column)) c.index-row-column.is ∙ ap (λ xs. number xs c.args.column) c.row.ensures.row
