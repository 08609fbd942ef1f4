use Rattle.std.proofs.Common.{◌≡◌, ◌+◌, ◌-◌, ◌*◌, ◌<◌, length, take, set, refl, sym, ◌∙◌, subst, arith}
use Rattle.std.proofs.lemmas.List.{length-take}
use borrow.Rule.Slice.PartMut.{put_mid}
use Rattle.rat128.specs.Operations.{IsNarrow}
use Rattle.dict_pivot.specs.Dictionaries.{number, seen}
use Rattle.dict_pivot.specs.Steps.{AreActive, IsOwnRow}
use Rattle.dict_pivot.proofs.Lines.{line_ends, length-line, line_first}
use Rattle.dict_pivot.proofs.Asked.{first_row_answer, later_wide, shares_made, pivoted}
use Rattle.dict_pivot.proofs.pivot.pivot_parts.Goals as goal

pub make_shares-made-requires-clause-column : goal.make_shares-made-requires-clause-column
make_shares-made-requires-clause-column c = subst (λ n. c.args.column < n) (sym (length-line c.args.cells.now c.args.width c.args.row c.args.height c.requires.row.1 c.requires.dictionary.size)) c.requires.column.1

pub make_shares-made-requires-clause-narrow : goal.make_shares-made-requires-clause-narrow
make_shares-made-requires-clause-narrow c = c.requires.dictionary.narrow c.args.row c.args.column c.requires.row.1 c.requires.column.1

pub make_shares-made-requires-clause-nonzero : goal.make_shares-made-requires-clause-nonzero
make_shares-made-requires-clause-nonzero c = c.requires.cell

pub make_shares-made-requires-clause-room : goal.make_shares-made-requires-clause-room
make_shares-made-requires-clause-room c = c.requires.shares ∙ sym (length-line c.args.cells.now c.args.width c.args.row c.args.height c.requires.row.1 c.requires.dictionary.size)

pub make_shares-made-requires-clause-active_room : goal.make_shares-made-requires-clause-active_room
make_shares-made-requires-clause-active_room c = c.requires.active ∙ sym (length-line c.args.cells.now c.args.width c.args.row c.args.height c.requires.row.1 c.requires.dictionary.size)

pub slice_bounds-active-end : goal.slice_bounds-active-end
slice_bounds-active-end c = c.make_shares-made.ensures.count

pub slice_bounds-active-end-2 : goal.slice_bounds-active-end-2
slice_bounds-active-end-2 c = omega (arith, length-take c.make_shares-made.result.count c.make_shares-made.new.active, c.make_shares-made.ensures.count)

pub slice_bounds-wide_on_first_row-end : goal.slice_bounds-wide_on_first_row-end
slice_bounds-wide_on_first_row-end c =
    let k = line_ends 0 c.args.width c.args.height (omega (arith, c.requires.row.1)) in
    omega (arith, k, c.requires.dictionary.size)

pub slice_bounds-wide_on_first_row-end-then-made-width : goal.slice_bounds-wide_on_first_row-end-then-made-width
slice_bounds-wide_on_first_row-end-then-made-width c =
    let k = line_ends 0 c.args.width c.args.height (omega (arith, c.requires.row.1)) in
    omega (arith, k, c.requires.dictionary.size, length-take c.args.width c.args.cells.now)

pub wide_on_first_row-first-requires-clause-same : goal.wide_on_first_row-first-requires-clause-same
wide_on_first_row-first-requires-clause-same c =
    let k = line_ends 0 c.args.width c.args.height (omega (arith, c.requires.row.1)) in
    omega (arith, k, c.requires.dictionary.size, length-take c.args.width c.args.cells.now, c.make_shares-made.auto.shares, c.requires.shares)

pub wide_on_first_row-first-requires-clause-column : goal.wide_on_first_row-first-requires-clause-column
wide_on_first_row-first-requires-clause-column c =
    let k = line_ends 0 c.args.width c.args.height (omega (arith, c.requires.row.1)) in
    omega (arith, k, c.requires.dictionary.size, length-take c.args.width c.args.cells.now, c.requires.column.1)

pub wide_on_first_row-first-requires-clause-end : goal.wide_on_first_row-first-requires-clause-end
wide_on_first_row-first-requires-clause-end c =
    let k = line_ends 0 c.args.width c.args.height (omega (arith, c.requires.row.1)) in
    omega (arith, k, c.requires.dictionary.size, length-take c.args.width c.args.cells.now, c.if-made-width.true)

pub wide_on_first_row-first-requires-clause-active : goal.wide_on_first_row-first-requires-clause-active
wide_on_first_row-first-requires-clause-active c = c.make_shares-made.ensures.active

pub wide_on_first_row-first-requires-clause-narrow : goal.wide_on_first_row-first-requires-clause-narrow
wide_on_first_row-first-requires-clause-narrow c = λ j l.
    let k = line_ends 0 c.args.width c.args.height (omega (arith, c.requires.row.1)) in
    subst (λ xs. IsNarrow (number xs j)) (line_first c.args.cells.now c.args.width) (c.requires.dictionary.narrow 0 j (omega (arith, c.requires.row.1)) (omega (arith, l, k, c.requires.dictionary.size, length-take c.args.width c.args.cells.now)))

pub wide_on_first_row-first-requires-clause-narrow_shares : goal.wide_on_first_row-first-requires-clause-narrow_shares
wide_on_first_row-first-requires-clause-narrow_shares c = c.make_shares-made.ensures.shares.narrow

pub overflow_cast-result : goal.overflow_cast-result
overflow_cast-result c = omega (arith, c.wide_on_first_row-first.ensures.within, c.if-made-width.true, c.requires.dictionary.width_small)

pub returns-then-made-width-clause-wide : goal.returns-then-made-width-clause-wide
returns-then-made-width-clause-wide c = first_row_answer c.args.height c.args.width c.args.cells.now c.args.free.now c.args.low.now c.make_shares-made.new.shares c.least_at-least.result c.args.row c.args.column c.make_shares-made.result.«end» c.wide_on_first_row-first.result c.requires.dictionary c.requires.row.0 c.requires.row.1 c.if-made-width.true c.least_at-least.ensures.least c.make_shares-made.ensures.shares c.make_shares-made.ensures.wide c.wide_on_first_row-first.ensures.within c.wide_on_first_row-first.ensures.wide c.wide_on_first_row-first.ensures.before

pub wide_cell-requires-clause-size : goal.wide_cell-requires-clause-size
wide_cell-requires-clause-size c = c.requires.dictionary.size

pub wide_cell-requires-clause-same : goal.wide_cell-requires-clause-same
wide_cell-requires-clause-same c = c.make_shares-made.auto.shares ∙ c.requires.shares

pub wide_cell-requires-clause-column : goal.wide_cell-requires-clause-column
wide_cell-requires-clause-column c = c.requires.column.1

pub wide_cell-requires-clause-active : goal.wide_cell-requires-clause-active
wide_cell-requires-clause-active c =
    let whole : c.make_shares-made.result.«end» ≡ c.args.width = omega (arith, c.make_shares-made.ensures.«end», length-line c.args.cells.now c.args.width c.args.row c.args.height c.requires.row.1 c.requires.dictionary.size, c.if-made-width.false) in
    subst (λ n. AreActive (take c.make_shares-made.result.count c.make_shares-made.new.active) c.args.column n c.make_shares-made.new.shares) whole c.make_shares-made.ensures.active

pub wide_cell-requires-clause-narrow : goal.wide_cell-requires-clause-narrow
wide_cell-requires-clause-narrow c = c.requires.dictionary.narrow

pub wide_cell-requires-clause-narrow_shares : goal.wide_cell-requires-clause-narrow_shares
wide_cell-requires-clause-narrow_shares c = λ j l. c.make_shares-made.ensures.shares.narrow j (omega (arith, l, c.if-made-width.false))

pub returns-in-Some-clause-wide : goal.returns-in-Some-clause-wide
returns-in-Some-clause-wide c =
    let whole : c.make_shares-made.result.«end» ≡ c.args.width = omega (arith, c.make_shares-made.ensures.«end», length-line c.args.cells.now c.args.width c.args.row c.args.height c.requires.row.1 c.requires.dictionary.size, c.if-made-width.false) in
    let e = c.in-Some.ensures in
    later_wide (seen c.args.height c.args.width c.args.cells.now c.args.free.now c.args.low.now) c.args.row c.args.column c.make_shares-made.new.shares c.in-Some.wide.row c.in-Some.wide.column (shares_made c.args.cells.now c.args.low.now c.make_shares-made.new.shares c.least_at-least.result c.args.width c.args.row c.args.column c.make_shares-made.result.«end» whole c.least_at-least.ensures.least c.make_shares-made.ensures.shares) e.0 e.1 e.2 e.3 e.4 e.5

pub write_rows-requires-clause-size : goal.write_rows-requires-clause-size
write_rows-requires-clause-size c = c.requires.dictionary.size

pub write_rows-requires-clause-same : goal.write_rows-requires-clause-same
write_rows-requires-clause-same c = c.make_shares-made.auto.shares ∙ c.requires.shares

pub write_rows-requires-clause-row : goal.write_rows-requires-clause-row
write_rows-requires-clause-row c = c.requires.row.1

pub write_rows-requires-clause-column : goal.write_rows-requires-clause-column
write_rows-requires-clause-column c = c.requires.column.1

pub write_rows-requires-clause-active : goal.write_rows-requires-clause-active
write_rows-requires-clause-active c =
    let whole : c.make_shares-made.result.«end» ≡ c.args.width = omega (arith, c.make_shares-made.ensures.«end», length-line c.args.cells.now c.args.width c.args.row c.args.height c.requires.row.1 c.requires.dictionary.size, c.if-made-width.false) in
    subst (λ n. AreActive (take c.make_shares-made.result.count c.make_shares-made.new.active) c.args.column n c.make_shares-made.new.shares) whole c.make_shares-made.ensures.active

pub write_rows-requires-clause-narrow : goal.write_rows-requires-clause-narrow
write_rows-requires-clause-narrow c = c.requires.dictionary.narrow

pub write_rows-requires-clause-narrow_shares : goal.write_rows-requires-clause-narrow_shares
write_rows-requires-clause-narrow_shares c = λ j l. c.make_shares-made.ensures.shares.narrow j (omega (arith, l, c.if-made-width.false))

pub write_rows-requires-clause-fits : goal.write_rows-requires-clause-fits
write_rows-requires-clause-fits c = c.in_default.ensures

pub write_own_row-requires-clause-some : goal.write_own_row-requires-clause-some
write_own_row-requires-clause-some c = c.requires.column.0

pub write_own_row-requires-clause-column : goal.write_own_row-requires-clause-column
write_own_row-requires-clause-column c = subst (λ n. c.args.column < n) (sym (length-line c.write_rows.new.cells c.args.width c.args.row c.args.height c.requires.row.1 (c.write_rows.auto.cells ∙ c.requires.dictionary.size))) c.requires.column.1

pub overflow_cast-free : goal.overflow_cast-free
overflow_cast-free c = omega (arith, c.requires.row.1, c.requires.dictionary.height_small)

pub bounds-free-column : goal.bounds-free-column
bounds-free-column c = omega (arith, c.requires.column.1, c.requires.dictionary.free)

pub returns-clause-done : goal.returns-clause-done
returns-clause-done c =
    let whole : c.make_shares-made.result.«end» ≡ c.args.width = omega (arith, c.make_shares-made.ensures.«end», length-line c.args.cells.now c.args.width c.args.row c.args.height c.requires.row.1 c.requires.dictionary.size, c.if-made-width.false) in
    let size : length c.write_rows.new.cells ≡ c.args.height * c.args.width = c.write_rows.auto.cells ∙ c.requires.dictionary.size in
    pivoted c.args.height c.args.width c.args.cells.now c.write_rows.new.cells (put_mid (c.args.row * c.args.width) (c.args.row * c.args.width + c.args.width - c.args.row * c.args.width) c.write_rows.new.cells c.write_own_row.new.cells) c.write_own_row.new.cells c.args.free.now (set c.args.free.now c.args.column c.args.row) c.args.low.now c.make_shares-made.new.shares c.args.row c.args.column c.requires.dictionary c.requires.row.1 c.requires.column.0 c.requires.column.1 (shares_made c.args.cells.now c.args.low.now c.make_shares-made.new.shares c.least_at-least.result c.args.width c.args.row c.args.column c.make_shares-made.result.«end» whole c.least_at-least.ensures.least c.make_shares-made.ensures.shares) refl size (c.write_own_row.auto.cells ∙ length-line c.write_rows.new.cells c.args.width c.args.row c.args.height c.requires.row.1 size) c.write_rows.ensures.others (subst (λ l. IsOwnRow l c.args.column c.write_own_row.new.cells) c.least_at-least.ensures.least c.write_own_row.ensures) refl
