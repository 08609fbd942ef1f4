use Rattle.std.proofs.Common.{◌≡◌, ap, pos, length, arith, sym, ◌∙◌, below_more, to_z, to_z-of_z}
use Rattle.std.specs.Int.{w128}
use Rattle.std.specs.Prelude.{is_some}
use Rattle.dict_pivot.specs.Dictionaries.{number}
use Rattle.dict_pivot.specs.Steps.{new_at}
use Rattle.dict_pivot.proofs.RowLemmas.{number_is, zero_row, some_of, none_of, fits_before, first_in_row}
use Rattle.dict_pivot.proofs.cells.wide_in_row.Goals as goal

pub returns-then-num-eq0 : goal.returns-then-num-eq0
returns-then-num-eq0 c = λ j l.
    let z : (number c.args.row.now c.args.column).num ≡ pos 0 = ap (λ p. p.num) (sym (number_is c.args.row.now c.args.column _ c.requires.column c.index-row-column.is)) ∙ sym c.num.ensures.value ∙ sym (to_z-of_z {w = w128} (record { sfits = c.num.type_inv })) ∙ ap (λ n. to_z w128 n) c.if-num-eq0.true in
    some_of (new_at c.args.row.now c.args.column c.args.shares.now j) (number c.args.row.now j) (zero_row c.args.row.now c.args.shares.now c.args.column (length c.args.row.now) c.requires.column c.requires.narrow z j (omega (arith, l, c.requires.«end»)) (c.requires.narrow_shares j l))

pub changed-requires-clause-j : goal.changed-requires-clause-j
changed-requires-clause-j c = let w = c.requires.active.within c.loop-s.s c.loop-s-test.true in omega (arith, w, c.requires.«end»)

pub loop-s-preserved : goal.loop-s-preserved
loop-s-preserved c = below_more _ _ c.loop-s.invariant (sym (ap is_some c.changed.ensures) ∙ c.if-is_none.ensures)

pub returns-then-is_none : goal.returns-then-is_none
returns-then-is_none c =
    (c.requires.active.within c.loop-s.s c.loop-s-test.true, none_of c.changed.result _ c.if-is_none.ensures c.changed.ensures, first_in_row c.args.row.now c.args.shares.now c.args.active.now c.args.column (length c.args.row.now) c.args.«end» c.loop-s.s c.requires.column c.requires.«end» c.loop-s-test.true c.requires.active c.requires.narrow c.requires.narrow_shares c.loop-s.invariant)

pub returns : goal.returns
returns c = λ j l.
    fits_before c.args.row.now c.args.shares.now c.args.active.now c.args.column (length c.args.row.now) c.args.«end» c.loop-s.s c.requires.column c.requires.«end» c.requires.active c.requires.narrow c.requires.narrow_shares (λ t lt below. c.loop-s.invariant t lt) j l (λ t below e. omega (arith, below, c.loop-s-test.false))
