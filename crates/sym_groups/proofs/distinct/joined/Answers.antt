use Rattle.std.proofs.Common.{map, rules, refl}
use Rattle.sym_rows.specs.Cells.{cell_in}
use Rattle.sym_rows.specs.Walks.{gives}
use Rattle.sym_groups.specs.Groups.{joined, presence_of, first_cells}
use Rattle.sym_groups.specs.Meanings.{some_there}
use Rattle.sym_groups.proofs.Listed.{row_none, row_some, row_stop, firsts_made}
use Rattle.sym_groups.proofs.distinct.joined.Goals as goal

pub returns-then-presence-eq-FALSE : goal.returns-then-presence-eq-FALSE
unfolding joined
returns-then-presence-eq-FALSE c =
    let group = map (λ row. row.now) c.args.group.now in
    row_none (some_there group) (λ v. map (cell_in v) (first_cells group)) (presence_of group) (gives (first_cells group)) (joined group) c.args.fold.now c.presence_of.new.fold refl c.in_ok-presence.presence c.if-presence-eq-FALSE.true c.in_ok-presence.ensures

pub returns-in_err-presence : goal.returns-in_err-presence
unfolding joined
returns-in_err-presence c =
    let group = map (λ row. row.now) c.args.group.now in
    search (rules, row_stop (some_there group) (λ v. map (cell_in v) (first_cells group)) (presence_of group) (gives (first_cells group)) (joined group) c.args.fold.now c.presence_of.new.fold refl c.in_err-presence.field-0.0 c.in_err-presence.ensures)

pub returns : goal.returns
unfolding joined
returns c =
    let group = map (λ row. row.now) c.args.group.now in
    row_some (some_there group) (λ v. map (cell_in v) (first_cells group)) (presence_of group) (gives (first_cells group)) (joined group) c.args.fold.now c.presence_of.new.fold refl c.in_ok-presence.presence c.in_ok-cells.cells c.presence_of.new.fold c.if-presence-eq-FALSE.false c.in_ok-presence.ensures
    (firsts_made group c.in_ok-cells.cells c.args.fold.now c.presence_of.new.fold c.in_ok-cells.ensures c.requires c.in_ok-presence.ensures.kept)
