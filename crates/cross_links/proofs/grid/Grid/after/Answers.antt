use Rattle.cross_links.proofs.WalkLemmas.{after_row, after_column}
use Rattle.cross_links.proofs.grid.Grid.after.Goals as goal

pub returns-in-Row-clause-on : goal.returns-in-Row-clause-on
returns-in-Row-clause-on c =
    let step = after_row _ c.args.self.now c.args.line c.in-Row.field-0 c.self.inside.starts.items c.self.inside.right.items c.self.inside.left.items c.args.place _ c.self.view_is c.in-Row.is
    c.self.invariant.fitting c.self.invariant.begins c.self.invariant.stacked.rows_once c.self.invariant.across c.index.ensures c.requires in
    step.0

pub returns-in-Row-clause-rest : goal.returns-in-Row-clause-rest
returns-in-Row-clause-rest c =
    let step = after_row _ c.args.self.now c.args.line c.in-Row.field-0 c.self.inside.starts.items c.self.inside.right.items c.self.inside.left.items c.args.place _ c.self.view_is c.in-Row.is
    c.self.invariant.fitting c.self.invariant.begins c.self.invariant.stacked.rows_once c.self.invariant.across c.index.ensures c.requires in
    step.1

pub returns-in-Column-clause-on : goal.returns-in-Column-clause-on
returns-in-Column-clause-on c =
    let step = after_column _ c.args.self.now c.args.line c.in-Column.field-0 c.self.inside.starts.items c.self.inside.down.items c.self.inside.up.items c.args.place _ c.self.view_is c.in-Column.is
    c.self.invariant.fitting c.self.invariant.begins c.self.invariant.stacked.rows_once c.self.invariant.along c.index-in-Column.ensures c.requires in
    step.0

pub returns-in-Column-clause-rest : goal.returns-in-Column-clause-rest
returns-in-Column-clause-rest c =
    let step = after_column _ c.args.self.now c.args.line c.in-Column.field-0 c.self.inside.starts.items c.self.inside.down.items c.self.inside.up.items c.args.place _ c.self.view_is c.in-Column.is
    c.self.invariant.fitting c.self.invariant.begins c.self.invariant.stacked.rows_once c.self.invariant.along c.index-in-Column.ensures c.requires in
    step.1
