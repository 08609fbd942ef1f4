use Rattle.std.proofs.Common.{◌≡◌, drop, map}
use Rattle.view_select.specs.Asking.{over}
use Rattle.world_def.specs.Views.{select_more, view_asked}
use Rattle.world_def.specs.Making.{rows_there}
use Rattle.world_def.proofs.views.rows_of_view.Given as goal

abbrev pub invariant-loop-select : goal.invariant-loop-select
invariant-loop-select l =
    over (select_more l.query l.tables l.world (map rows_there l.views.made.items) l.number) (drop l.select-index l.select-items) l.rows
    ≡ view_asked l.query l.tables l.world (map rows_there l.views.made.items) l.number l.view
