use Rattle.std.proofs.Common.{All, arith, rules, refl}
use Rattle.prov_fold.specs.Graphs.{HasTruth}
use Rattle.sym_rows.proofs.Makes.{truth_kept}
use Rattle.prov_fold.specs.Meanings.{values_in}
use Rattle.sym_rows.proofs.Each.{going_init, going_step, going_err, going_end}
use Rattle.sym_goals.specs.Goals.{part_of, parts_of}
use Rattle.sym_goals.specs.Parts.{IsPartOf, ArePartsOf}
use Rattle.sym_goals.proofs.Turns.{row_at}
use Rattle.sym_goals.proofs.Requirements.{PartsSo, parts_step, parts_end}
use Rattle.sym_goals.proofs.roots.parts_of.Goals as goal

pub loop-row-init : goal.loop-row-init
loop-row-init c = going_init (λ place row. part_of c.args.columns.now c.args.need.now row) c.args.rows.now HasTruth (PartsSo c.args.columns.now c.args.need.now c.args.rows.now) c.args.fold.now c.new-made.result c.new-made.ensures (λ h world later fit fits. refl)

pub part_of-requires : goal.part_of-requires
part_of-requires c = row_at c.args.fold.now c.loop-row.fold c.args.rows.now c.loop-row.row-index c.row-item.result c.loop-row.invariant.kept c.requires (omega arith) c.row-item.is

pub loop-row-preserved : goal.loop-row-preserved
loop-row-preserved c =
    going_step (λ place row. part_of c.args.columns.now c.args.need.now row) c.args.rows.now HasTruth (PartsSo c.args.columns.now c.args.need.now c.args.rows.now) c.args.fold.now c.loop-row.row-index c.row-item.result c.in_ok-part_of.field-0 c.loop-row.made c.push.new.self c.loop-row.fold c.part_of.new.fold
    (IsPartOf c.args.columns.now c.args.need.now c.row-item.result) (omega arith) c.row-item.is c.in_ok-push.ensures.ok
    (λ id kept is. truth_kept c.loop-row.fold c.part_of.new.fold id kept is)
    (λ h world later so one. parts_step c.args.columns.now c.args.need.now c.args.rows.now c.loop-row.row-index c.row-item.result c.loop-row.made c.in_ok-part_of.field-0 world (values_in h world) (omega arith) c.row-item.is so one)
    c.in_ok-part_of.ensures c.loop-row.invariant

pub returns-in_err-part_of : goal.returns-in_err-part_of
unfolding parts_of
returns-in_err-part_of c =
    search (
      rules,
      going_err (λ place row. part_of c.args.columns.now c.args.need.now row) c.args.rows.now HasTruth (PartsSo c.args.columns.now c.args.need.now c.args.rows.now) c.args.fold.now c.loop-row.row-index c.row-item.result c.loop-row.made c.loop-row.fold c.part_of.new.fold
          (IsPartOf c.args.columns.now c.args.need.now c.row-item.result) (λ g made. All (HasTruth g) made) (ArePartsOf c.args.columns.now c.args.need.now c.args.rows.now) c.in_err-part_of.field-0.0 (omega arith) c.row-item.is c.in_err-part_of.ensures c.loop-row.invariant,
    )

pub returns : goal.returns
unfolding parts_of
returns c =
    going_end (λ place row. part_of c.args.columns.now c.args.need.now row) c.args.rows.now HasTruth (PartsSo c.args.columns.now c.args.need.now c.args.rows.now) c.args.fold.now c.loop-row.row-index c.loop-row.made c.loop-row.fold (ArePartsOf c.args.columns.now c.args.need.now c.args.rows.now) (omega arith)
    (λ h world later so. parts_end c.args.columns.now c.args.need.now c.args.rows.now c.loop-row.row-index c.loop-row.made world (values_in h world) (omega arith) so) c.loop-row.invariant
