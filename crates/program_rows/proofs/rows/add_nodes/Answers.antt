use Rattle.std.proofs.Common.{◌<◌, ◌≤◌, ◌∙◌, ap, sym, subst, ℕ, ◌+◌, length}
use Rattle.std.specs.Prelude.{Result, Err}
use Rattle.std.proofs.lemmas.Result.{err_from_is_err_and}
use Rattle.prov_fold.specs.Graphs.{size}
use Rattle.used_columns.proofs.RangeLemmas.{from}
use Rattle.program_rows.specs.declared.fault.ProgramFault.{ProgramFault}
use Rattle.program_rows.specs.Gathering.{Gathers}
use Rattle.program_rows.specs.Goals.{marked_forms, node_forms}
use Rattle.program_rows.proofs.Turns.{way_begin, way_more, way_err, way_end, from_begin, from_more, from_end}
use Rattle.program_rows.proofs.rows.add_nodes.Goals as goal

pub loop-id-init : goal.loop-id-init
loop-id-init c = way_begin c.args.fold.now c.args.map.now.stands _ _ c.args.rows.now c.args.total (from_begin (marked_forms c.args.fold.now c.args.used.now) (size c.args.fold.now)) c.requires.counted c.requires.small

pub returns-in_err-total : goal.returns-in_err-total
returns-in_err-total c =
    let g = c.args.fold.now in
    let f = marked_forms c.args.fold.now c.args.used.now in
    let there : c.loop-id.id < size g = subst (λ (n : ℕ). c.loop-id.id < n) (c.len-id-end.ensures.len ∙ ap length c.prov.ensures) c.loop-id-test.true in
    let p = err_from_is_err_and c.from_residual.result c.from_residual.ensures.1 in
    subst (λ (r : Result ℕ ProgramFault). Gathers g c.args.map.now.stands (node_forms g c.args.used.now) c.args.rows.now c.add_marked.new.rows r) (sym (p.1 ∙ ap Err p.2))
    (way_err g c.args.map.now.stands (f c.loop-id.id) (from f (size g) (c.loop-id.id + 1)) (from f (size g) c.loop-id.id) (node_forms g c.args.used.now) c.args.rows.now c.loop-id.rows c.add_marked.new.rows c.add_marked.new.rows c.loop-id.total c.in_err-total.field-0.0
    (from_more f (size g) c.loop-id.id there) c.loop-id.invariant c.in_err-total.ensures)

pub loop-id-preserved : goal.loop-id-preserved
loop-id-preserved c =
    let g = c.args.fold.now in
    let f = marked_forms c.args.fold.now c.args.used.now in
    let there : c.loop-id.id < size g = subst (λ (n : ℕ). c.loop-id.id < n) (c.len-id-end.ensures.len ∙ ap length c.prov.ensures) c.loop-id-test.true in
    way_more g c.args.map.now.stands (f c.loop-id.id) (from f (size g) (c.loop-id.id + 1)) (from f (size g) c.loop-id.id) (node_forms g c.args.used.now) c.args.rows.now c.loop-id.rows c.add_marked.new.rows c.loop-id.total c.in_ok-total.total
    (from_more f (size g) c.loop-id.id there) c.loop-id.invariant c.in_ok-total.ensures

pub returns : goal.returns
returns c =
    let g = c.args.fold.now in
    let f = marked_forms c.args.fold.now c.args.used.now in
    let past : size g ≤ c.loop-id.id = subst (λ (n : ℕ). n ≤ c.loop-id.id) (c.len-id-end.ensures.len ∙ ap length c.prov.ensures) c.loop-id-test.false in
    way_end g c.args.map.now.stands (from f (size g) c.loop-id.id) (node_forms g c.args.used.now) c.args.rows.now c.loop-id.rows c.loop-id.total (from_end f (size g) c.loop-id.id past) c.loop-id.invariant
