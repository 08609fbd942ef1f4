use Rattle.std.proofs.Common.{rules, ◌≡◌, ◌∙◌, ◌<◌, sym, ap, ap₂, subst, refl, ◌++◌, ◌∷◌, [], ℕ, neg_ℤ, to_z, of_z, FitsSigned, w64, Bool, List, All, arith}
use Rattle.std.specs.Prelude.{Result, Ok, Err}
use Rattle.std.proofs.Math.Facts.{to_z-of_z}
use Rattle.std.proofs.lemmas.List.Elements.{Contains-append_left, Contains-append_right}
use Rattle.std.proofs.lemmas.Result.{err_from_is_err_and}
use Rattle.ip_rows.specs.declared.Bounds.{Bounds}
use Rattle.prov_fold.specs.Graphs.{size}
use Rattle.world_points.specs.Points.{root}
use Rattle.root_encode.specs.Roots.{AreJoinedOn}
use Rattle.used_columns.specs.Columns.{laid}
use Rattle.used_columns.specs.Laid.{HasChoices, IsLaid}
use Rattle.used_columns.specs.Used.{AreUsed, mark_at}
use Rattle.program_rows.specs.declared.fault.ProgramFault.{ProgramFault}
use Rattle.program_rows.specs.declared.linear.LinearForm.{LinearForm}
use Rattle.program_rows.specs.declared.program.Encoded.{Encoded}
use Rattle.program_rows.specs.Fair.{told, told_all, IsFair}
use Rattle.program_rows.specs.Gathering.{GathersAll}
use Rattle.program_rows.specs.Goals.{node_forms, AreSeedsOf}
use Rattle.program_rows.specs.Programs.{ComesTo, IsProgramOf}
use Rattle.program_rows.proofs.Fairness.{fair_weight}
use Rattle.program_rows.proofs.Laying.{all_joined, form_joined, has_at, has_names, seeds_below}
use Rattle.program_rows.proofs.Made.{IsBegun, layout_err, program_made, rows_err, wanted_fair}
use Rattle.program_rows.proofs.Matching.{is_formed, is_matched}
use Rattle.program_rows.proofs.Measuring.{is_measured}
use Rattle.bool_encode.proofs.RowSizes.{row_heft}
use Rattle.program_rows.proofs.program.program_of.Goals as goal

pub used-requires : goal.used-requires
used-requires c =
    let g = c.args.fold.now in
    let sown : AreSeedsOf g (told_all c.in_ok-forms.forms ++ told c.in_ok-aim.aim ∷ []) c.in_ok-seeds.seeds = subst (λ (fs : List LinearForm). AreSeedsOf g (told_all fs ++ told c.in_ok-aim.aim ∷ []) c.in_ok-seeds.seeds) c.as_slice.ensures c.in_ok-seeds.ensures.sown in
    let begun : IsBegun g c.args.roots.now c.args.aim c.in_ok-forms.forms c.in_ok-aim.aim c.in_ok-seeds.seeds =
    record { forms_are = c.in_ok-forms.ensures.forms; forms_fair = c.in_ok-forms.ensures.fair; goal_is = c.in_ok-aim.ensures.form; goal_fair = c.in_ok-aim.ensures.fair; sown = sown } in
    subst (λ (s : List ℕ). All (λ z. z < size g) s) (sym c.as_slice-2.ensures) (seeds_below g c.known.ensures (told_all c.in_ok-forms.forms ++ told c.in_ok-aim.aim ∷ []) c.in_ok-seeds.seeds (wanted_fair g c.args.roots.now c.args.aim c.in_ok-forms.forms c.in_ok-aim.aim c.in_ok-seeds.seeds begun) sown)

pub returns-in_err-layout-clause-made : goal.returns-in_err-layout-clause-made
returns-in_err-layout-clause-made c =
    let g = c.args.fold.now in
    let sown : AreSeedsOf g (told_all c.in_ok-forms.forms ++ told c.in_ok-aim.aim ∷ []) c.in_ok-seeds.seeds = subst (λ (fs : List LinearForm). AreSeedsOf g (told_all fs ++ told c.in_ok-aim.aim ∷ []) c.in_ok-seeds.seeds) c.as_slice.ensures c.in_ok-seeds.ensures.sown in
    let begun : IsBegun g c.args.roots.now c.args.aim c.in_ok-forms.forms c.in_ok-aim.aim c.in_ok-seeds.seeds =
    record { forms_are = c.in_ok-forms.ensures.forms; forms_fair = c.in_ok-forms.ensures.fair; goal_is = c.in_ok-aim.ensures.form; goal_fair = c.in_ok-aim.ensures.fair; sown = sown } in
    let used : AreUsed g c.in_ok-seeds.seeds c.in_ok-marks.marks = subst (λ (s : List ℕ). AreUsed g s c.in_ok-marks.marks) c.as_slice-2.ensures c.in_ok-marks.ensures.used in
    let sides : c.as_slice-3.result.now ≡ root c.args.columns.now = c.as_slice-3.ensures ∙ c.in_ok-sides.ensures in
    let p = err_from_is_err_and c.from_residual-in_err-layout.result c.from_residual-in_err-layout.ensures.1 in
    subst (λ (r : Result Encoded ProgramFault). ComesTo c.args.columns.now g c.args.roots.now c.args.aim r) (sym (p.1 ∙ ap Err p.2))
    (layout_err g c.args.roots.now c.args.aim c.in_ok-forms.forms c.in_ok-aim.aim c.in_ok-seeds.seeds begun c.args.columns.now c.in_ok-marks.marks used c.in_err-layout.field-0.0 c.as_slice-3.result.now c.as_slice-4.result.now sides c.as_slice-4.ensures c.in_err-layout.ensures.laid)

pub all_rows-requires-clause-map : goal.all_rows-requires-clause-map
all_rows-requires-clause-map c =
    let g = c.args.fold.now in
    let sown : AreSeedsOf g (told_all c.in_ok-forms.forms ++ told c.in_ok-aim.aim ∷ []) c.in_ok-seeds.seeds = subst (λ (fs : List LinearForm). AreSeedsOf g (told_all fs ++ told c.in_ok-aim.aim ∷ []) c.in_ok-seeds.seeds) c.as_slice.ensures c.in_ok-seeds.ensures.sown in
    let begun : IsBegun g c.args.roots.now c.args.aim c.in_ok-forms.forms c.in_ok-aim.aim c.in_ok-seeds.seeds =
    record { forms_are = c.in_ok-forms.ensures.forms; forms_fair = c.in_ok-forms.ensures.fair; goal_is = c.in_ok-aim.ensures.form; goal_fair = c.in_ok-aim.ensures.fair; sown = sown } in
    let used : AreUsed g c.in_ok-seeds.seeds c.in_ok-marks.marks = subst (λ (s : List ℕ). AreUsed g s c.in_ok-marks.marks) c.as_slice-2.ensures c.in_ok-marks.ensures.used in
    let sides : c.as_slice-3.result.now ≡ root c.args.columns.now = c.as_slice-3.ensures ∙ c.in_ok-sides.ensures in
    let laid_is : laid g (root c.args.columns.now) c.in_ok-marks.marks ≡ Ok c.in_ok-layout.layout = ap₂ (λ (s : List Bounds) (m : List Bool). laid g s m) (sym sides) (sym c.as_slice-4.ensures) ∙ c.in_ok-layout.ensures.laid in
    let are : IsLaid g c.in_ok-seeds.seeds c.in_ok-layout.layout.map.stands c.in_ok-layout.layout.columns =
    c.in_ok-layout.ensures.fits c.in_ok-seeds.seeds (subst (λ (m : List Bool). AreUsed g c.in_ok-seeds.seeds m) (sym c.as_slice-4.ensures) used) (subst (HasChoices g) (sym sides) c.requires.choices) in
    are.map

pub all_rows-requires-clause-names : goal.all_rows-requires-clause-names
all_rows-requires-clause-names c =
    let g = c.args.fold.now in
    let sown : AreSeedsOf g (told_all c.in_ok-forms.forms ++ told c.in_ok-aim.aim ∷ []) c.in_ok-seeds.seeds = subst (λ (fs : List LinearForm). AreSeedsOf g (told_all fs ++ told c.in_ok-aim.aim ∷ []) c.in_ok-seeds.seeds) c.as_slice.ensures c.in_ok-seeds.ensures.sown in
    let begun : IsBegun g c.args.roots.now c.args.aim c.in_ok-forms.forms c.in_ok-aim.aim c.in_ok-seeds.seeds =
    record { forms_are = c.in_ok-forms.ensures.forms; forms_fair = c.in_ok-forms.ensures.fair; goal_is = c.in_ok-aim.ensures.form; goal_fair = c.in_ok-aim.ensures.fair; sown = sown } in
    let used : AreUsed g c.in_ok-seeds.seeds c.in_ok-marks.marks = subst (λ (s : List ℕ). AreUsed g s c.in_ok-marks.marks) c.as_slice-2.ensures c.in_ok-marks.ensures.used in
    let sides : c.as_slice-3.result.now ≡ root c.args.columns.now = c.as_slice-3.ensures ∙ c.in_ok-sides.ensures in
    let laid_is : laid g (root c.args.columns.now) c.in_ok-marks.marks ≡ Ok c.in_ok-layout.layout = ap₂ (λ (s : List Bounds) (m : List Bool). laid g s m) (sym sides) (sym c.as_slice-4.ensures) ∙ c.in_ok-layout.ensures.laid in
    let are : IsLaid g c.in_ok-seeds.seeds c.in_ok-layout.layout.map.stands c.in_ok-layout.layout.columns =
    c.in_ok-layout.ensures.fits c.in_ok-seeds.seeds (subst (λ (m : List Bool). AreUsed g c.in_ok-seeds.seeds m) (sym c.as_slice-4.ensures) used) (subst (HasChoices g) (sym sides) c.requires.choices) in
    λ z lt marked. has_names g c.known.ensures c.in_ok-seeds.seeds c.in_ok-layout.layout.map.stands c.in_ok-layout.layout.columns are c.in_ok-marks.marks used z lt (ap (λ (m : List Bool). mark_at m z) (sym c.as_slice-5.ensures) ∙ marked)

pub all_rows-requires-clause-joined : goal.all_rows-requires-clause-joined
all_rows-requires-clause-joined c =
    let g = c.args.fold.now in
    let sown : AreSeedsOf g (told_all c.in_ok-forms.forms ++ told c.in_ok-aim.aim ∷ []) c.in_ok-seeds.seeds = subst (λ (fs : List LinearForm). AreSeedsOf g (told_all fs ++ told c.in_ok-aim.aim ∷ []) c.in_ok-seeds.seeds) c.as_slice.ensures c.in_ok-seeds.ensures.sown in
    let begun : IsBegun g c.args.roots.now c.args.aim c.in_ok-forms.forms c.in_ok-aim.aim c.in_ok-seeds.seeds =
    record { forms_are = c.in_ok-forms.ensures.forms; forms_fair = c.in_ok-forms.ensures.fair; goal_is = c.in_ok-aim.ensures.form; goal_fair = c.in_ok-aim.ensures.fair; sown = sown } in
    let used : AreUsed g c.in_ok-seeds.seeds c.in_ok-marks.marks = subst (λ (s : List ℕ). AreUsed g s c.in_ok-marks.marks) c.as_slice-2.ensures c.in_ok-marks.ensures.used in
    let sides : c.as_slice-3.result.now ≡ root c.args.columns.now = c.as_slice-3.ensures ∙ c.in_ok-sides.ensures in
    let laid_is : laid g (root c.args.columns.now) c.in_ok-marks.marks ≡ Ok c.in_ok-layout.layout = ap₂ (λ (s : List Bounds) (m : List Bool). laid g s m) (sym sides) (sym c.as_slice-4.ensures) ∙ c.in_ok-layout.ensures.laid in
    let are : IsLaid g c.in_ok-seeds.seeds c.in_ok-layout.layout.map.stands c.in_ok-layout.layout.columns =
    c.in_ok-layout.ensures.fits c.in_ok-seeds.seeds (subst (λ (m : List Bool). AreUsed g c.in_ok-seeds.seeds m) (sym c.as_slice-4.ensures) used) (subst (HasChoices g) (sym sides) c.requires.choices) in
    let joined : AreJoinedOn g c.in_ok-layout.layout.map.stands (told_all c.in_ok-forms.forms) =
    all_joined g c.in_ok-layout.layout.map.stands (told_all c.in_ok-forms.forms) (λ k d lt. form_joined g c.known.ensures c.in_ok-seeds.seeds c.in_ok-layout.layout.map.stands c.in_ok-layout.layout.columns are (told_all c.in_ok-forms.forms ++ told c.in_ok-aim.aim ∷ []) (wanted_fair g c.args.roots.now c.args.aim c.in_ok-forms.forms c.in_ok-aim.aim c.in_ok-seeds.seeds begun) sown _
    (Contains-append_left (told_all c.in_ok-forms.forms) (told c.in_ok-aim.aim ∷ []) _ (has_at (told_all c.in_ok-forms.forms) k d lt))) in
    subst (λ (fs : List LinearForm). AreJoinedOn g c.in_ok-layout.layout.map.stands (told_all fs)) (sym c.as_slice-6.ensures) joined

pub returns-in_err-rows-clause-made : goal.returns-in_err-rows-clause-made
returns-in_err-rows-clause-made c =
    let g = c.args.fold.now in
    let sown : AreSeedsOf g (told_all c.in_ok-forms.forms ++ told c.in_ok-aim.aim ∷ []) c.in_ok-seeds.seeds = subst (λ (fs : List LinearForm). AreSeedsOf g (told_all fs ++ told c.in_ok-aim.aim ∷ []) c.in_ok-seeds.seeds) c.as_slice.ensures c.in_ok-seeds.ensures.sown in
    let begun : IsBegun g c.args.roots.now c.args.aim c.in_ok-forms.forms c.in_ok-aim.aim c.in_ok-seeds.seeds =
    record { forms_are = c.in_ok-forms.ensures.forms; forms_fair = c.in_ok-forms.ensures.fair; goal_is = c.in_ok-aim.ensures.form; goal_fair = c.in_ok-aim.ensures.fair; sown = sown } in
    let used : AreUsed g c.in_ok-seeds.seeds c.in_ok-marks.marks = subst (λ (s : List ℕ). AreUsed g s c.in_ok-marks.marks) c.as_slice-2.ensures c.in_ok-marks.ensures.used in
    let sides : c.as_slice-3.result.now ≡ root c.args.columns.now = c.as_slice-3.ensures ∙ c.in_ok-sides.ensures in
    let laid_is : laid g (root c.args.columns.now) c.in_ok-marks.marks ≡ Ok c.in_ok-layout.layout = ap₂ (λ (s : List Bounds) (m : List Bool). laid g s m) (sym sides) (sym c.as_slice-4.ensures) ∙ c.in_ok-layout.ensures.laid in
    let are : IsLaid g c.in_ok-seeds.seeds c.in_ok-layout.layout.map.stands c.in_ok-layout.layout.columns =
    c.in_ok-layout.ensures.fits c.in_ok-seeds.seeds (subst (λ (m : List Bool). AreUsed g c.in_ok-seeds.seeds m) (sym c.as_slice-4.ensures) used) (subst (HasChoices g) (sym sides) c.requires.choices) in
    let p = err_from_is_err_and c.from_residual-in_err-rows.result c.from_residual-in_err-rows.ensures.1 in
    subst (λ (r : Result Encoded ProgramFault). ComesTo c.args.columns.now g c.args.roots.now c.args.aim r) (sym (p.1 ∙ ap Err p.2))
    (rows_err g c.args.roots.now c.args.aim c.in_ok-forms.forms c.in_ok-aim.aim c.in_ok-seeds.seeds begun c.args.columns.now c.in_ok-marks.marks used c.in_err-rows.field-0.0 c.in_ok-layout.layout c.in_ok-cells.cells laid_is c.in_ok-cells.ensures.rows
    (subst (λ (fs : List LinearForm). GathersAll g c.in_ok-layout.layout.map.stands (node_forms g c.in_ok-marks.marks ++ told_all fs) c.in_ok-cells.cells (Err c.in_err-rows.field-0.0)) c.as_slice-6.ensures
    (subst (λ (m : List Bool). GathersAll g c.in_ok-layout.layout.map.stands (node_forms g m ++ told_all c.as_slice-6.result.now) c.in_ok-cells.cells (Err c.in_err-rows.field-0.0)) c.as_slice-5.ensures c.in_err-rows.ensures)))

pub row_of-requires-clause-map : goal.row_of-requires-clause-map
row_of-requires-clause-map c =
    let g = c.args.fold.now in
    let sown : AreSeedsOf g (told_all c.in_ok-forms.forms ++ told c.in_ok-aim.aim ∷ []) c.in_ok-seeds.seeds = subst (λ (fs : List LinearForm). AreSeedsOf g (told_all fs ++ told c.in_ok-aim.aim ∷ []) c.in_ok-seeds.seeds) c.as_slice.ensures c.in_ok-seeds.ensures.sown in
    let begun : IsBegun g c.args.roots.now c.args.aim c.in_ok-forms.forms c.in_ok-aim.aim c.in_ok-seeds.seeds =
    record { forms_are = c.in_ok-forms.ensures.forms; forms_fair = c.in_ok-forms.ensures.fair; goal_is = c.in_ok-aim.ensures.form; goal_fair = c.in_ok-aim.ensures.fair; sown = sown } in
    let used : AreUsed g c.in_ok-seeds.seeds c.in_ok-marks.marks = subst (λ (s : List ℕ). AreUsed g s c.in_ok-marks.marks) c.as_slice-2.ensures c.in_ok-marks.ensures.used in
    let sides : c.as_slice-3.result.now ≡ root c.args.columns.now = c.as_slice-3.ensures ∙ c.in_ok-sides.ensures in
    let laid_is : laid g (root c.args.columns.now) c.in_ok-marks.marks ≡ Ok c.in_ok-layout.layout = ap₂ (λ (s : List Bounds) (m : List Bool). laid g s m) (sym sides) (sym c.as_slice-4.ensures) ∙ c.in_ok-layout.ensures.laid in
    let are : IsLaid g c.in_ok-seeds.seeds c.in_ok-layout.layout.map.stands c.in_ok-layout.layout.columns =
    c.in_ok-layout.ensures.fits c.in_ok-seeds.seeds (subst (λ (m : List Bool). AreUsed g c.in_ok-seeds.seeds m) (sym c.as_slice-4.ensures) used) (subst (HasChoices g) (sym sides) c.requires.choices) in
    are.map

pub row_of-requires-clause-joined : goal.row_of-requires-clause-joined
row_of-requires-clause-joined c =
    let g = c.args.fold.now in
    let sown : AreSeedsOf g (told_all c.in_ok-forms.forms ++ told c.in_ok-aim.aim ∷ []) c.in_ok-seeds.seeds = subst (λ (fs : List LinearForm). AreSeedsOf g (told_all fs ++ told c.in_ok-aim.aim ∷ []) c.in_ok-seeds.seeds) c.as_slice.ensures c.in_ok-seeds.ensures.sown in
    let begun : IsBegun g c.args.roots.now c.args.aim c.in_ok-forms.forms c.in_ok-aim.aim c.in_ok-seeds.seeds =
    record { forms_are = c.in_ok-forms.ensures.forms; forms_fair = c.in_ok-forms.ensures.fair; goal_is = c.in_ok-aim.ensures.form; goal_fair = c.in_ok-aim.ensures.fair; sown = sown } in
    let used : AreUsed g c.in_ok-seeds.seeds c.in_ok-marks.marks = subst (λ (s : List ℕ). AreUsed g s c.in_ok-marks.marks) c.as_slice-2.ensures c.in_ok-marks.ensures.used in
    let sides : c.as_slice-3.result.now ≡ root c.args.columns.now = c.as_slice-3.ensures ∙ c.in_ok-sides.ensures in
    let laid_is : laid g (root c.args.columns.now) c.in_ok-marks.marks ≡ Ok c.in_ok-layout.layout = ap₂ (λ (s : List Bounds) (m : List Bool). laid g s m) (sym sides) (sym c.as_slice-4.ensures) ∙ c.in_ok-layout.ensures.laid in
    let are : IsLaid g c.in_ok-seeds.seeds c.in_ok-layout.layout.map.stands c.in_ok-layout.layout.columns =
    c.in_ok-layout.ensures.fits c.in_ok-seeds.seeds (subst (λ (m : List Bool). AreUsed g c.in_ok-seeds.seeds m) (sym c.as_slice-4.ensures) used) (subst (HasChoices g) (sym sides) c.requires.choices) in
    form_joined g c.known.ensures c.in_ok-seeds.seeds c.in_ok-layout.layout.map.stands c.in_ok-layout.layout.columns are (told_all c.in_ok-forms.forms ++ told c.in_ok-aim.aim ∷ []) (wanted_fair g c.args.roots.now c.args.aim c.in_ok-forms.forms c.in_ok-aim.aim c.in_ok-seeds.seeds begun) sown (told c.in_ok-aim.aim)
    (Contains-append_right (told_all c.in_ok-forms.forms) (told c.in_ok-aim.aim ∷ []) (told c.in_ok-aim.aim) (0, omega arith, refl))

pub constant_of-constant-requires : goal.constant_of-constant-requires
constant_of-constant-requires c =
    let heft = row_heft c.args.fold.now c.in_ok-layout.layout.map.stands (told c.in_ok-aim.aim) c.in_ok-aim_row.aim_row c.in_ok-aim_row.ensures.row in
    let light = fair_weight c.args.fold.now c.in_ok-layout.layout.map.stands (told c.in_ok-aim.aim) c.in_ok-aim.ensures.fair in
    omega (arith, heft, light)

pub returns-clause-made : goal.returns-clause-made
returns-clause-made c =
    let g = c.args.fold.now in
    let sown : AreSeedsOf g (told_all c.in_ok-forms.forms ++ told c.in_ok-aim.aim ∷ []) c.in_ok-seeds.seeds = subst (λ (fs : List LinearForm). AreSeedsOf g (told_all fs ++ told c.in_ok-aim.aim ∷ []) c.in_ok-seeds.seeds) c.as_slice.ensures c.in_ok-seeds.ensures.sown in
    let begun : IsBegun g c.args.roots.now c.args.aim c.in_ok-forms.forms c.in_ok-aim.aim c.in_ok-seeds.seeds =
    record { forms_are = c.in_ok-forms.ensures.forms; forms_fair = c.in_ok-forms.ensures.fair; goal_is = c.in_ok-aim.ensures.form; goal_fair = c.in_ok-aim.ensures.fair; sown = sown } in
    let used : AreUsed g c.in_ok-seeds.seeds c.in_ok-marks.marks = subst (λ (s : List ℕ). AreUsed g s c.in_ok-marks.marks) c.as_slice-2.ensures c.in_ok-marks.ensures.used in
    let sides : c.as_slice-3.result.now ≡ root c.args.columns.now = c.as_slice-3.ensures ∙ c.in_ok-sides.ensures in
    let laid_is : laid g (root c.args.columns.now) c.in_ok-marks.marks ≡ Ok c.in_ok-layout.layout = ap₂ (λ (s : List Bounds) (m : List Bool). laid g s m) (sym sides) (sym c.as_slice-4.ensures) ∙ c.in_ok-layout.ensures.laid in
    let are : IsLaid g c.in_ok-seeds.seeds c.in_ok-layout.layout.map.stands c.in_ok-layout.layout.columns =
    c.in_ok-layout.ensures.fits c.in_ok-seeds.seeds (subst (λ (m : List Bool). AreUsed g c.in_ok-seeds.seeds m) (sym c.as_slice-4.ensures) used) (subst (HasChoices g) (sym sides) c.requires.choices) in
    let stands = c.in_ok-layout.layout.map.stands in
    let gathered : GathersAll g stands (node_forms g c.in_ok-marks.marks ++ told_all c.in_ok-forms.forms) c.in_ok-cells.cells (Ok c.in_ok-rows.rows) =
    subst (λ (fs : List LinearForm). GathersAll g stands (node_forms g c.in_ok-marks.marks ++ told_all fs) c.in_ok-cells.cells (Ok c.in_ok-rows.rows)) c.as_slice-6.ensures
    (subst (λ (m : List Bool). GathersAll g stands (node_forms g m ++ told_all c.as_slice-6.result.now) c.in_ok-cells.cells (Ok c.in_ok-rows.rows)) c.as_slice-5.ensures c.in_ok-rows.ensures) in
    let fits : FitsSigned w64 c.constant_of-constant.result = search rules in
    let least : to_z w64 (of_z w64 c.constant_of-constant.result) ≡ neg_ℤ c.in_ok-aim_row.aim_row.least = to_z-of_z fits ∙ c.constant_of-constant.ensures in
    let made : IsProgramOf c.args.columns.now g c.args.roots.now c.args.aim (record { columns = c.in_ok-layout.layout.columns; rows = c.in_ok-rows.rows; aim = c.in_ok-aim_row.aim_row.terms; constant = to_z w64 (of_z w64 c.constant_of-constant.result) }) stands =
    program_made g c.args.roots.now c.args.aim c.in_ok-forms.forms c.in_ok-aim.aim c.in_ok-seeds.seeds begun c.args.columns.now c.in_ok-marks.marks used c.in_ok-layout.layout c.in_ok-cells.cells c.in_ok-rows.rows c.in_ok-aim_row.aim_row _ laid_is c.in_ok-cells.ensures.rows gathered.0 gathered.1
    c.in_ok-aim_row.ensures.row least in
    made

pub returns-clause-matched : goal.returns-clause-matched
returns-clause-matched c =
    let g = c.args.fold.now in
    let sown : AreSeedsOf g (told_all c.in_ok-forms.forms ++ told c.in_ok-aim.aim ∷ []) c.in_ok-seeds.seeds = subst (λ (fs : List LinearForm). AreSeedsOf g (told_all fs ++ told c.in_ok-aim.aim ∷ []) c.in_ok-seeds.seeds) c.as_slice.ensures c.in_ok-seeds.ensures.sown in
    let begun : IsBegun g c.args.roots.now c.args.aim c.in_ok-forms.forms c.in_ok-aim.aim c.in_ok-seeds.seeds =
    record { forms_are = c.in_ok-forms.ensures.forms; forms_fair = c.in_ok-forms.ensures.fair; goal_is = c.in_ok-aim.ensures.form; goal_fair = c.in_ok-aim.ensures.fair; sown = sown } in
    let used : AreUsed g c.in_ok-seeds.seeds c.in_ok-marks.marks = subst (λ (s : List ℕ). AreUsed g s c.in_ok-marks.marks) c.as_slice-2.ensures c.in_ok-marks.ensures.used in
    let sides : c.as_slice-3.result.now ≡ root c.args.columns.now = c.as_slice-3.ensures ∙ c.in_ok-sides.ensures in
    let laid_is : laid g (root c.args.columns.now) c.in_ok-marks.marks ≡ Ok c.in_ok-layout.layout = ap₂ (λ (s : List Bounds) (m : List Bool). laid g s m) (sym sides) (sym c.as_slice-4.ensures) ∙ c.in_ok-layout.ensures.laid in
    let are : IsLaid g c.in_ok-seeds.seeds c.in_ok-layout.layout.map.stands c.in_ok-layout.layout.columns =
    c.in_ok-layout.ensures.fits c.in_ok-seeds.seeds (subst (λ (m : List Bool). AreUsed g c.in_ok-seeds.seeds m) (sym c.as_slice-4.ensures) used) (subst (HasChoices g) (sym sides) c.requires.choices) in
    let stands = c.in_ok-layout.layout.map.stands in
    let gathered : GathersAll g stands (node_forms g c.in_ok-marks.marks ++ told_all c.in_ok-forms.forms) c.in_ok-cells.cells (Ok c.in_ok-rows.rows) =
    subst (λ (fs : List LinearForm). GathersAll g stands (node_forms g c.in_ok-marks.marks ++ told_all fs) c.in_ok-cells.cells (Ok c.in_ok-rows.rows)) c.as_slice-6.ensures
    (subst (λ (m : List Bool). GathersAll g stands (node_forms g m ++ told_all c.as_slice-6.result.now) c.in_ok-cells.cells (Ok c.in_ok-rows.rows)) c.as_slice-5.ensures c.in_ok-rows.ensures) in
    let fits : FitsSigned w64 c.constant_of-constant.result = search rules in
    let least : to_z w64 (of_z w64 c.constant_of-constant.result) ≡ neg_ℤ c.in_ok-aim_row.aim_row.least = to_z-of_z fits ∙ c.constant_of-constant.ensures in
    let made : IsProgramOf c.args.columns.now g c.args.roots.now c.args.aim (record { columns = c.in_ok-layout.layout.columns; rows = c.in_ok-rows.rows; aim = c.in_ok-aim_row.aim_row.terms; constant = to_z w64 (of_z w64 c.constant_of-constant.result) }) stands =
    program_made g c.args.roots.now c.args.aim c.in_ok-forms.forms c.in_ok-aim.aim c.in_ok-seeds.seeds begun c.args.columns.now c.in_ok-marks.marks used c.in_ok-layout.layout c.in_ok-cells.cells c.in_ok-rows.rows c.in_ok-aim_row.aim_row _ laid_is c.in_ok-cells.ensures.rows gathered.0 gathered.1
    c.in_ok-aim_row.ensures.row least in
    is_matched g c.known.ensures c.args.columns.now c.args.roots.now c.args.aim _ stands made c.in_ok-seeds.seeds are c.requires.led (subst (All (IsFair g)) begun.forms_are begun.forms_fair) (subst (IsFair g) begun.goal_is begun.goal_fair)

pub returns-clause-formed : goal.returns-clause-formed
returns-clause-formed c =
    let g = c.args.fold.now in
    let sown : AreSeedsOf g (told_all c.in_ok-forms.forms ++ told c.in_ok-aim.aim ∷ []) c.in_ok-seeds.seeds = subst (λ (fs : List LinearForm). AreSeedsOf g (told_all fs ++ told c.in_ok-aim.aim ∷ []) c.in_ok-seeds.seeds) c.as_slice.ensures c.in_ok-seeds.ensures.sown in
    let begun : IsBegun g c.args.roots.now c.args.aim c.in_ok-forms.forms c.in_ok-aim.aim c.in_ok-seeds.seeds =
    record { forms_are = c.in_ok-forms.ensures.forms; forms_fair = c.in_ok-forms.ensures.fair; goal_is = c.in_ok-aim.ensures.form; goal_fair = c.in_ok-aim.ensures.fair; sown = sown } in
    let used : AreUsed g c.in_ok-seeds.seeds c.in_ok-marks.marks = subst (λ (s : List ℕ). AreUsed g s c.in_ok-marks.marks) c.as_slice-2.ensures c.in_ok-marks.ensures.used in
    let sides : c.as_slice-3.result.now ≡ root c.args.columns.now = c.as_slice-3.ensures ∙ c.in_ok-sides.ensures in
    let laid_is : laid g (root c.args.columns.now) c.in_ok-marks.marks ≡ Ok c.in_ok-layout.layout = ap₂ (λ (s : List Bounds) (m : List Bool). laid g s m) (sym sides) (sym c.as_slice-4.ensures) ∙ c.in_ok-layout.ensures.laid in
    let are : IsLaid g c.in_ok-seeds.seeds c.in_ok-layout.layout.map.stands c.in_ok-layout.layout.columns =
    c.in_ok-layout.ensures.fits c.in_ok-seeds.seeds (subst (λ (m : List Bool). AreUsed g c.in_ok-seeds.seeds m) (sym c.as_slice-4.ensures) used) (subst (HasChoices g) (sym sides) c.requires.choices) in
    let stands = c.in_ok-layout.layout.map.stands in
    let gathered : GathersAll g stands (node_forms g c.in_ok-marks.marks ++ told_all c.in_ok-forms.forms) c.in_ok-cells.cells (Ok c.in_ok-rows.rows) =
    subst (λ (fs : List LinearForm). GathersAll g stands (node_forms g c.in_ok-marks.marks ++ told_all fs) c.in_ok-cells.cells (Ok c.in_ok-rows.rows)) c.as_slice-6.ensures
    (subst (λ (m : List Bool). GathersAll g stands (node_forms g m ++ told_all c.as_slice-6.result.now) c.in_ok-cells.cells (Ok c.in_ok-rows.rows)) c.as_slice-5.ensures c.in_ok-rows.ensures) in
    let fits : FitsSigned w64 c.constant_of-constant.result = search rules in
    let least : to_z w64 (of_z w64 c.constant_of-constant.result) ≡ neg_ℤ c.in_ok-aim_row.aim_row.least = to_z-of_z fits ∙ c.constant_of-constant.ensures in
    let made : IsProgramOf c.args.columns.now g c.args.roots.now c.args.aim (record { columns = c.in_ok-layout.layout.columns; rows = c.in_ok-rows.rows; aim = c.in_ok-aim_row.aim_row.terms; constant = to_z w64 (of_z w64 c.constant_of-constant.result) }) stands =
    program_made g c.args.roots.now c.args.aim c.in_ok-forms.forms c.in_ok-aim.aim c.in_ok-seeds.seeds begun c.args.columns.now c.in_ok-marks.marks used c.in_ok-layout.layout c.in_ok-cells.cells c.in_ok-rows.rows c.in_ok-aim_row.aim_row _ laid_is c.in_ok-cells.ensures.rows gathered.0 gathered.1
    c.in_ok-aim_row.ensures.row least in
    is_formed g c.known.ensures c.args.columns.now c.args.roots.now c.args.aim _ stands made c.in_ok-seeds.seeds are c.requires.led

pub returns-clause-measured : goal.returns-clause-measured
returns-clause-measured c =
    let g = c.args.fold.now in
    let sown : AreSeedsOf g (told_all c.in_ok-forms.forms ++ told c.in_ok-aim.aim ∷ []) c.in_ok-seeds.seeds = subst (λ (fs : List LinearForm). AreSeedsOf g (told_all fs ++ told c.in_ok-aim.aim ∷ []) c.in_ok-seeds.seeds) c.as_slice.ensures c.in_ok-seeds.ensures.sown in
    let begun : IsBegun g c.args.roots.now c.args.aim c.in_ok-forms.forms c.in_ok-aim.aim c.in_ok-seeds.seeds =
    record { forms_are = c.in_ok-forms.ensures.forms; forms_fair = c.in_ok-forms.ensures.fair; goal_is = c.in_ok-aim.ensures.form; goal_fair = c.in_ok-aim.ensures.fair; sown = sown } in
    let used : AreUsed g c.in_ok-seeds.seeds c.in_ok-marks.marks = subst (λ (s : List ℕ). AreUsed g s c.in_ok-marks.marks) c.as_slice-2.ensures c.in_ok-marks.ensures.used in
    let sides : c.as_slice-3.result.now ≡ root c.args.columns.now = c.as_slice-3.ensures ∙ c.in_ok-sides.ensures in
    let laid_is : laid g (root c.args.columns.now) c.in_ok-marks.marks ≡ Ok c.in_ok-layout.layout = ap₂ (λ (s : List Bounds) (m : List Bool). laid g s m) (sym sides) (sym c.as_slice-4.ensures) ∙ c.in_ok-layout.ensures.laid in
    let are : IsLaid g c.in_ok-seeds.seeds c.in_ok-layout.layout.map.stands c.in_ok-layout.layout.columns =
    c.in_ok-layout.ensures.fits c.in_ok-seeds.seeds (subst (λ (m : List Bool). AreUsed g c.in_ok-seeds.seeds m) (sym c.as_slice-4.ensures) used) (subst (HasChoices g) (sym sides) c.requires.choices) in
    let stands = c.in_ok-layout.layout.map.stands in
    let gathered : GathersAll g stands (node_forms g c.in_ok-marks.marks ++ told_all c.in_ok-forms.forms) c.in_ok-cells.cells (Ok c.in_ok-rows.rows) =
    subst (λ (fs : List LinearForm). GathersAll g stands (node_forms g c.in_ok-marks.marks ++ told_all fs) c.in_ok-cells.cells (Ok c.in_ok-rows.rows)) c.as_slice-6.ensures
    (subst (λ (m : List Bool). GathersAll g stands (node_forms g m ++ told_all c.as_slice-6.result.now) c.in_ok-cells.cells (Ok c.in_ok-rows.rows)) c.as_slice-5.ensures c.in_ok-rows.ensures) in
    let fits : FitsSigned w64 c.constant_of-constant.result = search rules in
    let least : to_z w64 (of_z w64 c.constant_of-constant.result) ≡ neg_ℤ c.in_ok-aim_row.aim_row.least = to_z-of_z fits ∙ c.constant_of-constant.ensures in
    let made : IsProgramOf c.args.columns.now g c.args.roots.now c.args.aim (record { columns = c.in_ok-layout.layout.columns; rows = c.in_ok-rows.rows; aim = c.in_ok-aim_row.aim_row.terms; constant = to_z w64 (of_z w64 c.constant_of-constant.result) }) stands =
    program_made g c.args.roots.now c.args.aim c.in_ok-forms.forms c.in_ok-aim.aim c.in_ok-seeds.seeds begun c.args.columns.now c.in_ok-marks.marks used c.in_ok-layout.layout c.in_ok-cells.cells c.in_ok-rows.rows c.in_ok-aim_row.aim_row _ laid_is c.in_ok-cells.ensures.rows gathered.0 gathered.1
    c.in_ok-aim_row.ensures.row least in
    is_measured g c.known.ensures c.args.columns.now c.args.roots.now c.args.aim _ stands made c.requires.ranged c.requires.led (subst (All (IsFair g)) begun.forms_are begun.forms_fair) (subst (IsFair g) begun.goal_is begun.goal_fair) c.in_ok-seeds.seeds are
