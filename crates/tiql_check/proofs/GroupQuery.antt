-- the grouped selects of a checked query list aggregates and columns of GROUP BY alone
use Rattle.std.proofs.Common.{◌≡◌, true, [], ◌∷◌, ◌++◌, subst, Result, Ok, Err, All, IfOk}
use Rattle.std.proofs.lemmas.List.Elements.{All-nil, All-push}
use Rattle.base_kit.proofs.Results.{same_Ok}
use Rattle.tiql_query.specs.declared.query.Query.{Query}
use Rattle.tiql_query.specs.declared.view.QView.{QView}
use Rattle.tiql_tree.specs.declared.tree.Decl.{Decl}
use Rattle.tiql_tree.specs.declared.tree.Decl.TheVariants as decls
use Rattle.tiql_tree.specs.declared.tree.Tree.{Tree}
use Rattle.tiql_tree.specs.declared.tree.TreeSelect.{TreeSelect}
use Rattle.tiql_tree.specs.declared.tree.TreeView.{TreeView}
use Rattle.tiql_check.specs.declared.fault.SoundFault.{SoundFault}
use Rattle.tiql_check.specs.declared.fault.SoundFault.TheVariants as fault
use Rattle.tiql_check.specs.declared.known.Known.{Known}
use Rattle.tiql_check.specs.declared.view.Arms.{Arms}
use Rattle.tiql_check.specs.Turns.{◌>>=◌, in_turn, ChecksTo}
use Rattle.tiql_check.specs.Known.{nothing, is_taken, with_table, with_hypo, with_view, with_require}
use Rattle.tiql_check.specs.Tables.{checked_table}
use Rattle.tiql_check.specs.Hypos.{checked_hypo}
use Rattle.tiql_check.specs.Selects.{checked_select}
use Rattle.tiql_check.specs.Views.{joined, is_first, no_arms, with_arm, checked_view}
use Rattle.tiql_check.specs.Sound.{checked_require, with_decl, checked_goal, checked, Sound}
use Rattle.tiql_check.specs.Grouped.{IsGroupedRightly, AreGrouped}
use Rattle.tiql_check.proofs.Inverse.{came_of, kept, through}
use Rattle.tiql_check.proofs.FitTables.{any_part}
use Rattle.tiql_check.proofs.GroupItems.{select_grouped}

arm_step : (known : Known) (before next : Arms) (select : TreeSelect) → true ≡ true → with_arm known before select ≡ Ok next → All IsGroupedRightly before.arms → All IsGroupedRightly next.arms
unfolding with_arm
arm_step known before next select any e fit =
    let arm = came_of (checked_select known (is_first before) select) (λ arm. joined (is_first before) before.columns select.place arm.columns >>= (λ columns. Ok (record { arms = before.arms ++ arm.select ∷ []; columns = columns }))) next e in
    let columns = came_of (joined (is_first before) before.columns select.place (arm.0).columns) (λ columns. Ok (record { arms = before.arms ++ (arm.0).select ∷ []; columns = columns })) next arm.2 in
    let made : Arms = record { arms = before.arms ++ (arm.0).select ∷ []; columns = columns.0 } in
    subst (λ (arms : Arms). All IsGroupedRightly arms.arms) {x = made} (same_Ok made next columns.2)
    (All-push IsGroupedRightly before.arms (arm.0).select fit (select_grouped known (is_first before) select arm.0 arm.1))

view_grouped : (known : Known) (tree : TreeView) (view : QView) → checked_view known tree ≡ Ok view → All IsGroupedRightly view.arms
unfolding checked_view
view_grouped known tree view e =
    let new = kept (is_taken known tree.name) (fault.SameName tree.name.place) (in_turn (with_arm known) no_arms tree.arms >>= (λ all. Ok (record { name = tree.name.name; columns = all.columns; arms = all.arms }))) view e in
    let arms = came_of (in_turn (with_arm known) no_arms tree.arms) (λ all. Ok (record { name = tree.name.name; columns = all.columns; arms = all.arms })) view new.1 in
    let made : QView = record { name = tree.name.name; columns = (arms.0).columns; arms = (arms.0).arms } in
    subst (λ (view : QView). All IsGroupedRightly view.arms) {x = made} (same_Ok made view arms.2)
    (through (with_arm known) (λ (arms : Arms). All IsGroupedRightly arms.arms) (λ select. true) (arm_step known) tree.arms no_arms arms.0 (any_part tree.arms) arms.1 (All-nil IsGroupedRightly))

abbrev IsGroupedKnown : Known → Type 0
IsGroupedKnown known = AreGrouped known.query

decl_step : (known next : Known) (decl : Decl) → true ≡ true → with_decl known decl ≡ Ok next → IsGroupedKnown known → IsGroupedKnown next
unfolding with_decl AreGrouped
decl_step known next (decls.Table tree) any e fit =
    let table = came_of (checked_table known tree) (λ table. Ok (with_table known table)) next e in
    subst IsGroupedKnown {x = with_table known table.0} (same_Ok (with_table known table.0) next table.2) fit
decl_step known next (decls.Hypo tree) any e fit =
    let hypo = came_of (checked_hypo known tree) (λ hypo. Ok (with_hypo known hypo)) next e in
    subst IsGroupedKnown {x = with_hypo known hypo.0} (same_Ok (with_hypo known hypo.0) next hypo.2) fit
decl_step known next (decls.View tree) any e fit =
    let view = came_of (checked_view known tree) (λ view. Ok (with_view known view)) next e in
    subst IsGroupedKnown {x = with_view known view.0} (same_Ok (with_view known view.0) next view.2)
    (All-push (λ (view : QView). All IsGroupedRightly view.arms) known.query.views view.0 fit (view_grouped known tree view.0 view.1))
decl_step known next (decls.Require tree) any e fit =
    let require = came_of (checked_require known tree) (λ require. Ok (with_require known require)) next e in
    subst IsGroupedKnown {x = with_require known require.0} (same_Ok (with_require known require.0) next require.2) fit

-- what a sound tree says
pub sound_grouped : (tree : Tree) (query : Query) → Sound tree query → AreGrouped query
unfolding Sound checked AreGrouped
sound_grouped tree query e =
    let known = came_of (in_turn with_decl nothing tree.decls) (λ known. checked_goal known tree.goal >>= (λ aim. Ok (record known.query { aim = aim }))) query e in
    let aim = came_of (checked_goal known.0 tree.goal) (λ aim. Ok (record (known.0).query { aim = aim })) query known.2 in
    let made : Query = record (known.0).query { aim = aim.0 } in
    subst AreGrouped {x = made} (same_Ok made query aim.2)
    (through with_decl IsGroupedKnown (λ decl. true) decl_step tree.decls nothing known.0 (any_part tree.decls) known.1 (All-nil (λ (view : QView). All IsGroupedRightly view.arms)))

-- the clause of the call that checks
pub checked_grouped : (tree : Tree) (r : Result Query SoundFault) → ChecksTo (checked tree) r → IfOk r (λ query. AreGrouped query)
unfolding Sound
checked_grouped tree (Ok query) gives = sound_grouped tree query gives
checked_grouped tree (Err e) gives = tt
