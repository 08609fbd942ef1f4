-- checked views fit
use Rattle.std.proofs.Common.{◌≡◌, ℕ, zero, suc, ◌+◌, ◌==◌, Bool, true, false, ◌||◌, not, List, [], ◌∷◌, ◌++◌, length, map, refl, sym, ◌∙◌, ap, subst, append_assoc, arith, if◌then◌else◌}
use Rattle.std.specs.Prelude.{Option, Some, None, unwrap_or, slice_get, option_map, Ok, Err, All}
use Rattle.std.specs.List.{list_all, list_any}
use Rattle.std.proofs.lemmas.Bool.{false≢true}
use Rattle.std.proofs.lemmas.Bool.Decides.{nat_tests}
use Rattle.std.proofs.lemmas.List.{append-nil, length-append}
use Rattle.std.proofs.lemmas.List.Folds.{list_any-append}
use Rattle.std.proofs.lemmas.List.Elements.{All-nil, All-push, All-weaker}
use Rattle.std.proofs.lemmas.Option.{slice_get-map}
use Rattle.tiql_query.specs.declared.relation.Column.{Column}
use Rattle.tiql_query.specs.declared.view.Select.{Select}
use Rattle.tiql_query.specs.declared.view.QView.{QView}
use Rattle.tiql_query.specs.declared.query.Query.{Query}
use Rattle.tiql_query.specs.Kinds as query
use Rattle.tiql_query.specs.Kinds.{is_unknown}
use Rattle.tiql_query.specs.WellFormed.{item_kinds, IsSelectFit, IsViewFit}
use Rattle.tiql_tree.specs.declared.tree.TreeSelect.{TreeSelect}
use Rattle.tiql_tree.specs.declared.tree.TreeView.{TreeView}
use Rattle.tiql_check.specs.declared.fault.SoundFault.TheVariants as fault
use Rattle.tiql_check.specs.declared.known.Known.{Known}
use Rattle.tiql_check.specs.declared.item.ItemColumn.{ItemColumn}
use Rattle.tiql_check.specs.declared.select.Arm.{Arm}
use Rattle.tiql_check.specs.declared.view.Arms.{Arms}
use Rattle.tiql_check.specs.Turns.{◌>>=◌, in_turn}
use Rattle.tiql_check.specs.Conditions.{differ}
use Rattle.tiql_check.specs.Known.{is_taken}
use Rattle.tiql_check.specs.Selects.{is_written, checked_select}
use Rattle.tiql_check.specs.Views.{first_column, joined_column, with_joined, joined, is_first, no_arms, with_arm, checked_view}
use Rattle.tiql_check.specs.Small.{small_select}
use Rattle.tiql_check.proofs.Inverse.{came_of, kept, through}
use Rattle.tiql_check.proofs.Fit.{at_front}
use Rattle.tiql_check.proofs.FitSelects.{AreThere, told, ArmFit, select_fit}
use Rattle.base_kit.proofs.Results.{same_Ok}

abbrev type_of : Column → Bool
type_of column = column.text

abbrev told_type : ItemColumn → Bool
told_type it = it.kind.text

kinds_told : (cs : List ItemColumn) → map (option_map (λ (it : query.Kind). it.text)) (map told cs) ≡ map (λ b. Some b) (map told_type cs)
kinds_told [] = refl
kinds_told (c ∷ cs) = ap (λ l. Some c.kind.text ∷ l) (kinds_told cs)

column_types : (columns : List Column) → map (λ (column : Column). Some column.text) columns ≡ map (λ b. Some b) (map type_of columns)
column_types [] = refl
column_types (c ∷ cs) = ap (λ l. Some c.text ∷ l) (column_types cs)

arm_select : (known : Known) (arm : Arm) (columns : List Column) → ArmFit known arm → map told_type arm.columns ≡ map type_of columns → IsSelectFit known.query (length known.query.views) columns arm.select
arm_select known arm columns fit same = record {
  sources = fit.sources;
  filter = fit.filter;
  group = fit.group;
  distinct = fit.distinct;
  texts = ap (map (option_map (λ (it : query.Kind). it.text))) fit.kinds ∙ kinds_told arm.columns ∙ ap (map (λ b. Some b)) same ∙ sym (column_types columns);
}

-- only the types of a view's columns count for its selects
select_again : (q : Query) (n : ℕ) (columns more : List Column) → map type_of columns ≡ map type_of more → (select : Select) → IsSelectFit q n columns select → IsSelectFit q n more select
select_again q n columns more same select fit = record {
  sources = fit.sources;
  filter = fit.filter;
  group = fit.group;
  distinct = fit.distinct;
  texts = fit.texts ∙ column_types columns ∙ ap (map (λ b. Some b)) same ∙ sym (column_types more);
}

-- columns with those of one more select
join : List Column → List ItemColumn → List Column
join [] others = []
join (c ∷ cs) [] = []
join (c ∷ cs) (o ∷ os) = record { name = c.name; text = c.text; unknown = c.unknown || o.kind.unknown } ∷ join cs os

same_types : (one other : Bool) → differ one other ≡ false → one ≡ other
same_types true true h = refl
same_types true false h = absurd (false≢true (sym h))
same_types false true h = absurd (false≢true (sym h))
same_types false false h = refl

joined_is : (columns front rest : List Column) (before made : List Column) (others : List ItemColumn) → columns ≡ front ++ rest → length before ≡ length front → length rest ≡ length others → in_turn (with_joined columns) before others ≡ Ok made
    → (made ≡ before ++ join rest others) × (map told_type others ≡ map type_of rest)
unfolding in_turn join
joined_is columns front [] before made [] parts at long e = (sym (same_Ok before made e) ∙ sym (append-nil before), refl)
joined_is columns front (r ∷ rs) before made [] parts at long e = absurd (omega (arith, long))
joined_is columns front [] before made (o ∷ os) parts at long e = absurd (omega (arith, long))
joined_is columns front (r ∷ rs) before made (o ∷ os) parts at long e =
    let here : slice_get columns (length before) ≡ Some r = ap (λ l. slice_get l (length before)) parts ∙ at_front front r rs (length before) at in
    let merged : Column = record { name = r.name; text = r.text; unknown = r.unknown || o.kind.unknown } in
    let next = came_of (with_joined columns before o) (λ next. in_turn (with_joined columns) next os) made e in
    let same = kept (differ r.text o.kind.text) (fault.WrongType o.place) (Ok (before ++ merged ∷ [])) next.0 (sym (ap (joined_column before o) here) ∙ next.1) in
    let more = joined_is columns (front ++ r ∷ []) rs (before ++ merged ∷ []) made os (parts ∙ sym (append_assoc front (r ∷ []) rs))
    (let l : length (before ++ merged ∷ []) ≡ length before + 1 = length-append before (merged ∷ []) in let k : length (front ++ r ∷ []) ≡ length front + 1 = length-append front (r ∷ []) in omega (arith, l, k, at))
    (omega (arith, long)) (ap (λ s. in_turn (with_joined columns) s os) (same_Ok (before ++ merged ∷ []) next.0 same.1) ∙ next.2) in
    (more.0 ∙ append_assoc before (merged ∷ []) (join rs os), ap (λ b. b ∷ map told_type os) (sym (same_types r.text o.kind.text same.0)) ∙ ap (λ l. r.text ∷ l) more.1)

join_types : (cs : List Column) (os : List ItemColumn) → length cs ≡ length os → map type_of (join cs os) ≡ map type_of cs
unfolding join
join_types [] os long = refl
join_types (c ∷ cs) [] long = absurd (omega (arith, long))
join_types (c ∷ cs) (o ∷ os) long = ap (λ l. c.text ∷ l) (join_types cs os (omega (arith, long)))

-- the parts of a joined column
record Parts (cs : List Column) (os : List ItemColumn) (i : ℕ) (column : Column) : Type 0 where
  c : Column
  o : ItemColumn
  first : slice_get cs i ≡ Some c
  other : slice_get os i ≡ Some o
  mark : column.unknown ≡ (c.unknown || o.kind.unknown)

join_parts : (cs : List Column) (os : List ItemColumn) (i : ℕ) (column : Column) → slice_get (join cs os) i ≡ Some column → Parts cs os i column
unfolding join
join_parts [] os i column e = absurd (let h : None ≡ Some column = e in cc)
join_parts (c ∷ cs) [] i column e = absurd (let h : None ≡ Some column = e in cc)
join_parts (c ∷ cs) (o ∷ os) zero column e =
    let merged : Column = record { name = c.name; text = c.text; unknown = c.unknown || o.kind.unknown } in
    let h : Some merged ≡ Some column = e in
    let same : merged ≡ column = cc in
    record { c = c; o = o; first = refl; other = refl; mark = ap (λ (x : Column). x.unknown) (sym same) }
join_parts (c ∷ cs) (o ∷ os) (suc i) column e =
    let more = join_parts cs os i column e in
    record { c = more.c; o = more.o; first = more.first; other = more.other; mark = more.mark }

-- whether the column of this number is unknown in some of these selects
abbrev some_unknown : Query → ℕ → List Select → Bool
some_unknown q i arms = list_any (λ arm. is_unknown (unwrap_or (slice_get (item_kinds q arm) i) None)) arms

abbrev Marks : Query → List Column → List Select → Type 0
Marks q columns arms = (i : ℕ) (column : Column) → slice_get columns i ≡ Some column → column.unknown ≡ some_unknown q i arms

record ArmsFit (known : Known) (made : Arms) : Type 0 where
  arms : All (IsSelectFit known.query (length known.query.views) made.columns) made.arms
  marks : Marks known.query made.columns made.arms

-- what one select says of a column
arm_mark : (known : Known) (arm : Arm) (i : ℕ) (o : ItemColumn) → ArmFit known arm → slice_get arm.columns i ≡ Some o → is_unknown (unwrap_or (slice_get (item_kinds known.query arm.select) i) None) ≡ o.kind.unknown
arm_mark known arm i o fit here =
    ap (λ l. is_unknown (unwrap_or (slice_get l i) None)) fit.kinds ∙ ap (λ k. is_unknown (unwrap_or k None)) (slice_get-map told arm.columns i ∙ ap (option_map told) here)

first_types : (cs : List ItemColumn) → map told_type cs ≡ map type_of (map first_column cs)
first_types [] = refl
first_types (c ∷ cs) = ap (λ l. c.kind.text ∷ l) (first_types cs)

or_nothing : (a : Bool) → (a || false) ≡ a
or_nothing true = refl
or_nothing false = refl

first_marks : (known : Known) (arm : Arm) → ArmFit known arm → Marks known.query (map first_column arm.columns) (arm.select ∷ [])
first_marks known arm fit i column e = by_get (slice_get arm.columns i) refl (sym (slice_get-map first_column arm.columns i) ∙ e)
  where
    by_get : (o : Option ItemColumn) → slice_get arm.columns i ≡ o → option_map first_column o ≡ Some column → column.unknown ≡ some_unknown known.query i (arm.select ∷ [])
    by_get None is h = absurd (let k : None ≡ Some column = h in cc)
    by_get (Some o) is h =
        let k : Some (first_column o) ≡ Some column = h in
        let same : first_column o ≡ column = cc in
        ap (λ (x : Column). x.unknown) (sym same) ∙ sym (or_nothing (is_unknown (unwrap_or (slice_get (item_kinds known.query arm.select) i) None)) ∙ arm_mark known arm i o fit is)

more_marks : (known : Known) (arm : Arm) (columns : List Column) (arms : List Select) → ArmFit known arm → Marks known.query columns arms → Marks known.query (join columns arm.columns) (arms ++ arm.select ∷ [])
more_marks known arm columns arms fit marks i column e =
    let parts = join_parts columns arm.columns i column e in
    parts.mark ∙ ap (λ b. b || (parts.o).kind.unknown) (marks i parts.c parts.first)
    ∙ ap (λ b. some_unknown known.query i arms || b) (sym (or_nothing (is_unknown (unwrap_or (slice_get (item_kinds known.query arm.select) i) None)) ∙ arm_mark known arm i parts.o fit parts.other))
    ∙ sym (list_any-append (λ arm. is_unknown (unwrap_or (slice_get (item_kinds known.query arm) i) None)) arms (arm.select ∷ []))

arm_step : (known : Known) → AreThere known → (before next : Arms) (select : TreeSelect) → small_select select ≡ true → with_arm known before select ≡ Ok next → ArmsFit known before → ArmsFit known next
unfolding with_arm joined
arm_step known all before next select small e p =
    let arm = came_of (checked_select known (is_first before) select) (λ arm. joined (is_first before) before.columns select.place arm.columns >>= (λ columns. Ok (record { arms = before.arms ++ arm.select ∷ []; columns = columns }))) next e in
    let columns = came_of (joined (is_first before) before.columns select.place (arm.0).columns) (λ columns. Ok (record { arms = before.arms ++ (arm.0).select ∷ []; columns = columns })) next arm.2 in
    let fit = select_fit known (is_first before) select arm.0 all arm.1 small in
    subst (ArmsFit known) (same_Ok (record { arms = before.arms ++ (arm.0).select ∷ []; columns = columns.0 }) next columns.2) (by_arms arm.0 fit columns.0 before.arms refl columns.1)
  where
    by_length : (arm : Arm) → ArmFit known arm → (columns : List Column) → (b : Bool) → (length before.columns == length arm.columns) ≡ b
        → (if length before.columns == length arm.columns then in_turn (with_joined before.columns) [] arm.columns else Err (fault.WrongType select.place)) ≡ Ok columns
        → ArmsFit known (record { arms = before.arms ++ arm.select ∷ []; columns = columns })
    by_length arm fit columns false is h = absurd (let k : Err (fault.WrongType select.place) ≡ Ok columns = sym (rw is refl) ∙ h in cc)
    by_length arm fit columns true is h =
        let long : length before.columns ≡ length arm.columns = grind (arith, nat_tests, is) in
        let made = joined_is before.columns [] before.columns [] columns arm.columns refl refl long (sym (rw is refl) ∙ h) in
        let types : map type_of before.columns ≡ map type_of columns = sym (join_types before.columns arm.columns long) ∙ ap (map type_of) (sym made.0) in
        record {
          arms = All-push (IsSelectFit known.query (length known.query.views) columns) before.arms arm.select
              (All-weaker (IsSelectFit known.query (length known.query.views) before.columns) (IsSelectFit known.query (length known.query.views) columns) (select_again known.query (length known.query.views) before.columns columns types) before.arms p.arms)
              (arm_select known arm columns fit (made.1 ∙ types));
          marks = subst (λ l. Marks known.query l (before.arms ++ arm.select ∷ [])) (sym made.0) (more_marks known arm before.columns before.arms fit p.marks);
        }

    by_arms : (arm : Arm) → ArmFit known arm → (columns : List Column) → (arms : List Select) → before.arms ≡ arms
        → (if not (is_written before.arms) then Ok (map first_column arm.columns) else (if length before.columns == length arm.columns then in_turn (with_joined before.columns) [] arm.columns else Err (fault.WrongType select.place))) ≡ Ok columns
        → ArmsFit known (record { arms = before.arms ++ arm.select ∷ []; columns = columns })
    by_arms arm fit columns [] is h =
        let same : map first_column arm.columns ≡ columns = same_Ok (map first_column arm.columns) columns (sym (rw is refl) ∙ h) in
        subst (λ l. ArmsFit known (record { arms = l ++ arm.select ∷ []; columns = columns })) (sym is)
        (subst (λ l. ArmsFit known (record { arms = arm.select ∷ []; columns = l })) same (record {
          arms = All-push (IsSelectFit known.query (length known.query.views) (map first_column arm.columns)) [] arm.select (All-nil (IsSelectFit known.query (length known.query.views) (map first_column arm.columns))) (arm_select known arm (map first_column arm.columns) fit (first_types arm.columns));
          marks = first_marks known arm fit;
        }))
    by_arms arm fit columns (x ∷ xs) is h = by_length arm fit columns (length before.columns == length arm.columns) refl (sym (rw is refl) ∙ h)

pub view_fit : (known : Known) (tree : TreeView) (view : QView) → AreThere known → checked_view known tree ≡ Ok view → list_all small_select tree.arms ≡ true → IsViewFit known.query (length known.query.views) view
unfolding checked_view
view_fit known tree view all e small =
    let new = kept (is_taken known tree.name) (fault.SameName tree.name.place) (in_turn (with_arm known) no_arms tree.arms >>= (λ all. Ok (record { name = tree.name.name; columns = all.columns; arms = all.arms }))) view e in
    let arms = came_of (in_turn (with_arm known) no_arms tree.arms) (λ all. Ok (record { name = tree.name.name; columns = all.columns; arms = all.arms })) view new.1 in
    let fit = through (with_arm known) (ArmsFit known) small_select (arm_step known all) tree.arms no_arms arms.0 small arms.1
    (record { arms = All-nil (IsSelectFit known.query (length known.query.views) []); marks = λ i column h. absurd (let k : None ≡ Some column = h in cc) }) in
    subst (IsViewFit known.query (length known.query.views)) (same_Ok (record { name = tree.name.name; columns = (arms.0).columns; arms = (arms.0).arms }) view arms.2) (record { arms = fit.arms; marks = fit.marks })
