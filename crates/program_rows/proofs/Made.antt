-- What a call for a program comes to, by what its steps gave.
use Rattle.std.proofs.Common.{◌≡◌, ◌∙◌, sym, ap, ap₂, subst, refl, ℕ, ◌<◌, ◌≤◌, ℤ, neg_ℤ, Bool, List, [], ◌∷◌, ◌++◌, All}
use Rattle.std.specs.Prelude.{Option, Ok, Err}
use Rattle.std.proofs.lemmas.List.Elements.{All-append}
use Rattle.ip_rows.specs.declared.Bounds.{Bounds}
use Rattle.ip_rows.specs.declared.rows.IpRow.{IpRow}
use Rattle.tiql_query.specs.declared.world_column.WorldColumn.{WorldColumn}
use Rattle.world_points.specs.Points.{root}
use Rattle.drop_rows.specs.Cells.{cell_rows}
use Rattle.prov_fold.specs.Graphs.{Graph}
use Rattle.prov_fold.proofs.SameLemmas.{All_cons}
use Rattle.bool_encode.specs.Forms.{Form}
use Rattle.bool_encode.specs.Rows.{AreRows, IsRowOf}
use Rattle.bool_encode.proofs.Each.{All_none}
use Rattle.root_encode.specs.Told.{Adds}
use Rattle.used_columns.specs.declared.fault.ColumnsFault.{ColumnsFault}
use Rattle.used_columns.specs.declared.fault.ColumnsFault.TheVariants as columns_fault
use Rattle.used_columns.specs.declared.layout.Layout.{Layout}
use Rattle.used_columns.specs.Columns.{laid, Gives}
use Rattle.used_columns.specs.Used.{AreUsed}
use Rattle.program_rows.specs.declared.fault.ProgramFault.{ProgramFault}
use Rattle.program_rows.specs.declared.fault.ProgramFault.TheVariants as fault
use Rattle.program_rows.specs.declared.goal.Goal.{Goal}
use Rattle.program_rows.specs.declared.linear.LinearForm.{LinearForm}
use Rattle.program_rows.specs.Fair.{told, told_all, IsFair}
use Rattle.program_rows.specs.Faults.{fault_of}
use Rattle.program_rows.specs.Gathering.{GathersAll}
use Rattle.program_rows.specs.Goals.{aim_form, all_forms, goal_forms, node_forms, wanted_forms, AreSeedsOf}
use Rattle.program_rows.specs.Programs.{ComesTo, IsProgramOf, size_of_rows}

-- what is known before there are columns
pub record IsBegun (g : Graph) (roots : List ℕ) (aim : Option Goal) (forms : List LinearForm) (goal : LinearForm) (seeds : List ℕ) : Type 0 where
  pub forms_are : told_all forms ≡ goal_forms g roots
  pub forms_fair : All (IsFair g) (told_all forms)
  pub goal_is : told goal ≡ aim_form aim
  pub goal_fair : IsFair g (told goal)
  pub sown : AreSeedsOf g (told_all forms ++ told goal ∷ []) seeds

module _ (g : Graph) (roots : List ℕ) (aim : Option Goal) (forms : List LinearForm) (goal : LinearForm) (seeds : List ℕ) (begun : IsBegun g roots aim forms goal seeds) where
  wanted_are : told_all forms ++ told goal ∷ [] ≡ wanted_forms g roots aim
  wanted_are = ap₂ (λ (fs : List Form) (r : Form). fs ++ r ∷ []) begun.forms_are begun.goal_is

  pub wanted_sown : AreSeedsOf g (wanted_forms g roots aim) seeds
  wanted_sown = subst (λ (fs : List Form). AreSeedsOf g fs seeds) wanted_are begun.sown

  pub wanted_fair : All (IsFair g) (told_all forms ++ told goal ∷ [])
  wanted_fair = All-append (IsFair g) (told_all forms) (told goal ∷ []) begun.forms_fair (All_cons (IsFair g) (told goal) [] begun.goal_fair (All_none (IsFair g)))

  module _ (columns : List WorldColumn) (marks : List Bool) (used : AreUsed g seeds marks) where
    pub layout_err : (e : ColumnsFault) (sides : List Bounds) (slice : List Bool) → sides ≡ root columns → slice ≡ marks → Gives (laid g sides slice) (Err e) → ComesTo columns g roots aim (Err (fault_of e))
    layout_err (columns_fault.TooManyColumns count) sides slice se me h =
        record {
          seeds = seeds;
          sown = wanted_sown;
          marks = marks;
          used = used;
          is = ap₂ (λ (s : List Bounds) (m : List Bool). laid g s m) (sym se) (sym me) ∙ h (λ same. let no : columns_fault.TooManyColumns count ≡ columns_fault.Memory = same in cc);
        }
    layout_err columns_fault.Memory sides slice se me h = tt

    all_are : node_forms g marks ++ told_all forms ≡ all_forms g marks roots
    all_are = ap (λ (fs : List Form). node_forms g marks ++ fs) begun.forms_are

    pub rows_err : (e : ProgramFault) (layout : Layout) (cells : List IpRow) → laid g (root columns) marks ≡ Ok layout → cells ≡ cell_rows columns → GathersAll g layout.map.stands (node_forms g marks ++ told_all forms) cells (Err e) → ComesTo columns g roots aim (Err e)
    rows_err fault.TooLarge layout cells is ce h =
        record {
          seeds = seeds;
          sown = wanted_sown;
          marks = marks;
          used = used;
          layout = layout;
          is = is;
          before = h.before;
          behind = h.behind;
          forms = h.parts ∙ all_are;
          made = h.made;
          are = h.are;
          large = subst (λ (c : List IpRow). 50000000 < size_of_rows (c ++ h.made)) ce h.large;
        }
    rows_err (fault.TooManyColumns count) layout cells is ce h = absurd h
    rows_err fault.Memory layout cells is ce h = tt

    pub program_made : (layout : Layout) (cells rows : List IpRow) (aim_row : IpRow) (constant : ℤ) → laid g (root columns) marks ≡ Ok layout → cells ≡ cell_rows columns → Adds g layout.map.stands (node_forms g marks ++ told_all forms) cells rows
        → size_of_rows rows ≤ 50000000 → IsRowOf g layout.map.stands (told goal) aim_row → constant ≡ neg_ℤ aim_row.least
        → IsProgramOf columns g roots aim (record { columns = layout.columns; rows = rows; aim = aim_row.terms; constant = constant }) layout.map.stands
    program_made layout cells rows aim_row constant is ce a small row least =
        record {
          seeds = seeds;
          sown = wanted_sown;
          marks = marks;
          used = used;
          layout = is;
          made = a.made;
          are = subst (λ (fs : List Form). AreRows g layout.map.stands fs a.made) all_are a.are;
          rows = a.all ∙ ap (λ (c : List IpRow). c ++ a.made) ce;
          aim_row = aim_row;
          aimed = subst (λ (r : Form). IsRowOf g layout.map.stands r aim_row) begun.goal_is row;
          terms = refl;
          constant = least;
          small = small;
        }
