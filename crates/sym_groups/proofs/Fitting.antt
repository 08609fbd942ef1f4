-- the rows that are made fit the columns
use Rattle.std.proofs.Common.{◌≡◌, ◌∙◌, sym, ap, subst, refl, ℕ, suc, ◌+◌, ◌<◌, ◌==◌, Bool, true, false, cond, not, List, [], ◌∷◌, ◌++◌, length, length-append, map, All, Ok, Err, append_assoc, arith}
use Rattle.std.specs.Prelude.{Option, Some, None}
use Rattle.std.specs.Cmp.{unsigned_Decides}
use Rattle.std.specs.List.{list_any, AllZip}
use Rattle.std.specs.Option.{option_to_list}
use Rattle.std.proofs.lemmas.Bool.{and_parts}
use Rattle.std.proofs.lemmas.List.Elements.{All-nil, All-cons, All-append}
use Rattle.base_kit.proofs.Results.{same_Ok}
use Rattle.tiql_query.specs.declared.expression.At.{At}
use Rattle.tiql_query.specs.declared.expression.Expr.{Expr}
use Rattle.tiql_query.specs.declared.relation.Column.{Column}
use Rattle.tiql_query.specs.declared.view.Item.{Item}
use Rattle.tiql_query.specs.declared.view.Item.TheVariants as items
use Rattle.row_values.specs.Values.{number}
use Rattle.view_select.specs.Selects.{is_extreme}
use Rattle.prov_fold.specs.Graphs.{Graph}
use Rattle.prov_fold.specs.Rules as rule
use Rattle.sym_rows.specs.declared.row.Cell.{Cell}
use Rattle.sym_rows.specs.declared.row.Cell.TheVariants as cells
use Rattle.sym_rows.specs.declared.row.SymRow.{SymRow}
use Rattle.sym_rows.specs.Hypos.{is_unknown_in, settled, as_cell}
use Rattle.sym_rows.specs.Walks.{Walked, Walk, gives, ◌>>=◌, each, by_rule}
use Rattle.sym_values.specs.Meanings.{IsCellFit, IsRowFit, is_text}
use Rattle.sym_groups.specs.Aggregates.{least_of, sum_of, count_of, greatest_of, pairs_of, key_place, group_value, item_cell, argument_place, item_cells}
use Rattle.sym_groups.specs.Groups.{rows_of, presence_of, row_with, first_cells, joined, is_sure, group_presence, group_row}
use Rattle.sym_groups.specs.Meanings.{IsGroupItem, IsItemColumn}
use Rattle.sym_groups.proofs.Groupwise.{unknown_at}

-- ---- walks that came to an end

then_Ok : {A B : Type 0} (walked : Walked A) (next : A → Walk B) (p : B × Graph) → (walked >>= next) ≡ Ok p → (q : A × Graph) × (walked ≡ Ok q) × (next q.0 q.1 ≡ Ok p)
then_Ok (Ok q) next p e = (q, refl, e)
then_Ok (Err w) next p e = absurd (let c : Err w ≡ Ok p = e in cc)

given : {A : Type 0} (a b : A) (g h : Graph) → gives a g ≡ Ok (b, h) → a ≡ b
given {A} a b g h e = ap (λ (p : A × Graph). p.0) (same_Ok (a, g) (b, h) e)

-- what holds of each row that is made
rows_of_all : (f : List SymRow → Walk (Option SymRow)) (P : SymRow → Type 0) (Q : List SymRow → Type 0) → ((group : List SymRow) (g : Graph) (p : Option SymRow × Graph) → Q group → f group g ≡ Ok p → All P (option_to_list p.0))
    → (groups : List (List SymRow)) (g : Graph) (p : List SymRow × Graph) → All Q groups → rows_of f groups g ≡ Ok p → All P p.0
unfolding rows_of
rows_of_all f P Q each_one [] g p are e = subst (All P) (ap (λ (q : List SymRow × Graph). q.0) (same_Ok ([], g) p e)) (All-nil P)
rows_of_all f P Q each_one (group ∷ groups) g p are e =
    let one = then_Ok (f group g) (λ row g. rows_of f groups g >>= λ more g. gives (option_to_list row ++ more) g) p e in
    let rest = then_Ok (rows_of f groups one.0.1) (λ more g. gives (option_to_list one.0.0 ++ more) g) p one.2 in
    subst (All P) (ap (λ (q : List SymRow × Graph). q.0) (same_Ok (option_to_list one.0.0 ++ rest.0.0, rest.0.1) p rest.2))
    (All-append P (option_to_list one.0.0) rest.0.0 (each_one group g one.0 (are 0 group (omega arith)) one.1) (rows_of_all f P Q each_one groups one.0.1 rest.0 (λ k d lt. are (suc k) d (omega (arith, lt))) rest.1))

-- a row that is made has its cells
row_all : (P : SymRow → Type 0) (id : ℕ) (made : Walk (List Cell)) (g : Graph) (p : Option SymRow × Graph) → ((q : List Cell × Graph) → made g ≡ Ok q → P (record { presence = id; cells = q.0 })) → row_with id made g ≡ Ok p → All P (option_to_list p.0)
unfolding row_with
row_all P id made g p has e = by_test (id == 0) e
  where
    by_test : (b : Bool) → cond b (gives None g) (made g >>= λ cells g. gives (Some (record { presence = id; cells = cells })) g) ≡ Ok p → All P (option_to_list p.0)
    by_test true e = subst (λ (o : Option SymRow). All P (option_to_list o)) (ap (λ (q : Option SymRow × Graph). q.0) (same_Ok (None, g) p e)) (All-nil P)
    by_test false e =
        let one = then_Ok (made g) (λ cells g. gives (Some (record { presence = id; cells = cells })) g) p e in
        subst (λ (o : Option SymRow). All P (option_to_list o)) (ap (λ (q : Option SymRow × Graph). q.0) (same_Ok (Some (record { presence = id; cells = one.0.0 }), one.0.1) p one.2))
        (All-cons P (record { presence = id; cells = one.0.0 }) [] (has one.0 one.1) (All-nil P))

-- of no rows none is there
none_there : (made : Walk (List Cell)) (g : Graph) (p : Option SymRow × Graph) (P : SymRow → Type 0) → (presence_of [] g >>= λ there g. row_with there made g) ≡ Ok p → All P (option_to_list p.0)
unfolding presence_of row_with rule.or_of
none_there made g p P e = subst (λ (o : Option SymRow). All P (option_to_list o)) (ap (λ (q : Option SymRow × Graph). q.0) (same_Ok (None, g) p e)) (All-nil P)

-- ---- DISTINCT

joined_fit : (columns : List Column) (group : List SymRow) (g : Graph) (p : Option SymRow × Graph) → All (IsRowFit columns) group → joined group g ≡ Ok p → All (IsRowFit columns) (option_to_list p.0)
unfolding joined first_cells
joined_fit columns [] g p fits e = none_there (gives []) g p (IsRowFit columns) e
joined_fit columns (row ∷ group) g p fits e =
    let one = then_Ok (presence_of (row ∷ group) g) (λ there g. row_with there (gives row.cells) g) p e in
    row_all (IsRowFit columns) one.0.0 (gives row.cells) one.0.1 p (λ q is. subst (AllZip IsCellFit columns) (given row.cells q.0 one.0.1 q.1 is) (fits 0 row (omega arith))) one.2

pub distinct_fit : (columns : List Column) (groups : List (List SymRow)) (g : Graph) (made : List SymRow) (after : Graph) → rows_of joined groups g ≡ Ok (made, after) → All (All (IsRowFit columns)) groups → All (IsRowFit columns) made
distinct_fit columns groups g made after is fits = rows_of_all joined (IsRowFit columns) (All (IsRowFit columns)) (joined_fit columns) groups g (made, after) fits is

-- ---- groups

first_text : (row : SymRow) (group : List SymRow) (column : Column) (place : ℕ) → column.text ≡ is_text (group_value place (row ∷ [])) → column.text ≡ is_text (group_value place (row ∷ group))
unfolding group_value
first_text row group column place e = e

module _ (columns : List Column) (keys : List At) (made : List Item) (rows : List SymRow) where
  -- the values of a group's rows are of the kinds of the columns
  abbrev pub IsOfKinds : List SymRow → Type 0
  IsOfKinds group = (column : Column) (place : ℕ) → All (λ row. column.text ≡ is_text (group_value place (row ∷ []))) rows → All (λ row. column.text ≡ is_text (group_value place (row ∷ []))) group

  abbrev HasTexts : List SymRow → Type 0
  HasTexts group = (column : Column) (part : Expr) → IsItemColumn keys rows column (items.Plain part) → key_place keys part < length keys → column.text ≡ is_text (group_value (key_place keys part) group)

  module _ (group : List SymRow) (texts : HasTexts group) where
    -- an aggregate is a number
    number_fit : (walked : Walked ℕ) (column : Column) (p : Cell × Graph) → (column.unknown ≡ true) × (column.text ≡ false) → (walked >>= as_cell) ≡ Ok p → IsCellFit column p.0
    number_fit walked column p marks e =
        let one = then_Ok walked as_cell p e in
        subst (IsCellFit column) (ap (λ (q : Cell × Graph). q.0) (same_Ok (cells.Number one.0.0, one.0.1) p one.2)) marks

    cell_fit : (column : Column) (place : ℕ) (item : Item) (g : Graph) (p : Cell × Graph) → IsGroupItem keys item → IsItemColumn keys rows column item → item_cell column.unknown keys place group item g ≡ Ok p → IsCellFit column p.0
    unfolding item_cell
    cell_fit column place (items.Plain part) g p fits marks e = by_unknown column.unknown refl e
      where
        by_unknown : (b : Bool) → column.unknown ≡ b → settled b (group_value (key_place keys part) group) g ≡ Ok p → IsCellFit column p.0
        by_unknown true u e = number_fit (by_rule (rule.constant (number (group_value (key_place keys part) group))) g) column p (u, marks.0 u) e
        by_unknown false u e = subst (IsCellFit column) (ap (λ (q : Cell × Graph). q.0) (same_Ok (cells.Fixed (group_value (key_place keys part) group), g) p e)) (u, texts column part marks fits)
    cell_fit column place (items.Sum part) g p fits marks e = number_fit (sum_of (pairs_of place group) g) column p marks e
    cell_fit column place items.Count g p fits marks e = number_fit (count_of (map (λ row. row.presence) group) g) column p marks e
    cell_fit column place (items.Min part) g p fits marks e = number_fit (least_of (pairs_of place group) g) column p marks e
    cell_fit column place (items.Max part) g p fits marks e = number_fit (greatest_of (pairs_of place group) g) column p marks e

    cells_fit : (before after : List Column) (others : List Item) (i : ℕ) (g : Graph) (p : List Cell × Graph) → columns ≡ before ++ after → i ≡ length before → All (IsGroupItem keys) others → AllZip (IsItemColumn keys rows) after others
        → each (λ i item. item_cell (is_unknown_in columns i) keys (argument_place keys made i) group item) i others g ≡ Ok p → AllZip IsCellFit after p.0
    unfolding each
    cells_fit before [] [] i g p is at fits marks e = subst (AllZip IsCellFit []) (ap (λ (q : List Cell × Graph). q.0) (same_Ok ([], g) p e)) tt
    cells_fit before (column ∷ after) [] i g p is at fits marks e = absurd marks
    cells_fit before [] (item ∷ others) i g p is at fits marks e = absurd marks
    cells_fit before (column ∷ after) (item ∷ others) i g p is at fits marks e =
        let f : ℕ → Item → Walk Cell = λ i item. item_cell (is_unknown_in columns i) keys (argument_place keys made i) group item in
        let unknown : is_unknown_in columns i ≡ column.unknown = ap (λ (l : List Column). is_unknown_in l i) is ∙ unknown_at before column after i at in
        let one = then_Ok (f i item g) (λ made g. each f (i + 1) others g >>= λ more g. gives (made ∷ more) g) p e in
        let rest = then_Ok (each f (i + 1) others one.0.1) (λ more g. gives (one.0.0 ∷ more) g) p one.2 in
        let more = cells_fit (before ++ column ∷ []) after others (i + 1) one.0.1 rest.0 (is ∙ sym (append_assoc before (column ∷ []) after)) (let n = length-append before (column ∷ []) in omega (arith, at, n)) (λ k d lt. fits (suc k) d (omega (arith, lt))) marks.1 rest.1 in
        subst (AllZip IsCellFit (column ∷ after)) (ap (λ (q : List Cell × Graph). q.0) (same_Ok (one.0.0 ∷ rest.0.0, rest.0.1) p rest.2))
        (cell_fit column (argument_place keys made i) item g one.0 (fits 0 item (omega arith)) marks.0 (ap (λ (b : Bool). item_cell b keys (argument_place keys made i) group item g) (sym unknown) ∙ one.1), more)

  module _ (fits : All (IsGroupItem keys) made) (marks : AllZip (IsItemColumn keys rows) columns made) where
    row_fit : (group : List SymRow) (id : ℕ) (g : Graph) (p : Option SymRow × Graph) → HasTexts group → row_with id (item_cells columns keys made group) g ≡ Ok p → All (IsRowFit columns) (option_to_list p.0)
    unfolding item_cells
    row_fit group id g p texts e = row_all (IsRowFit columns) id (item_cells columns keys made group) g p (λ q is. cells_fit group texts [] columns made 0 g q refl refl fits marks is) e

    sure_keys : is_sure keys made ≡ true → length keys ≡ 0
    unfolding is_sure
    sure_keys e = (unsigned_Decides (length keys) 0).0 (and_parts (length keys == 0) (not (list_any is_extreme made)) e).0

    group_row_fit : (group : List SymRow) (g : Graph) (p : Option SymRow × Graph) → IsOfKinds group → group_row columns keys made group g ≡ Ok p → All (IsRowFit columns) (option_to_list p.0)
    unfolding group_row group_presence
    group_row_fit [] g p kinds e = by_sure (is_sure keys made) refl e
      where
        by_sure : (b : Bool) → is_sure keys made ≡ b → (cond b (gives 1 g) (presence_of [] g) >>= λ there g. row_with there (item_cells columns keys made []) g) ≡ Ok p → All (IsRowFit columns) (option_to_list p.0)
        by_sure true is e = row_fit [] 1 g p (λ column part marks lt. absurd (let n = sure_keys is in omega (arith, lt, n))) e
        by_sure false is e = none_there (item_cells columns keys made []) g p (IsRowFit columns) e
    group_row_fit (row ∷ group) g p kinds e =
        let one = then_Ok (group_presence (is_sure keys made) (row ∷ group) g) (λ there g. row_with there (item_cells columns keys made (row ∷ group)) g) p e in
        row_fit (row ∷ group) one.0.0 one.0.1 p (λ column part marks lt. first_text row group column (key_place keys part) (kinds column (key_place keys part) marks.1 0 row (omega arith))) one.2

    pub groups_fit : (groups : List (List SymRow)) (g : Graph) (all : List SymRow) (after : Graph) → rows_of (group_row columns keys made) groups g ≡ Ok (all, after) → All IsOfKinds groups → All (IsRowFit columns) all
    groups_fit groups g all after is kinds = rows_of_all (group_row columns keys made) (IsRowFit columns) IsOfKinds group_row_fit groups g (all, after) kinds is
