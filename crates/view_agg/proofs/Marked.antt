-- of the relations of a query that is well formed unknown columns are numbers, and the selects of a view fit its columns
use Rattle.std.proofs.Common.{◌≡◌, ◌∙◌, sym, ap, subst, refl, ℕ, zero, suc, ◌+◌, ◌≤◌, ◌==◌, ◌||◌, pos, Bool, true, false, List, [], ◌∷◌, length, map, All, arith, Option, Some, None, if◌then◌else◌}
use Rattle.std.specs.Prelude.{slice_get, unwrap_or, option_map}
use Rattle.std.specs.List.{list_any, AllZip}
use Rattle.std.proofs.lemmas.Bool.{false≢true}
use Rattle.std.proofs.lemmas.List.Elements.{All-head, All-tail, All-cons, All-nil}
use Rattle.std.proofs.lemmas.Option.{slice_get-map, get_or_from_slice_get, slice_get_within}
use Rattle.tiql_query.specs.declared.relation.Column.{Column}
use Rattle.tiql_query.specs.declared.relation.QBound.{QBound}
use Rattle.tiql_query.specs.declared.relation.QHypo.{QHypo}
use Rattle.tiql_query.specs.declared.relation.QTable.{QTable}
use Rattle.tiql_query.specs.declared.relation.Source.{Source}
use Rattle.tiql_query.specs.declared.relation.Source.TheVariants as sources
use Rattle.tiql_query.specs.declared.expression.Expr.{Expr}
use Rattle.tiql_query.specs.declared.view.Item.{Item}
use Rattle.tiql_query.specs.declared.view.Item.TheVariants as items
use Rattle.tiql_query.specs.declared.view.Select.{Select}
use Rattle.tiql_query.specs.declared.view.QView.{QView}
use Rattle.tiql_query.specs.declared.query.Query.{Query}
use Rattle.tiql_query.specs.Kinds.{Kind, Scope, kind, is_number, is_unknown}
use Rattle.tiql_query.specs.Kinds as kinds
use Rattle.tiql_query.specs.WellFormed.{columns_of, with_set, IsHypoFit, IsTableFit, IsEarlier, IsSelectFit, IsViewFit, IsWellFormed, scope_of, item_kind, item_kinds, aggregate}
use Rattle.base_kit.specs.declared.value.Value.TheVariants.{Int, Text}
use Rattle.sym_rows.specs.declared.row.Cell.{Cell}
use Rattle.sym_rows.specs.declared.row.Cell.TheVariants as cells
use Rattle.sym_rows.specs.declared.row.SymRow.{SymRow}
use Rattle.sym_values.specs.Meanings.{IsCellFit, AreRowsFit}
use Rattle.sym_values.proofs.Checked.{unknown_kind, unknown_number}
use Rattle.view_join.specs.Fitting.{IsItemFit, IsSelected}
use Rattle.view_agg.specs.Fitting.{AreMarked}
use Rattle.view_agg.proofs.Fits.{set_number}

-- ---- expressions over columns of which the unknown ones are numbers

-- a cell of a column
some_cell : Bool → Bool → Cell
some_cell true text = cells.Number 0
some_cell false true = cells.Fixed (Text [])
some_cell false false = cells.Fixed (Int (pos 0))

some_fits : (column : Column) (unknown text : Bool) → column.unknown ≡ unknown → column.text ≡ text → (unknown ≡ true → text ≡ false) → IsCellFit column (some_cell unknown text)
unfolding some_cell
some_fits column true text u t number = (u, t ∙ number refl)
some_fits column false true u t number = (u, t)
some_fits column false false u t number = (u, t)

some_row : List Column → List Cell
some_row columns = map (λ (column : Column). some_cell column.unknown column.text) columns

row_fits : (columns : List Column) → AreMarked columns → AllZip IsCellFit columns (some_row columns)
unfolding some_row
row_fits [] marked = tt
row_fits (column ∷ columns) marked = (some_fits column column.unknown column.text refl refl (All-head (λ (c : Column). c.unknown ≡ true → c.text ≡ false) column columns marked), row_fits columns (All-tail (λ (c : Column). c.unknown ≡ true → c.text ≡ false) column columns marked))

some_rows : Scope → List SymRow
some_rows scope = map (λ (columns : List Column). record { presence = 1; cells = some_row columns }) scope

-- there are possible rows that fit such columns
rows_fit : (scope : Scope) → All AreMarked scope → AreRowsFit scope (some_rows scope)
unfolding some_rows
rows_fit [] marked = tt
rows_fit (columns ∷ scope) marked = (row_fits columns (All-head AreMarked columns scope marked), rows_fit scope (All-tail AreMarked columns scope marked))

part_number : (scope : Scope) → All AreMarked scope → (part : Expr) (it : Kind) → kind scope part ≡ Some it → it.unknown ≡ true → it.text ≡ false
part_number scope marked part it is unknown = unknown_number scope (some_rows scope) (rows_fit scope marked) part it is (unknown_kind scope part it is ∙ unknown)

same_kind : (one other : Kind) → ◌≡◌ {A = Option Kind} (Some one) (Some other) → one ≡ other
same_kind one other e = cc

aggregate_number : (o : Option Kind) (it : Kind) → aggregate o ≡ Some it → it.text ≡ false
aggregate_number o it is = by_test (is_number o) is
  where
    by_test : (b : Bool) → (if b then Some (kinds.number true) else None) ≡ Some it → it.text ≡ false
    by_test true e = sym (ap (λ (k : Kind). k.text) (same_kind (kinds.number true) it e))
    by_test false e = absurd (let none : ◌≡◌ {A = Option Kind} None (Some it) = e in cc)

-- an unknown item is a number
item_number : (scope : Scope) → All AreMarked scope → (item : Item) (it : Kind) → item_kind scope item ≡ Some it → it.unknown ≡ true → it.text ≡ false
unfolding item_kind
item_number scope marked (items.Plain part) it is unknown = part_number scope marked part it is unknown
item_number scope marked (items.Sum part) it is unknown = aggregate_number (kind scope part) it is
item_number scope marked items.Count it is unknown = sym (ap (λ (k : Kind). k.text) (same_kind (kinds.number true) it is))
item_number scope marked (items.Min part) it is unknown = aggregate_number (kind scope part) it is
item_number scope marked (items.Max part) it is unknown = aggregate_number (kind scope part) it is

-- ---- lists by places

pub all_from : {X : Type 0} (P : X → Type 0) (xs : List X) → ((k : ℕ) (x : X) → slice_get xs k ≡ Some x → P x) → All P xs
all_from P [] h = All-nil P
all_from P (x ∷ xs) h = All-cons P x xs (h 0 x refl) (all_from P xs (λ k y is. h (suc k) y is))

zip_from : {X Y : Type 0} (P : X → Y → Type 0) (xs : List X) (ys : List Y) → length xs ≡ length ys → ((k : ℕ) (x : X) (y : Y) → slice_get xs k ≡ Some x → slice_get ys k ≡ Some y → P x y) → AllZip P xs ys
zip_from P [] [] same h = tt
zip_from P [] (y ∷ ys) same h = absurd (omega (arith, same))
zip_from P (x ∷ xs) [] same h = absurd (omega (arith, same))
zip_from P (x ∷ xs) (y ∷ ys) same h = (h 0 x y refl refl, zip_from P xs ys (omega (arith, same)) (λ k a b is it. h (suc k) a b is it))

any_of : {X : Type 0} (f : X → Bool) (xs : List X) (Q : Type 0) → ((k : ℕ) (x : X) → slice_get xs k ≡ Some x → f x ≡ true → Q) → list_any f xs ≡ true → Q
any_of f [] Q h e = absurd (false≢true e)
any_of f (x ∷ xs) Q h e = by_head (any_of f xs Q (λ k y is s. h (suc k) y is s)) (f x) refl e
  where
    by_head : (list_any f xs ≡ true → Q) → (b : Bool) → f x ≡ b → (b || list_any f xs) ≡ true → Q
    by_head later true t so = h 0 x refl t
    by_head later false t so = later so

any_here : {X : Type 0} (f : X → Bool) (xs : List X) (k : ℕ) (x : X) → slice_get xs k ≡ Some x → f x ≡ true → list_any f xs ≡ true
any_here {X} f [] k x is so = absurd (let none : ◌≡◌ {A = Option X} None (Some x) = is in cc)
any_here {X} f (y ∷ ys) zero x is so = let same : y ≡ x = (let e : ◌≡◌ {A = Option X} (Some y) (Some x) = is in cc) in rw (ap f same ∙ so) refl
any_here f (y ∷ ys) (suc k) x is so = by_head (f y) (any_here f ys k x is so)
  where
    by_head : (b : Bool) → list_any f ys ≡ true → (b || list_any f ys) ≡ true
    by_head true e = refl
    by_head false e = e

-- ---- the columns of a view

-- the kind of an item has the kind of its column
record IsKindOf (scope : Scope) (column : Column) (item : Item) : Type 0 where
  pub it : Kind
  pub is : item_kind scope item ≡ Some it
  pub text : it.text ≡ column.text

kind_of : (scope : Scope) (columns : List Column) (made : List Item) (k : ℕ) (column : Column) (item : Item) → map (option_map (λ (it : Kind). it.text)) (map (item_kind scope) made) ≡ map (λ (c : Column). Some c.text) columns
    → slice_get columns k ≡ Some column → slice_get made k ≡ Some item → IsKindOf scope column item
kind_of scope columns made k column item texts at is = by_kind (item_kind scope item) refl text_is
  where
    text_is : option_map (λ (it : Kind). it.text) (item_kind scope item) ≡ Some column.text
    text_is =
        let left : slice_get (map (option_map (λ (it : Kind). it.text)) (map (item_kind scope) made)) k ≡ Some (option_map (λ (it : Kind). it.text) (item_kind scope item)) =
        slice_get-map (option_map (λ (it : Kind). it.text)) (map (item_kind scope) made) k ∙ ap (option_map (option_map (λ (it : Kind). it.text))) (slice_get-map (item_kind scope) made k ∙ ap (option_map (item_kind scope)) is) in
        let right : slice_get (map (λ (c : Column). Some c.text) columns) k ≡ Some (Some column.text) = slice_get-map (λ (c : Column). Some c.text) columns k ∙ ap (option_map (λ (c : Column). Some c.text)) at in
        let both : ◌≡◌ {A = Option (Option Bool)} (Some (option_map (λ (it : Kind). it.text) (item_kind scope item))) (Some (Some column.text)) = sym left ∙ ap (λ (l : List (Option Bool)). slice_get l k) texts ∙ right in
        cc

    by_kind : (o : Option Kind) → item_kind scope item ≡ o → option_map (λ (it : Kind). it.text) o ≡ Some column.text → IsKindOf scope column item
    by_kind None e t = absurd (let none : ◌≡◌ {A = Option Bool} None (Some column.text) = t in cc)
    by_kind (Some it) e t = record { it = it; is = e; text = (let s : ◌≡◌ {A = Option Bool} (Some it.text) (Some column.text) = t in cc) }

same_length : (scope : Scope) (columns : List Column) (made : List Item) → map (option_map (λ (it : Kind). it.text)) (map (item_kind scope) made) ≡ map (λ (c : Column). Some c.text) columns → length columns ≡ length made
same_length scope [] [] texts = refl
same_length scope [] (item ∷ made) texts = absurd (let no_ : ◌≡◌ {A = List (Option Bool)} (option_map (λ (it : Kind). it.text) (item_kind scope item) ∷ map (option_map (λ (it : Kind). it.text)) (map (item_kind scope) made)) [] = texts in cc)
same_length scope (column ∷ columns) [] texts = absurd (let no_ : ◌≡◌ {A = List (Option Bool)} [] (Some column.text ∷ map (λ (c : Column). Some c.text) columns) = texts in cc)
same_length scope (column ∷ columns) (item ∷ made) texts = ap suc (same_length scope columns made (let tails : map (option_map (λ (it : Kind). it.text)) (map (item_kind scope) made) ≡ map (λ (c : Column). Some c.text) columns = (let all = texts in cc) in tails))

earlier_on : (query : Query) (n m : ℕ) (source : Source) → n ≤ m → IsEarlier query n source → IsEarlier query m source
earlier_on query n m (sources.Table k) le is = is
earlier_on query n m (sources.Hypo k) le is = is
earlier_on query n m (sources.View k) le is = omega (arith, le, is)

module _ (query : Query) (n : ℕ) (view : QView) (there : slice_get query.views n ≡ Some view) (fit : IsViewFit query n view)
    (before : (source : Source) (columns : List Column) → IsEarlier query n source → columns_of query source ≡ Some columns → AreMarked columns) where
  scope_marked : (sources : List Source) → All (IsEarlier query n) sources → All AreMarked (map (λ (source : Source). unwrap_or (columns_of query source) []) sources)
  scope_marked [] earlier = All-nil AreMarked
  scope_marked (source ∷ others) earlier =
      All-cons AreMarked (unwrap_or (columns_of query source) []) (map (λ (source : Source). unwrap_or (columns_of query source) []) others)
      (by_columns (columns_of query source) refl) (scope_marked others (All-tail (IsEarlier query n) source others earlier))
    where
      by_columns : (o : Option (List Column)) → columns_of query source ≡ o → AreMarked (unwrap_or o [])
      by_columns None e = All-nil (λ (column : Column). column.unknown ≡ true → column.text ≡ false)
      by_columns (Some columns) e = before source columns (All-head (IsEarlier query n) source others earlier) e

  select_fit : (k : ℕ) (select : Select) → slice_get view.arms k ≡ Some select → IsSelectFit query n view.columns select
  select_fit k select is = subst (IsSelectFit query n view.columns) (get_or_from_slice_get view.arms k select select is) (fit.arms k select (slice_get_within view.arms k select is))

  -- an unknown column has an unknown item in one of the selects
  view_number : (k : ℕ) (column : Column) → slice_get view.columns k ≡ Some column → column.unknown ≡ true → column.text ≡ false
  view_number k column at unknown = any_of (λ (arm : Select). is_unknown (unwrap_or (slice_get (item_kinds query arm) k) None)) view.arms (column.text ≡ false) of_arm (sym (fit.marks k column at) ∙ unknown)
    where
      of_arm : (i : ℕ) (arm : Select) → slice_get view.arms i ≡ Some arm → is_unknown (unwrap_or (slice_get (item_kinds query arm) k) None) ≡ true → column.text ≡ false
      of_arm i arm is so = by_item (slice_get arm.items k) refl (ap (λ (o : Option (Option Kind)). is_unknown (unwrap_or o None)) (sym (slice_get-map (item_kind (scope_of query arm)) arm.items k)) ∙ so)
        where
          by_item : (o : Option Item) → slice_get arm.items k ≡ o → is_unknown (unwrap_or (option_map (item_kind (scope_of query arm)) o) None) ≡ true → column.text ≡ false
          by_item None e u = absurd (false≢true u)
          by_item (Some item) e u =
              let kind_is = kind_of (scope_of query arm) view.columns arm.items k column item (select_fit i arm is).texts at e in
              sym kind_is.text ∙ item_number (scope_of query arm) (scope_marked arm.sources (select_fit i arm is).sources) item kind_is.it kind_is.is (ap (λ (o : Option Kind). is_unknown o) (sym kind_is.is) ∙ u)

  view_marked : AreMarked view.columns
  view_marked = all_from (λ (column : Column). column.unknown ≡ true → column.text ≡ false) view.columns view_number

  -- a select of the view fits its columns
  arm_selected : (i : ℕ) (arm : Select) → slice_get view.arms i ≡ Some arm → IsSelected (scope_of query arm) view.columns arm
  arm_selected i arm is =
      let mine = select_fit i arm is in record {
        filter = mine.filter;
        group = mine.group;
        items = zip_from (IsItemFit (scope_of query arm)) view.columns arm.items (same_length (scope_of query arm) view.columns arm.items mine.texts) (λ k column item at it.
            let kind_is = kind_of (scope_of query arm) view.columns arm.items k column item mine.texts at it in record {
              it = kind_is.it;
              is = kind_is.is;
              text = kind_is.text;
              marked = λ unknown. fit.marks k column at ∙ any_here (λ (a : Select). is_unknown (unwrap_or (slice_get (item_kinds query a) k) None)) view.arms i arm is
                  (ap (λ (o : Option (Option Kind)). is_unknown (unwrap_or o None)) (slice_get-map (item_kind (scope_of query arm)) arm.items k ∙ ap (option_map (item_kind (scope_of query arm))) it) ∙ ap (λ (o : Option Kind). is_unknown o) kind_is.is ∙ unknown);
              numbers = view_number k column at;
            });
      }

table_marked : (table : QTable) → IsTableFit table → AreMarked table.columns
table_marked table fit = λ k d lt unknown. absurd (false≢true (sym (fit.fixed k d lt) ∙ unknown))

set_marked : (columns : List Column) (set : List QBound) (n : ℕ) (k : ℕ) (column : Column) → ((k : ℕ) (column : Column) → slice_get columns k ≡ Some column → list_any (λ (bound : QBound). bound.column == n + k) set ≡ true → column.text ≡ false)
    → slice_get (with_set set n columns) k ≡ Some column → column.unknown ≡ true → column.text ≡ false
unfolding with_set
set_marked [] set n k column numbers is unknown = absurd (let none : ◌≡◌ {A = Option Column} None (Some column) = is in cc)
set_marked (first ∷ columns) set n zero column numbers is unknown =
    let same : record first { unknown = list_any (λ (bound : QBound). bound.column == n) set } ≡ column = (let e : ◌≡◌ {A = Option Column} (Some (record first { unknown = list_any (λ (bound : QBound). bound.column == n) set })) (Some column) = is in cc) in
    sym (ap (λ (c : Column). c.text) same) ∙ numbers 0 first refl (ap (λ (m : ℕ). list_any (λ (bound : QBound). bound.column == m) set) (let k : n + 0 ≡ n = omega arith in k) ∙ ap (λ (c : Column). c.unknown) same ∙ unknown)
set_marked (first ∷ columns) set n (suc k) column numbers is unknown =
    set_marked columns set (n + 1) k column (λ j c at so. numbers (suc j) c at (ap (λ (m : ℕ). list_any (λ (bound : QBound). bound.column == m) set) (let e : n + suc j ≡ n + 1 + j = omega arith in e) ∙ so)) is unknown

hypo_marked : (query : Query) (hypo : QHypo) → IsHypoFit query hypo → AreMarked hypo.columns
hypo_marked query hypo fit = subst AreMarked (sym fit.columns) (all_from (λ (column : Column). column.unknown ≡ true → column.text ≡ false) (with_set hypo.set 0 fit.table.columns) (λ k column is unknown.
    set_marked fit.table.columns hypo.set 0 k column (λ j c at so. set_number fit.table.columns hypo.set j c fit.bounds at (ap (λ (m : ℕ). list_any (λ (bound : QBound). bound.column == m) hypo.set) (let e : j ≡ 0 + j = omega arith in e) ∙ so)) is unknown))

of_all : {X : Type 0} (P : X → Type 0) (xs : List X) (k : ℕ) (x : X) → All P xs → slice_get xs k ≡ Some x → P x
of_all {X} P xs k x all is = subst P (get_or_from_slice_get xs k x x is) (all k x (slice_get_within xs k x is))

mapped_some : {X : Type 0} (f : X → List Column) (o : Option X) (columns : List Column) (Q : Type 0) → option_map f o ≡ Some columns → ((x : X) → o ≡ Some x → f x ≡ columns → Q) → Q
mapped_some f None columns Q e h = absurd (let none : ◌≡◌ {A = Option (List Column)} None (Some columns) = e in cc)
mapped_some f (Some x) columns Q e h = h x refl (let same : ◌≡◌ {A = Option (List Column)} (Some (f x)) (Some columns) = e in cc)

module _ (query : Query) (fit : IsWellFormed query) where
  -- of relations before a view, views before this number among them
  marked_before : (n : ℕ) (source : Source) (columns : List Column) → IsEarlier query n source → columns_of query source ≡ Some columns → AreMarked columns
  unfolding columns_of
  marked_before n (sources.Table k) columns earlier is = mapped_some (λ (table : QTable). table.columns) (slice_get query.tables k) columns (AreMarked columns) is (λ table there same.
      subst AreMarked same (table_marked table (of_all IsTableFit query.tables k table fit.tables there)))
  marked_before n (sources.Hypo k) columns earlier is = mapped_some (λ (hypo : QHypo). hypo.columns) (slice_get query.hypos k) columns (AreMarked columns) is (λ hypo there same.
      subst AreMarked same (hypo_marked query hypo (of_all (IsHypoFit query) query.hypos k hypo fit.hypos there)))
  marked_before zero (sources.View k) columns earlier is = absurd (omega (arith, earlier))
  marked_before (suc n) (sources.View k) columns earlier is = mapped_some (λ (view : QView). view.columns) (slice_get query.views k) columns (AreMarked columns) is (λ view there same.
      subst AreMarked same (view_marked query k view there (fit.views k view there) (λ source cs e i. marked_before n source cs (earlier_on query k n source (omega (arith, earlier)) e) i)))

  -- the selects of a view fit its columns
  pub selects_fit : (n : ℕ) (view : QView) → slice_get query.views n ≡ Some view → (i : ℕ) (arm : Select) → slice_get view.arms i ≡ Some arm → IsSelected (scope_of query arm) view.columns arm
  selects_fit n view there = arm_selected query n view there (fit.views n view there) (marked_before n)

  -- unknown columns of a view are numbers
  pub view_columns_marked : (n : ℕ) (view : QView) → slice_get query.views n ≡ Some view → AreMarked view.columns
  view_columns_marked n view there = view_marked query n view there (fit.views n view there) (marked_before n)
