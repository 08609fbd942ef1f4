-- numbers in the box that are tied to the presences give a possible world, which has these numbers
use Rattle.std.proofs.Common.{◌≡◌, ℕ, suc, ℤ, ◌+◌, ◌<◌, Bool, true, false, List, [], ◌∷◌, ◌++◌, length, map, drop, get_or, refl, sym, ◌∙◌, ap, ap₂, subst, arith, Option, Some, None, if◌then◌else◌}
use Rattle.std.specs.Prelude.{slice_get, All}
use Rattle.std.proofs.Math.Seq.{take-append_seam, drop-append_seam}
use Rattle.std.proofs.lemmas.List.{map-append, length-drop, drop-drop, get_or-drop}
use Rattle.std.proofs.lemmas.Option.{slice_get-get_or}
use Rattle.branch_tree.specs.Listing.{InBox}
use Rattle.ip_rows.specs.declared.Bounds.{Bounds}
use Rattle.base_kit.specs.declared.value.Value.{Value}
use Rattle.tiql_query.specs.WellFormed.{are_once}
use Rattle.tiql_query.specs.declared.relation.QHypo.{QHypo}
use Rattle.tiql_query.specs.declared.query.Query.{Query}
use Rattle.tiql_query.specs.declared.world_column.WorldColumn.{WorldColumn}
use Rattle.world_def.specs.declared.world.World.{World}
use Rattle.world_def.specs.declared.world.WorldTable.{WorldTable}
use Rattle.world_def.specs.Columns.{Rows, Tables, rows_of}
use Rattle.world_def.specs.Worlds.{leading, of_hypo, standing, count_of, row_possible, number_in, rows_numbers, world_numbers, is_left_out, row_with, put_row, rows_at, tables_at}
use Rattle.world_def.specs.Meaning.{choices, rows_choices, all_choices, rows_can, tables_can, IsPossible}
use Rattle.world_def.proofs.Restored.{numbers_there, take_whole, drop_whole}
use Rattle.world_def.proofs.Runs.{row_run, hypo_run}
use Rattle.world_def.proofs.Walks.{same_number, other_number}
use Rattle.world_points.specs.Points.{side, root}
use Rattle.world_points.proofs.Within.{HasCells}
use Rattle.drop_rows.proofs.OneRow.{row_here, row_back}
use Rattle.drop_rows.proofs.Ties.{AreTied, tied_first, tied_rest}

-- a point of two boxes together is a point of each
split : (one other : List Bounds) (P : List ℤ → Type 0) → ((ms ks : List ℤ) → InBox one ms → InBox other ks → P (ms ++ ks)) → (ns : List ℤ) → InBox (one ++ other) ns → P ns
split [] other P f ns box = f [] ns tt box
split (s ∷ one) other P f [] box = absurd box
split (s ∷ one) other P f (n ∷ ns) box = split one other (λ (l : List ℤ). P (n ∷ l)) (λ ms ks a b. f (n ∷ ms) ks (box.0, box.1, a) b) ns box.2

split_columns : (one other : List WorldColumn) (P : List ℤ → Type 0) → ((ms ks : List ℤ) → InBox (root one) ms → InBox (root other) ks → P (ms ++ ks)) → (ns : List ℤ) → InBox (root (one ++ other)) ns → P ns
split_columns one other P f ns box = split (root one) (root other) P f ns (subst (λ (sides : List Bounds). InBox sides ns) (map-append side one other) box)

pub box_length : (columns : List WorldColumn) (ns : List ℤ) → InBox (root columns) ns → length ns ≡ length columns
box_length [] [] box = refl
box_length [] (n ∷ ns) box = absurd box
box_length (c ∷ columns) [] box = absurd box
box_length (c ∷ columns) (n ∷ ns) box = ap suc (box_length columns ns box.2)

-- rows that may stand over those of the table from this number on, with these numbers; none stands over an earlier row
record AreRowsOf (hypo : ℕ) (table : QHypo) (at : ℕ) (bases : Rows) (ns : List ℤ) (made : WorldTable) : Type 0 where
  can : rows_can hypo table at bases made.picks made.rows ≡ true
  numbers : rows_numbers at bases (rows_choices hypo table at bases) made.picks made.rows ≡ ns
  later : (n : ℕ) → n < at → standing n made.picks made.rows ≡ None

-- what stands over a row of the table, before the rows behind it
record StandsBefore (at : ℕ) (here : Option (List Value)) (behind made : WorldTable) : Type 0 where
  first : standing at made.picks made.rows ≡ here
  picks : drop (count_of here) made.picks ≡ behind.picks
  rows : drop (count_of here) made.rows ≡ behind.rows
  none : (n : ℕ) → n < at → standing n made.picks made.rows ≡ None

module _ (hypo : ℕ) (table : QHypo) (at : ℕ) (base : List Value) (bases : Rows) (ms ks : List ℤ) where
  joined : (here : Option (List Value)) (behind made : WorldTable) → row_possible (choices hypo table at base) base here ≡ true → map (number_in here) (choices hypo table at base) ≡ ms
      → AreRowsOf hypo table (at + 1) bases ks behind → StandsBefore at here behind made → AreRowsOf hypo table at (base ∷ bases) (ms ++ ks) made
  unfolding rows_can
  joined here behind made possible numbers are stands = record {
    can = rw (stands.first, stands.picks, stands.rows, possible) are.can;
    numbers = numbers_there hypo table at base bases made.picks made.rows ∙ rw (stands.first, stands.picks, stands.rows) (ap₂ (λ (l m : List ℤ). l ++ m) numbers are.numbers);
    later = stands.none;
  }

  -- the rows of these numbers: that of the first ones, and those of the others
  next_rows : length ms ≡ length (choices hypo table at base) → rows_at at (base ∷ bases) (choices hypo table at base ++ rows_choices hypo table (at + 1) bases) (ms ++ ks)
      ≡ put_row (is_left_out (choices hypo table at base) ms) at (row_with (choices hypo table at base) ms base) (rows_at (at + 1) bases (rows_choices hypo table (at + 1) bases) ks)
  unfolding rows_at
  next_rows long =
      rw (
        row_run hypo table at base bases,
        take-append_seam (choices hypo table at base) (rows_choices hypo table (at + 1) bases),
        drop-append_seam (choices hypo table at base) (rows_choices hypo table (at + 1) bases),
        take_whole ms ks (length (choices hypo table at base)) long,
        drop_whole ms ks (length (choices hypo table at base)) long,
      )
      refl

left_out_stands : (at : ℕ) (behind : WorldTable) → ((n : ℕ) → n < at + 1 → standing n behind.picks behind.rows ≡ None) → StandsBefore at None behind behind
unfolding count_of
left_out_stands at behind later = record {
  first = later at (omega arith);
  picks = refl;
  rows = refl;
  none = λ n lt. later n (omega (arith, lt));
}

row_stands : (at : ℕ) (row : List Value) (behind : WorldTable) → StandsBefore at (Some row) behind (put_row false at row behind)
unfolding count_of standing
row_stands at row behind = record {
  first = rw (same_number at at refl) refl;
  picks = refl;
  rows = refl;
  none = λ n lt. rw (other_number at n (λ e. omega (arith, e, lt))) refl;
}

put_stands : (gone : Bool) (at : ℕ) (row : List Value) (behind : WorldTable) → ((n : ℕ) → n < at + 1 → standing n behind.picks behind.rows ≡ None)
    → StandsBefore at (if gone then None else Some row) behind (put_row gone at row behind)
put_stands true at row behind later = left_out_stands at behind later
put_stands false at row behind later = row_stands at row behind

-- the rows of a table
rows_back : (hypo : ℕ) (table : QHypo) → are_once table.set ≡ true → (bases : Rows) → All (λ base. All (λ bound. bound.column < length base) table.set) bases → (at : ℕ) (ns : List ℤ)
    → InBox (root (rows_choices hypo table at bases)) ns → (q : ℤ) → AreTied q (rows_choices hypo table at bases) ns
    → AreRowsOf hypo table at bases ns (rows_at at bases (rows_choices hypo table at bases) ns)
unfolding rows_choices rows_can rows_at rows_numbers standing
rows_back hypo table once [] there at [] box q tied = record { can = refl; numbers = refl; later = λ n lt. refl }
rows_back hypo table once [] there at (n ∷ ns) box q tied = absurd box
rows_back hypo table once (base ∷ bases) there at ns box q tied =
    split_columns (choices hypo table at base) (rows_choices hypo table (at + 1) bases)
    (λ (l : List ℤ). AreTied q (choices hypo table at base ++ rows_choices hypo table (at + 1) bases) l
    → AreRowsOf hypo table at (base ∷ bases) l (rows_at at (base ∷ bases) (choices hypo table at base ++ rows_choices hypo table (at + 1) bases) l))
    (λ ms ks first rest are. by_parts ms ks first rest are (rows_back hypo table once bases (λ k d lt. there (suc k) d (omega (arith, lt))) (at + 1) ks rest))
    ns box tied
  where
    mine : List WorldColumn
    mine = choices hypo table at base

    more : List WorldColumn
    more = rows_choices hypo table (at + 1) bases

    by_parts : (ms ks : List ℤ) → InBox (root mine) ms → InBox (root more) ks → AreTied q (mine ++ more) (ms ++ ks)
        → ((p : ℤ) → AreTied p more ks → AreRowsOf hypo table (at + 1) bases ks (rows_at (at + 1) bases more ks))
        → AreRowsOf hypo table at (base ∷ bases) (ms ++ ks) (rows_at at (base ∷ bases) (mine ++ more) (ms ++ ks))
    by_parts ms ks first rest are behind =
        let long = box_length mine ms first in
        let row = row_back hypo table at base once (there 0 base (omega arith)) q ms first (tied_first mine more ms ks q are) in
        let last = tied_rest mine more ms ks q long are in
        let later = behind last.0 last.1 in
        subst (λ (t : WorldTable). AreRowsOf hypo table at (base ∷ bases) (ms ++ ks) t) (sym (next_rows hypo table at base bases ms ks long))
        (joined hypo table at base bases ms ks (row_here mine base ms) (rows_at (at + 1) bases more ks) _ row.possible row.numbers later
        (put_stands (is_left_out mine ms) at (row_with mine ms base) (rows_at (at + 1) bases more ks) later.later))

-- the tables of a world from this number on
at_drop : (world : List WorldTable) (n : ℕ) (made : WorldTable) (rest : List WorldTable) → drop n world ≡ made ∷ rest → (slice_get world n ≡ Some made) × (drop (n + 1) world ≡ rest)
at_drop world n made rest e =
    let long = ap length e in
    let left = length-drop n world in
    let same : n + 0 ≡ n = omega arith in
    let here : get_or world n made ≡ made = sym (ap (λ (k : ℕ). get_or world k made) same) ∙ sym (get_or-drop n world 0 made) ∙ ap (λ (l : List WorldTable). get_or l 0 made) e in
    (slice_get-get_or world n made (omega (arith, long, left)) ∙ ap (λ (t : WorldTable). Some t) here, sym (drop-drop 1 n world) ∙ ap (drop 1) e)

-- they may be those of the hypothetical tables, and have these numbers
record AreTablesOf (tables : Tables) (world : List WorldTable) (hypo : ℕ) (hypos : List QHypo) (ns : List ℤ) : Type 0 where
  can : tables_can tables world hypo hypos ≡ true
  numbers : world_numbers tables world hypo hypos (all_choices tables hypo hypos) ≡ ns

module _ (tables : Tables) (world : List WorldTable) (table : QHypo) (others : List QHypo) (hypo : ℕ) where
  mine : List WorldColumn
  mine = rows_choices hypo table 0 (rows_of tables table.table)

  rest : List WorldColumn
  rest = all_choices tables (hypo + 1) others

  -- the tables of these numbers: that of the first ones, and those of the others
  next_tables : (ms ks : List ℤ) → length ms ≡ length mine → tables_at tables hypo (table ∷ others) (mine ++ rest) (ms ++ ks) ≡ rows_at 0 (rows_of tables table.table) mine ms ∷ tables_at tables (hypo + 1) others rest ks
  unfolding tables_at mine rest
  next_tables ms ks long =
      rw (hypo_run tables hypo table others, take-append_seam mine rest, drop-append_seam mine rest, take_whole ms ks (length mine) long, drop_whole ms ks (length mine) long) refl

  tables_joined : (ms ks : List ℤ) (made : WorldTable) → slice_get world hypo ≡ Some made → AreRowsOf hypo table 0 (rows_of tables table.table) ms made → AreTablesOf tables world (hypo + 1) others ks
      → AreTablesOf tables world hypo (table ∷ others) (ms ++ ks)
  unfolding tables_can world_numbers all_choices mine rest
  tables_joined ms ks made is are later = record {
    can = rw (is, are.can) later.can;
    numbers = rw (hypo_run tables hypo table others, take-append_seam mine rest, drop-append_seam mine rest, is) (ap₂ (λ (l m : List ℤ). l ++ m) are.numbers later.numbers);
  }

  next_back : (cells : HasCells tables table) (q : ℤ) (ms ks : List ℤ) → InBox (root mine) ms → InBox (root rest) ks → AreTied q (mine ++ rest) (ms ++ ks) → drop hypo world ≡ tables_at tables hypo (table ∷ others) (mine ++ rest) (ms ++ ks)
      → ((p : ℤ) → AreTied p rest ks → drop (hypo + 1) world ≡ tables_at tables (hypo + 1) others rest ks → AreTablesOf tables world (hypo + 1) others ks)
      → AreTablesOf tables world hypo (table ∷ others) (ms ++ ks)
  unfolding mine
  next_back cells q ms ks first behind tied is later =
      let long = box_length mine ms first in
      let made = rows_at 0 (rows_of tables table.table) mine ms in
      let stands = at_drop world hypo made (tables_at tables (hypo + 1) others rest ks) (is ∙ next_tables ms ks long) in
      let last = tied_rest mine rest ms ks q long tied in
      tables_joined ms ks made stands.0
      (rows_back hypo table cells.once (rows_of tables table.table) cells.there 0 ms first q (tied_first mine rest ms ks q tied))
      (later last.0 last.1 stands.1)

tables_back : (tables : Tables) (world : List WorldTable) (hypos : List QHypo) → All (HasCells tables) hypos → (hypo : ℕ) (ns : List ℤ) → InBox (root (all_choices tables hypo hypos)) ns → (q : ℤ) → AreTied q (all_choices tables hypo hypos) ns
    → drop hypo world ≡ tables_at tables hypo hypos (all_choices tables hypo hypos) ns → AreTablesOf tables world hypo hypos ns
unfolding all_choices tables_can world_numbers mine rest
tables_back tables world [] all hypo [] box q tied is = record { can = refl; numbers = refl }
tables_back tables world [] all hypo (n ∷ ns) box q tied is = absurd box
tables_back tables world (table ∷ others) all hypo ns box q tied is =
    split_columns (mine tables world table others hypo) (rest tables world table others hypo)
    (λ (l : List ℤ). AreTied q (mine tables world table others hypo ++ rest tables world table others hypo) l
    → drop hypo world ≡ tables_at tables hypo (table ∷ others) (mine tables world table others hypo ++ rest tables world table others hypo) l
    → AreTablesOf tables world hypo (table ∷ others) l)
    (λ ms ks first behind are same. next_back tables world table others hypo (all 0 table (omega arith)) q ms ks first behind are same
    (λ p later next. tables_back tables world others (λ k d lt. all (suc k) d (omega (arith, lt))) (hypo + 1) ks behind p later next))
    ns box tied is

tables_count : (tables : Tables) (hypos : List QHypo) (hypo : ℕ) (columns : List WorldColumn) (ns : List ℤ) → length (tables_at tables hypo hypos columns ns) ≡ length hypos
unfolding tables_at
tables_count tables [] hypo columns ns = refl
tables_count tables (table ∷ others) hypo columns ns = ap suc (tables_count tables others (hypo + 1) (drop (leading (of_hypo hypo) columns) columns) (drop (leading (of_hypo hypo) columns) ns))

-- the world of a point in the box whose numbers are tied is possible, and has these numbers
pub world_back : (query : Query) (tables : Tables) (columns : List WorldColumn) (world : World) (point : List ℤ) → columns ≡ all_choices tables 0 query.hypos → All (HasCells tables) query.hypos
    → world.tables ≡ tables_at tables 0 query.hypos columns point → InBox (root columns) point → (q : ℤ) → AreTied q columns point
    → IsPossible query tables world × (world_numbers tables world.tables 0 query.hypos columns ≡ point)
world_back query tables columns world point made cells is box q tied =
    let all = tables_back tables world.tables query.hypos cells 0 point (subst (λ (cs : List WorldColumn). InBox (root cs) point) made box) q (subst (λ (cs : List WorldColumn). AreTied q cs point) made tied)
    (is ∙ ap (λ (cs : List WorldColumn). tables_at tables 0 query.hypos cs point) made) in
    (record { long = ap length is ∙ tables_count tables query.hypos 0 columns point; rows = all.can }, ap (λ (cs : List WorldColumn). world_numbers tables world.tables 0 query.hypos cs) made ∙ all.numbers)
