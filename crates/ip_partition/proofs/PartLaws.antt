-- What parts say of rows: each live row is in exactly one part, which has all its columns.
use Rattle.std.proofs.Common.{◌≡◌, inl, inr, ◌<◌, ℕ, List, length, arith}
use Rattle.std.specs.List.{All, Contains}
use Rattle.std.proofs.lemmas.Bool.{cases_order}
use Rattle.std.proofs.lemmas.List.Elements.{All-contains}
use Rattle.cross_links.specs.Layout.{Layout}
use Rattle.ip_partition.specs.declared.part.PartCols.{PartCols}
use Rattle.ip_partition.specs.Linked.{IsLive, IsLinked}
use Rattle.ip_partition.specs.Parts.{least_of, part_at, AreParts}
use Rattle.ip_partition.proofs.Among.{at_place}
use Rattle.ip_partition.proofs.Chains.{linked_row, linked_trans, linked_sym}
use Rattle.ip_partition.proofs.PartLemmas.{first_least}

module _ (grid : Layout) (columns : List ℕ) (parts : List PartCols) (state : AreParts grid columns parts) (live : (row column : ℕ) → IsLive grid row column → Contains columns column) where
  -- a live row is in some part
  pub part_of_row : (row column : ℕ) → IsLive grid row column → (number : ℕ) × (number < length parts) × Contains (part_at parts number).rows row
  part_of_row row column here =
      let found = state.all column (live row column here) in
      (found.0, found.1, ((state.each found.0 found.1).rows row).1 (column, found.2, here))

  -- with all its columns
  pub row_is_whole : (number : ℕ) → number < length parts → (row column : ℕ) → Contains (part_at parts number).rows row → IsLive grid row column → Contains (part_at parts number).columns column
  row_is_whole number lt row column h here =
      let part = state.each number lt in
      let one = (part.rows row).0 h in
      let linked = ((part.linked one.0).0 one.1).1 in
      (part.linked column).1 (live row column here, linked_trans grid (least_of (part_at parts number)) one.0 column linked (linked_row grid one.0 column (row, one.2, here)))

  -- what holds of the rows of every part holds of every live row
  pub rows_by_parts : (P : ℕ → Type 0) → ((number : ℕ) → number < length parts → All P (part_at parts number).rows) → (row column : ℕ) → IsLive grid row column → P row
  rows_by_parts P each row column here = let found = part_of_row row column here in All-contains P (part_at parts found.0).rows row (each found.0 found.1) found.2

  -- two parts with one column: the later one's least column would be in the earlier one too, and no less than its own
  not_in_two : (one other column : ℕ) → one < other → (below : other < length parts) → Contains (part_at parts one).columns column → Contains (part_at parts other).columns column → ⊥
  not_in_two one other column lt below h k =
      let first = state.each one (omega arith) in
      let second = state.each other below in
      let to_one = ((first.linked column).0 h).1 in
      let to_other = ((second.linked column).0 k).1 in
      let least = least_of (part_at parts one) in
      let inside : Contains columns least = ((first.linked least).0 (at_place (part_at parts one).columns 0 0 first.some)).0 in
      let linked : IsLinked grid (least_of (part_at parts other)) least = linked_trans grid (least_of (part_at parts other)) column least to_other (linked_sym grid least column to_one) in
      let no_less = first_least (part_at parts other).columns least second.columns_rise ((second.linked least).1 (inside, linked)) in
      let less = state.ordered one other lt below in
      omega arith

  -- a column is in one part
  pub one_part : (one other column : ℕ) → one < length parts → other < length parts → Contains (part_at parts one).columns column → Contains (part_at parts other).columns column → one ≡ other
  one_part one other column first second h k = elim (cases_order one other) [
    | inl same ↦ same
    | inr apart ↦ elim apart [
      | inl less ↦ absurd (not_in_two one other column less second h k)
      | inr more ↦ absurd (not_in_two other one column more first k h)
    ]
  ]
