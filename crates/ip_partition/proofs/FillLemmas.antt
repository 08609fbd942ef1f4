-- Adding columns and rows to their parts.
use Rattle.std.proofs.Common.{◌≡◌, ◌≢◌, ◌⊎◌, inl, inr, ◌+◌, ◌-◌, ◌<◌, ◌≤◌, ℕ, suc, Bool, true, false, eqb, List, [], ◌∷◌, ◌++◌, length, get_or, set, drop, replicate, refl, sym, ap, ◌∙◌, subst, arith, append_assoc}
use Rattle.std.specs.List.{filter, range_with_len}
use Rattle.std.proofs.lemmas.Bool.{cases_eq, eq-eqb, ne_eqb}
use Rattle.std.proofs.lemmas.List.{get_or-set_same, get_or-set_other, length-set, get_or_default, drop_more, drop_all, append-nil, replicate_more}
use Rattle.ip_partition.specs.declared.part.PartCols.{PartCols}
use Rattle.ip_partition.specs.Parts.{part_at}
use Rattle.ip_partition.specs.Filling.{no_part, ColumnsAdded, RowsAdded}

-- some of the numbers are added, and a rest is left: each part's list with what the rest adds is as it will be
pub record FillsColumns (label : ℕ → ℕ) (columns rest : List ℕ) (before after : List PartCols) : Type 0 where
  pub size : length after ≡ length before
  pub each : (k : ℕ) → k < length before → record (part_at after k) { columns = (part_at after k).columns ++ filter (λ column. eqb (label column) (k + 1)) rest } ≡ record (part_at before k) { columns = (part_at before k).columns ++ filter (λ column. eqb (label column) (k + 1)) columns }

pub record FillsRows (label : ℕ → ℕ) (rows rest : List ℕ) (before after : List PartCols) : Type 0 where
  pub size : length after ≡ length before
  pub each : (k : ℕ) → k < length before → record (part_at after k) { rows = (part_at after k).rows ++ filter (λ row. eqb (label row) (k + 1)) rest } ≡ record (part_at before k) { rows = (part_at before k).rows ++ filter (λ row. eqb (label row) (k + 1)) rows }

pub columns_begin : (label : ℕ → ℕ) (columns : List ℕ) (parts : List PartCols) → FillsColumns label columns columns parts parts
columns_begin label columns parts = record { size = refl; each = λ k lt. refl }

pub rows_begin : (label : ℕ → ℕ) (rows : List ℕ) (parts : List PartCols) → FillsRows label rows rows parts parts
rows_begin label rows parts = record { size = refl; each = λ k lt. refl }

pub columns_end : (label : ℕ → ℕ) (columns : List ℕ) (before after : List PartCols) → FillsColumns label columns [] before after → ColumnsAdded label columns before after
columns_end label columns before after state = record {
  size = state.size;
  each = λ k lt. ap (λ (cs : List ℕ). record (part_at after k) { columns = cs }) (sym (append-nil (part_at after k).columns)) ∙ state.each k lt;
}

pub rows_end : (label : ℕ → ℕ) (end : ℕ) (before after : List PartCols) → FillsRows label (range_with_len 0 end) [] before after → RowsAdded label end before after
rows_end label end before after state = record {
  size = state.size;
  each = λ k lt. ap (λ (rs : List ℕ). record (part_at after k) { rows = rs }) (sym (append-nil (part_at after k).rows)) ∙ state.each k lt;
}

-- one more part without columns and rows
pub parts_more : (parts more : List PartCols) (count : ℕ) (columns rows : List ℕ) → more ≡ parts ++ record { columns = columns; rows = rows } ∷ [] → columns ≡ [] → rows ≡ [] → parts ≡ replicate count no_part → more ≡ replicate (count + 1) no_part
parts_more parts more count columns rows is none empty so_far =
    is ∙ ap (λ (cs : List ℕ). parts ++ record { columns = cs; rows = rows } ∷ []) none ∙ ap (λ (rs : List ℕ). parts ++ record { columns = []; rows = rs } ∷ []) empty
    ∙ ap (λ (ps : List PartCols). ps ++ no_part ∷ []) so_far ∙ replicate_more count no_part

-- a filter's first item is kept or left out
kept : (p : ℕ → Bool) (x : ℕ) (rest : List ℕ) → p x ≡ true → filter p (x ∷ rest) ≡ x ∷ filter p rest
kept p x rest pass = rw pass refl

left_out : (p : ℕ → Bool) (x : ℕ) (rest : List ℕ) → p x ≡ false → filter p (x ∷ rest) ≡ filter p rest
left_out p x rest fail = rw fail refl

module _ (label : ℕ → ℕ) (all rest : List ℕ) (before after : List PartCols) (x at : ℕ) (new : PartCols) (here : label x ≡ at + 1) (within : at < length after) where
  other : (k : ℕ) → k ≢ at → part_at (set after at new) k ≡ part_at after k
  other k ne = get_or-set_other after at k new (record { columns = []; rows = [] }) ne

  same : part_at (set after at new) at ≡ new
  same = get_or-set_same after at new (record { columns = []; rows = [] }) within

  tells : (k : ℕ) → (k ≡ at) ⊎ ((k ≢ at) × (eqb (label x) (k + 1) ≡ false))
  tells k = elim (cases_eq k at) [
    | inl e ↦ inl e
    | inr ne ↦ inr (ne, ne_eqb (label x) (k + 1) (λ e. ne (omega arith)))
  ]

  pub columns_more : new ≡ record (part_at after at) { columns = (part_at after at).columns ++ x ∷ [] } → FillsColumns label all (x ∷ rest) before after → FillsColumns label all rest before (set after at new)
  columns_more is state = record {
    size = length-set after at new ∙ state.size;
    each = λ k lt. elim (tells k) [
      | inl e ↦
          let part = part_at after at in
          let pass : eqb (label x) (at + 1) ≡ true = eq-eqb (label x) (at + 1) here in
          let split : filter (λ column. eqb (label column) (at + 1)) (x ∷ rest) ≡ x ∷ filter (λ column. eqb (label column) (at + 1)) rest = kept (λ column. eqb (label column) (at + 1)) x rest pass in
          let joined : (part.columns ++ x ∷ []) ++ filter (λ column. eqb (label column) (at + 1)) rest ≡ part.columns ++ filter (λ column. eqb (label column) (at + 1)) (x ∷ rest) = append_assoc part.columns (x ∷ []) (filter (λ column. eqb (label column) (at + 1)) rest) ∙ ap (λ cs. part.columns ++ cs) (sym split) in
          let now : record (part_at (set after at new) at) { columns = (part_at (set after at new) at).columns ++ filter (λ column. eqb (label column) (at + 1)) rest } ≡ record part { columns = part.columns ++ filter (λ column. eqb (label column) (at + 1)) (x ∷ rest) } =
          ap (λ (p : PartCols). record p { columns = p.columns ++ filter (λ column. eqb (label column) (at + 1)) rest }) (same ∙ is) ∙ ap (λ cs. record part { columns = cs }) joined in
          subst (λ i. record (part_at (set after at new) i) { columns = (part_at (set after at new) i).columns ++ filter (λ column. eqb (label column) (i + 1)) rest } ≡ record (part_at before i) { columns = (part_at before i).columns ++ filter (λ column. eqb (label column) (i + 1)) all }) (sym e)
          (now ∙ state.each at (omega arith))
      | inr apart ↦
          let split : filter (λ column. eqb (label column) (k + 1)) (x ∷ rest) ≡ filter (λ column. eqb (label column) (k + 1)) rest = left_out (λ column. eqb (label column) (k + 1)) x rest apart.1 in
          ap (λ (p : PartCols). record p { columns = p.columns ++ filter (λ column. eqb (label column) (k + 1)) rest }) (other k apart.0)
          ∙ ap (λ cs. record (part_at after k) { columns = (part_at after k).columns ++ cs }) (sym split) ∙ state.each k lt
    ];
  }

  pub rows_more : new ≡ record (part_at after at) { rows = (part_at after at).rows ++ x ∷ [] } → FillsRows label all (x ∷ rest) before after → FillsRows label all rest before (set after at new)
  rows_more is state = record {
    size = length-set after at new ∙ state.size;
    each = λ k lt. elim (tells k) [
      | inl e ↦
          let part = part_at after at in
          let pass : eqb (label x) (at + 1) ≡ true = eq-eqb (label x) (at + 1) here in
          let split : filter (λ row. eqb (label row) (at + 1)) (x ∷ rest) ≡ x ∷ filter (λ row. eqb (label row) (at + 1)) rest = kept (λ row. eqb (label row) (at + 1)) x rest pass in
          let joined : (part.rows ++ x ∷ []) ++ filter (λ row. eqb (label row) (at + 1)) rest ≡ part.rows ++ filter (λ row. eqb (label row) (at + 1)) (x ∷ rest) = append_assoc part.rows (x ∷ []) (filter (λ row. eqb (label row) (at + 1)) rest) ∙ ap (λ rs. part.rows ++ rs) (sym split) in
          let now : record (part_at (set after at new) at) { rows = (part_at (set after at new) at).rows ++ filter (λ row. eqb (label row) (at + 1)) rest } ≡ record part { rows = part.rows ++ filter (λ row. eqb (label row) (at + 1)) (x ∷ rest) } =
          ap (λ (p : PartCols). record p { rows = p.rows ++ filter (λ row. eqb (label row) (at + 1)) rest }) (same ∙ is) ∙ ap (λ rs. record part { rows = rs }) joined in
          subst (λ i. record (part_at (set after at new) i) { rows = (part_at (set after at new) i).rows ++ filter (λ row. eqb (label row) (i + 1)) rest } ≡ record (part_at before i) { rows = (part_at before i).rows ++ filter (λ row. eqb (label row) (i + 1)) all }) (sym e)
          (now ∙ state.each at (omega arith))
      | inr apart ↦
          let split : filter (λ row. eqb (label row) (k + 1)) (x ∷ rest) ≡ filter (λ row. eqb (label row) (k + 1)) rest = left_out (λ row. eqb (label row) (k + 1)) x rest apart.1 in
          ap (λ (p : PartCols). record p { rows = p.rows ++ filter (λ row. eqb (label row) (k + 1)) rest }) (other k apart.0)
          ∙ ap (λ rs. record (part_at after k) { rows = (part_at after k).rows ++ rs }) (sym split) ∙ state.each k lt
    ];
  }

-- a row that is in no part
pub rows_less : (label : ℕ → ℕ) (all rest : List ℕ) (before after : List PartCols) (x : ℕ) → label x ≡ 0 → FillsRows label all (x ∷ rest) before after → FillsRows label all rest before after
rows_less label all rest before after x none state = record {
  size = state.size;
  each = λ k lt.
      let fail : eqb (label x) (k + 1) ≡ false = ne_eqb (label x) (k + 1) (λ e. omega arith) in
      ap (λ rs. record (part_at after k) { rows = (part_at after k).rows ++ rs }) (sym (left_out (λ row. eqb (label row) (k + 1)) x rest fail)) ∙ state.each k lt;
}

-- a part that was read at a place, with one more number
module _ (after : List PartCols) (at x : ℕ) (within : at < length after) (read new : PartCols) where
  columns_pushed : new ≡ record (get_or after at read) { columns = (get_or after at read).columns ++ x ∷ [] } → new ≡ record (part_at after at) { columns = (part_at after at).columns ++ x ∷ [] }
  columns_pushed is = is ∙ ap (λ (p : PartCols). record p { columns = p.columns ++ x ∷ [] }) (get_or_default after at read (record { columns = []; rows = [] }) within)

  rows_pushed : new ≡ record (get_or after at read) { rows = (get_or after at read).rows ++ x ∷ [] } → new ≡ record (part_at after at) { rows = (part_at after at).rows ++ x ∷ [] }
  rows_pushed is = is ∙ ap (λ (p : PartCols). record p { rows = p.rows ++ x ∷ [] }) (get_or_default after at read (record { columns = []; rows = [] }) within)

pub columns_step : (label : ℕ → ℕ) (columns : List ℕ) (i : ℕ) (before after : List PartCols) (at : ℕ) (read new : PartCols) → i < length columns → label (get_or columns i 0) ≡ at + 1 → at < length after
    → new ≡ record (get_or after at read) { columns = (get_or after at read).columns ++ get_or columns i 0 ∷ [] } → FillsColumns label columns (drop i columns) before after → FillsColumns label columns (drop (i + 1) columns) before (set after at new)
columns_step label columns i before after at read new lt here within is state =
    columns_more label columns (drop (i + 1) columns) before after (get_or columns i 0) at new here within (columns_pushed after at (get_or columns i 0) within read new is)
    (subst (λ (xs : List ℕ). FillsColumns label columns xs before after) (drop_more columns i 0 lt) state)

pub columns_done : (label : ℕ → ℕ) (columns : List ℕ) (i : ℕ) (before after : List PartCols) → length columns ≤ i → FillsColumns label columns (drop i columns) before after → ColumnsAdded label columns before after
columns_done label columns i before after over state =
    columns_end label columns before after (subst (λ (xs : List ℕ). FillsColumns label columns xs before after) (drop_all i columns over) state)

-- the numbers from one on, one step further
pub range_more : (i end : ℕ) → i < end → range_with_len i (end - i) ≡ i ∷ range_with_len (i + 1) (end - (i + 1))
range_more i end lt = let size : end - i ≡ suc (end - (i + 1)) = omega arith in rw size refl

pub range_none : (i end : ℕ) → end ≤ i → range_with_len i (end - i) ≡ []
range_none i end le = let size : end - i ≡ 0 = omega arith in rw size refl

pub rows_first : (label : ℕ → ℕ) (end : ℕ) (parts : List PartCols) → FillsRows label (range_with_len 0 end) (range_with_len 0 (end - 0)) parts parts
rows_first label end parts =
    let same : end ≡ end - 0 = omega arith in
    subst (λ n. FillsRows label (range_with_len 0 end) (range_with_len 0 n) parts parts) same (rows_begin label (range_with_len 0 end) parts)

module _ (label : ℕ → ℕ) (end i : ℕ) (before after : List PartCols) (state : FillsRows label (range_with_len 0 end) (range_with_len i (end - i)) before after) where
  next_row : i < end → FillsRows label (range_with_len 0 end) (i ∷ range_with_len (i + 1) (end - (i + 1))) before after
  next_row lt = subst (λ (xs : List ℕ). FillsRows label (range_with_len 0 end) xs before after) (range_more i end lt) state

  pub rows_step : (at : ℕ) (read new : PartCols) → i < end → label i ≡ at + 1 → at < length after → new ≡ record (get_or after at read) { rows = (get_or after at read).rows ++ i ∷ [] }
      → FillsRows label (range_with_len 0 end) (range_with_len (i + 1) (end - (i + 1))) before (set after at new)
  rows_step at read new lt here within is =
      rows_more label (range_with_len 0 end) (range_with_len (i + 1) (end - (i + 1))) before after i at new here within (rows_pushed after at i within read new is) (next_row lt)

  pub rows_pass : i < end → label i ≡ 0 → FillsRows label (range_with_len 0 end) (range_with_len (i + 1) (end - (i + 1))) before after
  rows_pass lt none = rows_less label (range_with_len 0 end) (range_with_len (i + 1) (end - (i + 1))) before after i none (next_row lt)

  pub rows_done : end ≤ i → RowsAdded label end before after
  rows_done over = rows_end label end before after (subst (λ (xs : List ℕ). FillsRows label (range_with_len 0 end) xs before after) (range_none i end over) state)
