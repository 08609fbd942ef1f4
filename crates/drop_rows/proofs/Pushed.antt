-- rows that are pushed one by one
use Rattle.std.proofs.Common.{◌≡◌, ℕ, ℤ, ◌+◌, ◌<◌, ◌≤◌, true, List, [], ◌∷◌, ◌++◌, length, drop, get_or, sym, ◌∙◌, ap, append_assoc}
use Rattle.std.proofs.lemmas.List.{append-nil, drop_more, drop_all}
use Rattle.ip_rows.specs.declared.rows.IpRow.{IpRow}
use Rattle.tiql_query.specs.declared.world_column.WorldColumn.{WorldColumn}
use Rattle.drop_rows.specs.Cells.{may_drop, low_row, high_row, column_rows, presence_at, rows_from}

pub pushed : (presence at : ℕ) (column : WorldColumn) (lo hi : ℤ) (low high : IpRow) (rows half more : List IpRow) → may_drop column ≡ true
    → lo ≡ column.lo → hi ≡ column.hi → low ≡ low_row presence at lo → high ≡ high_row presence at hi → half ≡ rows ++ low ∷ [] → more ≡ half ++ high ∷ [] → more ≡ rows ++ column_rows presence at column
unfolding column_rows
pushed presence at column lo hi low high rows half more may same_lo same_hi l h e f = rw (may, ← same_lo, ← same_hi, ← l, ← h) (f ∙ ap (λ (rs : List IpRow). rs ++ high ∷ []) e ∙ append_assoc rows (low ∷ []) (high ∷ []))

module _ (columns : List WorldColumn) (at : ℕ) (presence : ℕ) (rows all : List IpRow) where
  pub rows_next : (d : WorldColumn) (more : List IpRow) (next : ℕ) → at < length columns → more ≡ rows ++ column_rows presence at (get_or columns at d) → next ≡ presence_at presence at (get_or columns at d)
      → rows ++ rows_from presence at (drop at columns) ≡ all → more ++ rows_from next (at + 1) (drop (at + 1) columns) ≡ all
  unfolding rows_from
  rows_next d more next lt e n h =
      rw (e, n) (append_assoc rows (column_rows presence at (get_or columns at d)) (rows_from (presence_at presence at (get_or columns at d)) (at + 1) (drop (at + 1) columns))
      ∙ sym (ap (λ (cs : List WorldColumn). rows ++ rows_from presence at cs) (drop_more columns at d lt)) ∙ h)

  pub rows_end : length columns ≤ at → rows ++ rows_from presence at (drop at columns) ≡ all → rows ≡ all
  unfolding rows_from
  rows_end le h = sym (append-nil rows) ∙ sym (ap (λ (cs : List WorldColumn). rows ++ rows_from presence at cs) (drop_all at columns le)) ∙ h
