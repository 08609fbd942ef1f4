-- Rows of forms hold exactly where the forms do.
use Rattle.std.proofs.Common.{◌≡◌, ℕ, ℤ, pos, ◌+ℤ◌, ◌*ℤ◌, ◌≤ℤ◌, List, [], ◌∷◌, ◌++◌, All, arith}
use Rattle.std.proofs.lemmas.Int.{ints}
use Rattle.ip_rows.specs.declared.rows.IpRow.{IpRow}
use Rattle.ip_rows.specs.Programs.{sum_at}
use Rattle.prov_fold.specs.Graphs.{Graph}
use Rattle.prov_fold.proofs.SameLemmas.{All_head, All_tail, All_cons}
use Rattle.bool_encode.specs.declared.stand.Stand.{Stand}
use Rattle.bool_encode.specs.Forms.{Form, form_at, Hold}
use Rattle.bool_encode.specs.Columns.{reading}
use Rattle.bool_encode.specs.Rows.{HoldsOver, IsRowOf, AreRows}
use Rattle.bool_encode.proofs.Each.{All_none}

form_up : (s f l : ℤ) → s ≡ f +ℤ l → l ≤ℤ s → pos 0 ≤ℤ f
form_up s f l e h = omega (arith, ints, e, h)

row_up : (s f l : ℤ) → s ≡ f +ℤ l → pos 0 ≤ℤ f → l ≤ℤ s
row_up s f l e h = omega (arith, ints, e, h)

module _ (g : Graph) (stands : List Stand) where
  module _ (d : ℕ) (point : List ℤ) where
    -- the rows hold, so the forms do
    pub rows_hold : (forms : List Form) (rows : List IpRow) → AreRows g stands forms rows → All (HoldsOver d point) rows → Hold d (reading g stands d point) forms
    rows_hold [] [] is h = tt
    rows_hold [] (row ∷ rows) is h = absurd is
    rows_hold (r ∷ forms) [] is h = absurd is
    rows_hold (r ∷ forms) (row ∷ rows) is h = (
      form_up (sum_at point row.terms) (form_at d (reading g stands d point) r) (row.least *ℤ pos d) (is.0.same d point) (All_head (HoldsOver d point) row rows h),
      rows_hold forms rows is.1 (All_tail (HoldsOver d point) row rows h),
    )

    -- the forms hold, so the rows do
    pub hold_rows : (forms : List Form) (rows : List IpRow) → AreRows g stands forms rows → Hold d (reading g stands d point) forms → All (HoldsOver d point) rows
    hold_rows [] [] is h = All_none (HoldsOver d point)
    hold_rows [] (row ∷ rows) is h = absurd is
    hold_rows (r ∷ forms) [] is h = absurd is
    hold_rows (r ∷ forms) (row ∷ rows) is h =
        All_cons (HoldsOver d point) row rows (row_up (sum_at point row.terms) (form_at d (reading g stands d point) r) (row.least *ℤ pos d) (is.0.same d point) h.0)
        (hold_rows forms rows is.1 h.1)

  -- one more row
  pub rows_push : (forms : List Form) (rows : List IpRow) (r : Form) (row : IpRow) → AreRows g stands forms rows → IsRowOf g stands r row → AreRows g stands (forms ++ r ∷ []) (rows ++ row ∷ [])
  rows_push [] [] r row are is = (is, tt)
  rows_push [] (first ∷ rows) r row are is = absurd are
  rows_push (first ∷ forms) [] r row are is = absurd are
  rows_push (s ∷ forms) (first ∷ rows) r row are is = (are.0, rows_push forms rows r row are.1 is)
