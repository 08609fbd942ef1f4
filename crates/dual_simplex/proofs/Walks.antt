-- A pivot of the rule leads on along the path, to where there is less room.
use Rattle.std.proofs.Common.{◌≡◌, ℕ, suc, ◌+◌, ◌<◌, ℤ, Option, List, length, sym, subst, arith}
use Rattle.ip_rows.specs.declared.lp.Lp.{Lp}
use Rattle.ip_rows.specs.Lps.{IsWellFormedLp}
use Rattle.dict_pivot.specs.Tables.{IsPivot}
use Rattle.dict_pivot.specs.Dictionaries.{Dictionary, cell_of, least_of, table, IsDictionary, IsPivoted}
use Rattle.dict_pivot.specs.Quantities.{AreLeast}
use Rattle.dual_simplex.specs.Path.{IsChosen, Next, OnPath}
use Rattle.dual_simplex.specs.Rising.{room, listed}
use Rattle.dual_simplex.specs.Shown.{Stands}
use Rattle.dual_simplex.proofs.Lists.{room_listed}
use Rattle.dual_simplex.proofs.Steps.{next_rises}
use Rattle.dual_simplex.proofs.Ends.{path_is_good}

module _ (lp : Lp) (w : IsWellFormedLp lp) (best : Option ℤ) (d d' : Dictionary) (a : AreLeast lp (least_of d.low)) (own : IsDictionary d) (own' : IsDictionary d') (s : Stands lp best d) (r c : ℕ) (chosen : IsChosen (least_of d.low) best (table d) r c) (made : IsPivoted d r c d') (p : IsPivot (least_of d.low) (table d) r c (table d')) where
  next : Next (least_of d.low) best (table d) (table d')
  next = record { row = r; column = c; chosen = chosen; pivot = p }

  pub walks_on : Stands lp best d'
  walks_on = record {
    steps = suc s.steps;
    on = subst (λ (low : List ℤ). OnPath lp (least_of low) best (suc s.steps) (table d')) (sym made.low) (table d, s.on, next);
  }

  pub least_stays : AreLeast lp (least_of d'.low)
  least_stays = subst (λ (low : List ℤ). AreLeast lp (least_of low)) (sym made.low) a

  some_width : (n m : ℕ) → n ≡ m + 1 → 0 < n
  some_width n m e = omega (arith, e)

  pub less_room : room (listed d'.height (λ i. cell_of d' i 0)) < room (listed d.height (λ i. cell_of d i 0))
  less_room =
      subst (λ h. room (listed h (λ i. cell_of d' i 0)) < room (listed d.height (λ i. cell_of d i 0))) (sym made.height) (room_listed d.height (λ i. cell_of d i 0) (λ i. cell_of d' i 0) (λ i l. own.narrow i 0 l (some_width d.width (length d.low) own.width)) (λ i l. own'.narrow i 0 (subst (λ h. i < h) (sym made.height) l) (some_width d'.width (length d'.low) own'.width)) (next_rises (least_of d.low) best (table d) (table d') next (path_is_good lp w (least_of d.low) a best s.steps (table d) s.on)))
