-- What a dictionary is after a pivot, whether it was made or refused.
use Rattle.std.proofs.Common.{◌≡◌, ◌≢◌, ℕ, ◌<◌, List, ◌++◌, length, take, drop, ℤ, pos, Result, Ok, Err, sym, ◌∙◌, subst, arith}
use Rattle.std.specs.Prelude.{◌↔◌, OnOk, OnErr}
use Rattle.std.proofs.lemmas.List.{take-append-le, take_all}
use Rattle.rat128.specs.Fractions.{Fraction}
use Rattle.rat128.specs.Operations.{IsNarrow}
use Rattle.rat128.specs.Rationals.{ℚ}
use Rattle.dict_pivot.specs.Tables.{IsPivot, Solves}
use Rattle.dict_pivot.specs.Dictionaries.{Dictionary, cell_of, least_number, least_of, table, seen, IsDictionary, IsPivoted}
use Rattle.dict_pivot.proofs.Values.{pivot_is, solutions_stay, dictionary_stays}

-- a list that takes the place of one of its length
pub stored : {A : Type 0} (n : ℕ) (new old : List A) → length new ≡ n → take n (new ++ drop (length new) old) ≡ new
stored n new old e =
    take-append-le n new (drop (length new) old) (omega (arith, e)) ∙ take_all n new (omega (arith, e))

pub seen_same : (h w : ℕ) (cells cells' : List Fraction) (free free' : List ℕ) (low low' : List ℤ) → cells ≡ cells' → free ≡ free' → low ≡ low' → seen h w cells free low ≡ seen h w cells' free' low'
seen_same h w cells cells' free free' low low' e f g = (λ i. seen h w (e i) (f i) (g i))

pub on_err : {A E : Type 0} {P Q R : Type 0} (result : Result A E) → (P → Q → R) → OnErr result P → OnErr result Q → OnErr result R
on_err (Ok a) f p q = tt
on_err (Err e) f p q = f p q

module _ {A E : Type 0} (result : Result A E) (d d' : Dictionary) (r c : ℕ) (own : IsDictionary d) (rl : r < d.height) (cs : 0 < c) (cw : c < d.width) (some : (cell_of d r c).num ≢ pos 0) (done : OnOk result (IsPivoted d r c d')) where
  pub pivot_after : OnOk result (IsPivot (least_of d.low) (table d) r c (table d'))
  pivot_after = by_result result done
    where
      by_result : (result : Result A E) → OnOk result (IsPivoted d r c d') → OnOk result (IsPivot (least_of d.low) (table d) r c (table d'))
      by_result (Ok a) p = pivot_is d d' r c own rl cs cw some p
      by_result (Err e) p = tt

  pub solutions_after : OnOk result ((q : ℕ → ℚ) → Solves (least_of d.low) (table d) q ↔ Solves (least_of d.low) (table d') q)
  solutions_after = by_result result done
    where
      by_result : (result : Result A E) → OnOk result (IsPivoted d r c d') → OnOk result ((q : ℕ → ℚ) → Solves (least_of d.low) (table d) q ↔ Solves (least_of d.low) (table d') q)
      by_result (Ok a) p = λ q. solutions_stay d d' r c own rl cs cw some p q
      by_result (Err e) p = tt

  pub dictionary_after : OnErr result (d' ≡ d) → length d'.cells ≡ length d.cells → length d'.free ≡ length d.free → IsNarrow (least_number d.low r) → IsDictionary d'
  dictionary_after stays size free n = by_result result done stays
    where
      by_result : (result : Result A E) → OnOk result (IsPivoted d r c d') → OnErr result (d' ≡ d) → IsDictionary d'
      by_result (Ok a) p e = dictionary_stays d d' r c own rl cs cw some p size free n
      by_result (Err f) p e = subst IsDictionary (sym e) own
