-- The rows in the one list of a dictionary's cells, and what is known of them after one was written.
use Rattle.std.proofs.Common.{◌≡◌, ◌≢◌, ◌⊎◌, inl, inr, ℕ, ◌+◌, ◌-◌, ◌*◌, ◌<◌, ◌≤◌, List, length, take, drop, min, pos, Some, sym, ◌∙◌, ap, ap₂, subst, arith, mul-le-mul_right}
use Rattle.std.specs.Prelude.{IsSome}
use Rattle.std.proofs.lemmas.List.{length-take, length-drop, get_or-take, get_or-drop, get_or_past}
use Rattle.std.proofs.lemmas.Slice.{between_is, between-put_mid, take-put_mid_below, drop-put_mid}
use Rattle.std.proofs.lemmas.Bool.{cases_lt}
use borrow.Rule.Slice.PartMut.{put_mid}
use Rattle.rat128.specs.Fractions.{Fraction, whole_fraction}
use Rattle.dict_pivot.specs.Dictionaries.{number, line}
use Rattle.dict_pivot.specs.Steps.{new_at, new_cell}
use Rattle.dict_pivot.proofs.PivotLaws.{same_or_not}

pub line_ends : (i w h : ℕ) → i < h → i * w + w ≤ h * w
line_ends i w h l =
    let k : (i + 1) * w ≤ h * w = mul-le-mul_right w (next i h l) in
    omega (arith, k)
  where
    next : (x y : ℕ) → x < y → x + 1 ≤ y
    next x y h = omega arith

pub length-line : (cells : List Fraction) (w i h : ℕ) → i < h → length cells ≡ h * w → length (line cells w i) ≡ w
length-line cells w i h l e =
    let k = line_ends i w h l in
    let one = length-take (i * w + w - i * w) (drop (i * w) cells) in
    let two = length-drop (i * w) cells in
    one ∙ ends (i * w) w (h * w) (length cells) (length (drop (i * w) cells)) k e two
  where
    ends : (s w n m d : ℕ) → s + w ≤ n → m ≡ n → d ≡ m - s → min (s + w - s) d ≡ w
    ends s w n m d k e two = omega (arith, k, e, two)

-- the first row is the front of the list
pub line_first : (cells : List Fraction) (w : ℕ) → line cells w 0 ≡ take w cells
line_first cells w = ap₂ (λ n s. take n (drop s cells)) (wide w) (none w)
  where
    wide : (w : ℕ) → 0 * w + w - 0 * w ≡ w
    wide w = omega arith

    none : (w : ℕ) → 0 * w ≡ 0
    none w = omega arith

-- ---- the rows after row i was written
pub line_here : (cells ys : List Fraction) (w i h : ℕ) → i < h → length cells ≡ h * w → length ys ≡ w → line (put_mid (i * w) (i * w + w - i * w) cells ys) w i ≡ ys
line_here cells ys w i h l e long =
    let k = line_ends i w h l in
    between-put_mid (i * w) (i * w + w - i * w) cells ys (i * w + w) (omega (arith, k, e)) (omega (arith, long))

line_below : (cells ys : List Fraction) (w i k h : ℕ) → i < h → length cells ≡ h * w → k < i → line (put_mid (i * w) (i * w + w - i * w) cells ys) w k ≡ line cells w k
line_below cells ys w i k h l e below =
    let m = line_ends k w i below in
    let n = line_ends i w h l in
    between_is (put_mid (i * w) (i * w + w - i * w) cells ys) (k * w) (k * w + w) ∙ ap (λ xs. drop (k * w) xs) (take-put_mid_below (i * w) (i * w + w - i * w) cells ys (k * w + w) m (omega (arith, n, e))) ∙ sym (between_is cells (k * w) (k * w + w))

line_above : (cells ys : List Fraction) (w i k h : ℕ) → i < h → length cells ≡ h * w → length ys ≡ w → i < k → line (put_mid (i * w) (i * w + w - i * w) cells ys) w k ≡ line cells w k
line_above cells ys w i k h l e long above =
    let m = line_ends i w k above in
    let n = line_ends i w h l in
    ap (λ xs. take (k * w + w - k * w) xs) (drop-put_mid (i * w) (i * w + w - i * w) cells ys (k * w) (omega (arith, m)) (omega (arith, n, e)) (omega (arith, long)))

pub line_other : (cells new ys : List Fraction) (w i k h : ℕ) → new ≡ put_mid (i * w) (i * w + w - i * w) cells ys → i < h → length cells ≡ h * w → length ys ≡ w → k ≢ i → line new w k ≡ line cells w k
line_other cells new ys w i k h is l e long ne = ap (λ xs. line xs w k) is ∙ pick (cases_lt k i)
  where
    pick : (k < i) ⊎ (i ≤ k) → line (put_mid (i * w) (i * w + w - i * w) cells ys) w k ≡ line cells w k
    pick (inl below) = line_below cells ys w i k h l e below
    pick (inr le) = line_above cells ys w i k h l e long (omega (arith, ne))

pub rows_done : (old cells new ys shares : List Fraction) (w c i h row : ℕ) → new ≡ put_mid (i * w) (i * w + w - i * w) cells ys → i < h → length cells ≡ h * w → length ys ≡ w → line cells w i ≡ line old w i → ((j : ℕ) → j < length (line cells w i) → new_at (line cells w i) c shares j ≡ Some (number ys j)) → ((k j : ℕ) → k < i → k ≢ row → j < w → new_cell old w c shares k j ≡ Some (number (line cells w k) j)) → (k j : ℕ) → k < i + 1 → k ≢ row → j < w → new_cell old w c shares k j ≡ Some (number (line new w k) j)
rows_done old cells new ys shares w c i h row is l e long same fresh done k j below ne m = pick (same_or_not k i)
  where
    pick : (k ≡ i) ⊎ (k ≢ i) → new_at (line old w k) c shares j ≡ Some (number (line new w k) j)
    pick (inl at) = subst (λ k. new_at (line old w k) c shares j ≡ Some (number (line new w k) j)) (sym at) (ap (λ xs. new_at xs c shares j) (sym same) ∙ fresh j (subst (λ n. j < n) (sym (length-line cells w i h l e)) m) ∙ ap (λ xs. Some (number xs j)) (sym (ap (λ xs. line xs w i) is ∙ line_here cells ys w i h l e long)))
    pick (inr other) = done k j (omega (arith, other, below)) ne m ∙ ap (λ xs. Some (number xs j)) (sym (line_other cells new ys w i k h is l e long other))

-- what holds of each number of a row of the old cells holds of that row as it still stands
pub row_same : (P : List Fraction → ℕ → Type 0) (old cells : List Fraction) (w i h : ℕ) → i < h → length cells ≡ h * w → line cells w i ≡ line old w i → ((j : ℕ) → j < w → P (line old w i) j) → (j : ℕ) → j < length (line cells w i) → P (line cells w i) j
row_same P old cells w i h l e same fits j m =
    subst (λ xs. P xs j) (sym same) (fits j (subst (λ n. j < n) (length-line cells w i h l e) m))

-- ---- the first wide cell
pub rows_fit : (cells shares : List Fraction) (w h c row i : ℕ) → i < h → ((k l : ℕ) → k < i → k ≢ row → l < w → IsSome (new_cell cells w c shares k l)) → (i ≢ row → (j : ℕ) → j < w → IsSome (new_at (line cells w i) c shares j)) → (k j : ℕ) → k < i + 1 → k ≢ row → j < w → IsSome (new_cell cells w c shares k j)
rows_fit cells shares w h c row i l above fits k j below ne m = pick (same_or_not k i)
  where
    pick : (k ≡ i) ⊎ (k ≢ i) → IsSome (new_at (line cells w k) c shares j)
    pick (inl at) = subst (λ k. IsSome (new_at (line cells w k) c shares j)) (sym at) (fits (λ f. ne (at ∙ f)) j m)
    pick (inr other) = above k j (omega (arith, other, below)) ne m

-- what holds of each row that was written holds of them with one more
pub lines_done : (P : ℕ → List Fraction → Type 0) (cells new ys : List Fraction) (w i h : ℕ) → new ≡ put_mid (i * w) (i * w + w - i * w) cells ys → i < h → length cells ≡ h * w → length ys ≡ w → P i ys → ((k : ℕ) → k < i → P k (line cells w k)) → (k : ℕ) → k < i + 1 → P k (line new w k)
lines_done P cells new ys w i h is l e long fresh done k below = pick (same_or_not k i)
  where
    pick : (k ≡ i) ⊎ (k ≢ i) → P k (line new w k)
    pick (inl at) = subst (λ k. P k (line new w k)) (sym at) (subst (P i) (sym (ap (λ xs. line xs w i) is ∙ line_here cells ys w i h l e long)) fresh)
    pick (inr other) = subst (P k) (sym (line_other cells new ys w i k h is l e long other)) (done k (omega (arith, other, below)))

-- a row of zeros is one
pub zero_line : (cells : List Fraction) (w i : ℕ) (z : Fraction) → z ≡ whole_fraction (pos 0) → ((j : ℕ) → number cells j ≡ z) → (j : ℕ) → number (line cells w i) j ≡ z
zero_line cells w i z is zeros j = pick (cases_lt j (i * w + w - i * w))
  where
    pick : (j < i * w + w - i * w) ⊎ (i * w + w - i * w ≤ j) → number (line cells w i) j ≡ z
    pick (inl l) = get_or-take (i * w + w - i * w) (drop (i * w) cells) j (whole_fraction (pos 0)) l ∙ get_or-drop (i * w) cells j (whole_fraction (pos 0)) ∙ zeros (i * w + j)
    pick (inr ge) = get_or_past (take (i * w + w - i * w) (drop (i * w) cells)) j (whole_fraction (pos 0)) (short (length (take (i * w + w - i * w) (drop (i * w) cells))) (i * w + w - i * w) j (length (drop (i * w) cells)) (length-take (i * w + w - i * w) (drop (i * w) cells)) ge) ∙ sym is
      where
        short : (n k m d : ℕ) → n ≡ min k d → k ≤ m → n ≤ m
        short n k m d e g = omega (arith, e, g)
