-- What rows of cells ask is small with fixed columns put in.
use Rattle.std.proofs.Common.{◌≡◌, ◌∙◌, sym, ap, subst, refl, ℕ, suc, ◌+◌, ◌*◌, ◌<◌, ◌≤◌, ◌^◌, if◌then◌else◌, ℤ, pos, neg_ℤ, ◌+ℤ◌, ◌-ℤ◌, ◌*ℤ◌, unsigned_abs, Bool, true, false, List, [], ◌∷◌, length, get_or, All, arith}
use Rattle.std.specs.Prelude.{◌≤ℤ◌, int_lt, is_none}
use Rattle.std.specs.Ordering.{int_eq}
use Rattle.std.proofs.lemmas.Int.{ints, unsigned_abs-mul}
use Rattle.std.proofs.lemmas.List.Elements.{All-append}
use Rattle.std.proofs.Math.Nat.{mul-le-mul_left, mul-le-mul_right}
use Rattle.ip_rows.specs.declared.Bounds.{Bounds}
use Rattle.ip_rows.specs.declared.rows.IpRow.{IpRow}
use Rattle.ip_rows.specs.Programs.{fixed_sum, is_fixed}
use Rattle.ip_rows.specs.Rows.{side_at}
use Rattle.tiql_query.specs.declared.world_column.WorldColumn.{WorldColumn}
use Rattle.world_points.specs.Points.{least, greatest, side}
use Rattle.drop_rows.specs.Cells.{cell_rows, column_rows, high_row, low_row, may_drop, presence_at, rows_from, tie}
use Rattle.prov_fold.proofs.SameLemmas.{All_cons}
use Rattle.bool_encode.specs.Columns.{coef}
use Rattle.bool_encode.proofs.Each.{All_none}
use Rattle.program_rows.specs.Worlds.{HavePresences, IsRanged}

-- ---- the sides of world columns

pub either_small : (m n : ℤ) (b : Bool) (k : ℕ) → unsigned_abs m ≤ k → unsigned_abs n ≤ k → unsigned_abs (if b then n else m) ≤ k
either_small m n true k p q = q
either_small m n false k p q = p

abbrev IsLow : ℕ → Bounds → Type 0
IsLow k b = unsigned_abs b.lo ≤ k

side_low : (c : WorldColumn) (k : ℕ) → unsigned_abs c.lo ≤ k → unsigned_abs (side c).lo ≤ k
unfolding side
side_low c k small = by_test c.droppable
  where
    by_test : (b : Bool) → IsLow k (if b then record { lo = least c.lo (pos 0); hi = greatest c.hi (pos 0) } else record { lo = c.lo; hi = c.hi })
    by_test true = either_small c.lo (pos 0) (int_lt (pos 0) c.lo) k small (omega arith)
    by_test false = small

cell_low : (c : WorldColumn) → IsRanged c → unsigned_abs (side c).lo ≤ 1000000000000000
cell_low c ranged = let lo = ranged.small_lo in side_low c 1000000000000000 (omega (arith, lo))

within_one : (lo hi : ℤ) → pos 0 ≤ℤ lo → lo ≤ℤ hi → hi ≤ℤ pos 1 → unsigned_abs lo ≤ 1
within_one lo hi a b c = omega (arith, ints, a, b, c)

presence_low : (c : WorldColumn) → IsRanged c → is_none c.cell ≡ true → unsigned_abs (side c).lo ≤ 1
presence_low c ranged e = side_low c 1 (within_one c.lo c.hi (ranged.above e) ranged.order (ranged.below e))

pub neg_size : (n : ℤ) → unsigned_abs (neg_ℤ n) ≡ unsigned_abs n
neg_size n = omega (arith, ints)

-- ---- one row

module _ (sides : List Bounds) where
  abbrev pub IsLittle : IpRow → Type 0
  IsLittle row = unsigned_abs (row.least -ℤ fixed_sum sides row.terms) < 2 ^ 63

  -- what a term at a column comes to, if that is fixed
  abbrev part : ℤ → ℕ → ℤ
  part factor c = if is_fixed sides c then factor *ℤ (side_at sides c).lo else pos 0

  either_part : (b : Bool) (f l : ℤ) (m n : ℕ) → unsigned_abs f ≤ m → unsigned_abs l ≤ n → unsigned_abs (if b then f *ℤ l else pos 0) ≤ m * n
  either_part true f l m n p q =
      let one = mul-le-mul_left (unsigned_abs f) q in
      let two = mul-le-mul_right n p in
      let is = unsigned_abs-mul f l in
      omega (arith, one, two, is)
  either_part false f l m n p q = omega arith

  part_small : (f : ℤ) (c m n : ℕ) → unsigned_abs f ≤ m → unsigned_abs (side_at sides c).lo ≤ n → unsigned_abs (part f c) ≤ m * n
  part_small f c m n p q = either_part (is_fixed sides c) f (side_at sides c).lo m n p q

  one_little : (a : ℤ) → unsigned_abs a ≤ 1000000000000000 → unsigned_abs (pos 0 -ℤ (a +ℤ pos 0)) < 2 ^ 63
  one_little a p = omega (arith, ints, p)

  two_little : (a b : ℤ) → unsigned_abs a ≤ 1000000000000000 → unsigned_abs b ≤ 1000000000000000 → unsigned_abs (pos 0 -ℤ (a +ℤ (b +ℤ pos 0))) < 2 ^ 63
  two_little a b p q = omega (arith, ints, p, q)

  tie_little : (factor : ℤ) (presence : ℕ) (sign : ℤ) (cell : ℕ) → unsigned_abs factor ≤ 1000000000000000 → unsigned_abs (side_at sides presence).lo ≤ 1 → unsigned_abs sign ≤ 1 → unsigned_abs (side_at sides cell).lo ≤ 1000000000000000
      → IsLittle (tie factor presence sign cell)
  unfolding tie
  tie_little factor presence sign cell f p s q = by_test (int_eq factor (pos 0))
    where
      last : unsigned_abs (part sign cell) ≤ 1000000000000000
      last = let h = part_small sign cell 1 1000000000000000 s q in omega (arith, h)

      first : unsigned_abs (part factor presence) ≤ 1000000000000000
      first = let h = part_small factor presence 1000000000000000 1 f p in omega (arith, h)

      by_test : (b : Bool) → IsLittle (record { terms = (if b then coef sign cell ∷ [] else coef factor presence ∷ coef sign cell ∷ []); least = pos 0 })
      by_test true = one_little (part sign cell) last
      by_test false = two_little (part factor presence) (part sign cell) first last

  -- ---- the rows of a column

  column_little : (presence at : ℕ) (c : WorldColumn) → IsRanged c → side_at sides at ≡ side c → (may_drop c ≡ true → unsigned_abs (side_at sides presence).lo ≤ 1) → All IsLittle (column_rows presence at c)
  unfolding column_rows
  column_little presence at c ranged is led = by_test (may_drop c) refl
    where
      cell : unsigned_abs (side_at sides at).lo ≤ 1000000000000000
      cell = subst (λ (b : Bounds). unsigned_abs b.lo ≤ 1000000000000000) (sym is) (cell_low c ranged)

      by_test : (b : Bool) → may_drop c ≡ b → All IsLittle (if b then low_row presence at c.lo ∷ high_row presence at c.hi ∷ [] else [])
      by_test false e = All_none IsLittle
      by_test true e =
          let same = neg_size c.lo in
          let lo = ranged.small_lo in
          let hi = ranged.small_hi in
          All_cons IsLittle (low_row presence at c.lo) (high_row presence at c.hi ∷ []) (tie_little (neg_ℤ c.lo) presence (pos 1) at (omega (arith, same, lo)) (led e) (omega arith) cell)
          (All_cons IsLittle (high_row presence at c.hi) [] (tie_little c.hi presence (neg_ℤ (pos 1)) at (omega (arith, hi)) (led e) (omega arith) cell) (All_none IsLittle))

  -- ---- all rows

  -- the columns from this place on are those of the world
  abbrev Begin : ℕ → List WorldColumn → Type 0
  Begin at worlds = (i : ℕ) (d : WorldColumn) → i < length worlds → side_at sides (at + i) ≡ side (get_or worlds i d)

  -- where there was a presence, its number is this
  abbrev Led : Bool → ℕ → Type 0
  Led some presence = some ≡ true → unsigned_abs (side_at sides presence).lo ≤ 1

  at_first : (at : ℕ) (c : WorldColumn) (worlds : List WorldColumn) → Begin at (c ∷ worlds) → side_at sides at ≡ side c
  at_first at c worlds are = let same : at ≡ at + 0 = omega arith in ap (side_at sides) same ∙ are 0 c (omega arith)

  at_rest : (at : ℕ) (c : WorldColumn) (worlds : List WorldColumn) → Begin at (c ∷ worlds) → Begin (at + 1) worlds
  at_rest at c worlds are i d lt = let same : at + 1 + i ≡ at + suc i = omega arith in ap (side_at sides) same ∙ are (suc i) d (omega (arith, lt))

  led_next : (some : Bool) (presence at : ℕ) (c : WorldColumn) → IsRanged c → side_at sides at ≡ side c → Led some presence → Led (if is_none c.cell then true else some) (presence_at presence at c)
  led_next some presence at c ranged is led = by_test (is_none c.cell) refl
    where
      by_test : (b : Bool) → is_none c.cell ≡ b → Led (if b then true else some) (if b then at else presence)
      by_test true e = λ h. subst (λ (b : Bounds). unsigned_abs b.lo ≤ 1) (sym is) (presence_low c ranged e)
      by_test false e = led

  rows_little : (some : Bool) (presence at : ℕ) (worlds : List WorldColumn) → All IsRanged worlds → HavePresences some worlds → Led some presence → Begin at worlds → All IsLittle (rows_from presence at worlds)
  unfolding rows_from
  rows_little some presence at [] ranged have led are = All_none IsLittle
  rows_little some presence at (c ∷ worlds) ranged have led are =
      let first = at_first at c worlds are in
      let good = ranged 0 c (omega arith) in
      All-append IsLittle (column_rows presence at c) (rows_from (presence_at presence at c) (at + 1) worlds) (column_little presence at c good first (λ drop. led (have.0 drop)))
      (rows_little (if is_none c.cell then true else some) (presence_at presence at c) (at + 1) worlds (λ j d lt. ranged (suc j) d (omega (arith, lt))) have.1 (led_next some presence at c good first led) (at_rest at c worlds are))

  -- where the first columns are the world's, rows of cells ask little
  pub cells_little : (worlds : List WorldColumn) → All IsRanged worlds → HavePresences false worlds → ((i : ℕ) (d : WorldColumn) → i < length worlds → side_at sides i ≡ side (get_or worlds i d)) → All IsLittle (cell_rows worlds)
  cells_little worlds ranged have are = rows_little false 0 0 worlds ranged have (λ no. cc) (λ i d lt. let same : 0 + i ≡ i = omega arith in ap (side_at sides) same ∙ are i d lt)
