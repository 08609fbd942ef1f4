-- How many columns there are.
use Rattle.std.proofs.Common.{◌≡◌, ◌∙◌, sym, ap, ℕ, ◌+◌, ◌-◌, ◌<◌, ◌≤◌, if◌then◌else◌, Bool, true, false, List, [], ◌++◌, length, map, nat_le, Ok, Err, arith}
use Rattle.std.specs.List.{flat_map, range_with_len}
use Rattle.std.proofs.lemmas.Bool.{le-leb, lt-leb}
use Rattle.std.proofs.lemmas.List.{append-nil, length-append}
use Rattle.std.proofs.lemmas.List.FromFn.{length-map-range_with_len}
use Rattle.ip_rows.specs.declared.Bounds.{Bounds}
use Rattle.ip_rows.specs.declared.program.IpColumn.{IpColumn}
use Rattle.prov_arena.specs.declared.part.Pair.{Pair}
use Rattle.prov_arena.specs.Formulas.{MinNode}
use Rattle.prov_fold.specs.Graphs.{Graph, node, size}
use Rattle.bool_encode.specs.declared.stand.Stand.{Stand}
use Rattle.bool_encode.specs.declared.stand.Stand.TheVariants as stand
use Rattle.used_columns.specs.declared.fault.ColumnsFault.TheVariants as fault
use Rattle.used_columns.specs.declared.layout.Layout.{Layout}
use Rattle.used_columns.specs.Used.{mark_at}
use Rattle.used_columns.specs.Columns.{own_stands, marked_stands, stands_for, column_for, laid}
use Rattle.used_columns.proofs.RangeLemmas.{range_more, from, count_more, list_more}

pub min_count : (z : ℕ) (pairs : List Pair) → length (own_stands z (MinNode pairs)) ≡ 1 + length pairs
min_count z pairs =
    let many : length (map (λ pair. stand.Selector z pair) (range_with_len 0 (length pairs))) ≡ length pairs = length-map-range_with_len (λ pair. stand.Selector z pair) 0 (length pairs) in
    omega (arith, many)

module _ (g : Graph) (worlds : ℕ) (used : List Bool) where
  abbrev own : ℕ → List Stand
  own = marked_stands g used

  own_marked : (z : ℕ) → mark_at used z ≡ true → own z ≡ own_stands z (node g z)
  own_marked z e = ap (λ b. if b then own_stands z (node g z) else []) e

  own_unmarked : (z : ℕ) → mark_at used z ≡ false → own z ≡ []
  own_unmarked z e = ap (λ b. if b then own_stands z (node g z) else []) e

  from_all : from own (size g) 0 ≡ flat_map own (range_with_len 0 (size g))
  from_all = let e : size g - 0 ≡ size g = omega arith in ap (λ n. flat_map own (range_with_len 0 n)) e

  pub count_begin : worlds + length (from own (size g) 0) ≡ length (stands_for g worlds used)
  unfolding stands_for
  count_begin =
      let first : length (map (λ number. stand.World number) (range_with_len 0 worlds)) ≡ worlds = length-map-range_with_len (λ number. stand.World number) 0 worlds in
      let both : length (stands_for g worlds used) ≡ length (map (λ number. stand.World number) (range_with_len 0 worlds)) + length (flat_map own (range_with_len 0 (size g)))
      = length-append (map (λ number. stand.World number) (range_with_len 0 worlds)) (flat_map own (range_with_len 0 (size g))) in
      let same : length (from own (size g) 0) ≡ length (flat_map own (range_with_len 0 (size g))) = ap (λ (xs : List Stand). length xs) from_all in
      omega (arith, first, both, same)

  pub list_begin : (made : List Stand) → made ≡ map (λ number. stand.World number) (range_with_len 0 worlds) → made ++ from own (size g) 0 ≡ stands_for g worlds used
  unfolding stands_for
  list_begin made e = (λ i. e i ++ from_all i)

  module _ (z : ℕ) (lt : z < size g) where
    pub count_marked : (count next total : ℕ) → mark_at used z ≡ true → next ≡ count + length (own_stands z (node g z)) → count + length (from own (size g) z) ≡ total → next + length (from own (size g) (z + 1)) ≡ total
    count_marked count next total here is e = count_more own (size g) z count next total lt (is ∙ ap (λ xs. count + length xs) (sym (own_marked z here))) e

    pub count_unmarked : (count total : ℕ) → mark_at used z ≡ false → count + length (from own (size g) z) ≡ total → count + length (from own (size g) (z + 1)) ≡ total
    count_unmarked count total none e =
        let empty : length (own z) ≡ 0 = ap (λ (xs : List Stand). length xs) (own_unmarked z none) in
        count_more own (size g) z count count total lt (omega (arith, empty)) e

    pub list_marked : (made next all : List Stand) → mark_at used z ≡ true → next ≡ made ++ own_stands z (node g z) → made ++ from own (size g) z ≡ all → next ++ from own (size g) (z + 1) ≡ all
    list_marked made next all here is e = list_more own (size g) z made next all lt (is ∙ ap (λ (xs : List Stand). made ++ xs) (sym (own_marked z here))) e

    pub list_unmarked : (made all : List Stand) → mark_at used z ≡ false → made ++ from own (size g) z ≡ all → made ++ from own (size g) (z + 1) ≡ all
    list_unmarked made all none e = list_more own (size g) z made made all lt (sym (append-nil made) ∙ ap (λ (xs : List Stand). made ++ xs) (sym (own_unmarked z none))) e

    -- a marked node has no more columns than there are
    pub own_few : (made : List Stand) (most : ℕ) → mark_at used z ≡ true → made ++ from own (size g) z ≡ stands_for g worlds used → length (stands_for g worlds used) ≤ most → length (own_stands z (node g z)) ≤ most
    own_few made most here e few =
        let all : length (made ++ from own (size g) z) ≡ length made + length (from own (size g) z) = length-append made (from own (size g) z) in
        let rest : length (from own (size g) z) ≡ length (own z ++ from own (size g) (z + 1)) = ap (λ xs. length (flat_map own xs)) (range_more z (size g) lt) in
        let parts : length (own z ++ from own (size g) (z + 1)) ≡ length (own z) + length (from own (size g) (z + 1)) = length-append (own z) (from own (size g) (z + 1)) in
        let mine : length (own z) ≡ length (own_stands z (node g z)) = ap (λ (xs : List Stand). length xs) (own_marked z here) in
        let whole : length (made ++ from own (size g) z) ≡ length (stands_for g worlds used) = ap (λ (xs : List Stand). length xs) e in
        omega (arith, all, rest, parts, mine, whole, few)

  -- the world has no more columns than there are
  pub worlds_few : (count : ℕ) → count ≡ length (stands_for g worlds used) → worlds ≤ count
  worlds_few count is = let all = count_begin in omega (arith, is, all)

-- neither has a Min more pairs
pub pairs_few : (g : Graph) (z : ℕ) (pairs : List Pair) (most : ℕ) → MinNode pairs ≡ node g z → length (own_stands z (node g z)) ≤ most → length pairs ≤ most
pairs_few g z pairs most is few =
    let mine : length (own_stands z (MinNode pairs)) ≡ length (own_stands z (node g z)) = ap (λ m. length (own_stands z m)) is in
    let many = min_count z pairs in
    omega (arith, mine, many, few)

-- ---- the outcome

module _ (g : Graph) (sides : List Bounds) (used : List Bool) where
  pub laid_many : (count : ℕ) → count ≡ length (stands_for g (length sides) used) → 100000 < count → laid g sides used ≡ Err (fault.TooManyColumns count)
  unfolding laid
  laid_many count is many =
      let no : nat_le (length (stands_for g (length sides) used)) 100000 ≡ false = lt-leb _ _ (omega (arith, is, many)) in
      ap (λ b. if b then Ok (laid_of (stands_for g (length sides) used)) else Err (fault.TooManyColumns (length (stands_for g (length sides) used)))) no ∙ ap (λ n. Err (fault.TooManyColumns n)) (sym is)
    where
      laid_of : List Stand → Layout
      laid_of stands = record { map = record { stands = stands }; columns = map (column_for g sides) stands }

  pub laid_few : (count : ℕ) (stands slice : List Stand) (columns : List IpColumn) → count ≡ length (stands_for g (length sides) used) → count ≤ 100000 → stands ≡ stands_for g (length sides) used → slice ≡ stands
      → columns ≡ map (column_for g sides) slice → laid g sides used ≡ Ok (record { map = record { stands = stands }; columns = columns })
  unfolding laid
  laid_few count stands slice columns is few made same cols =
      let yes_few : nat_le (length (stands_for g (length sides) used)) 100000 ≡ true = le-leb _ _ (omega (arith, is, few)) in
      ap (λ b. if b then Ok (laid_of (stands_for g (length sides) used)) else Err (fault.TooManyColumns (length (stands_for g (length sides) used)))) yes_few
      ∙ (λ i. Ok (record { map = record { stands = sym made i }; columns = sym (cols ∙ ap (map (column_for g sides)) (same ∙ made)) i }))
    where
      laid_of : List Stand → Layout
      laid_of stands = record { map = record { stands = stands }; columns = map (column_for g sides) stands }
