-- what the rows of the columns ask of their numbers
use Rattle.std.proofs.Common.{◌≡◌, ℕ, suc, ℤ, ◌≤ℤ◌, ◌*ℤ◌, true, if◌then◌else◌, List, [], ◌∷◌, ◌++◌, length, arith}
use Rattle.std.specs.Prelude.{is_none}
use Rattle.tiql_query.specs.declared.world_column.WorldColumn.{WorldColumn}
use Rattle.drop_rows.specs.Cells.{may_drop}

-- a number between the bounds of its column
abbrev pub IsBetween : WorldColumn → ℤ → Type 0
IsBetween c n = (c.lo ≤ℤ n) × (n ≤ℤ c.hi)

-- numbers between the bounds of their columns
abbrev pub AreBetween : List WorldColumn → List ℤ → Type 0
AreBetween [] [] = Unit {0}
AreBetween [] (n ∷ ns) = ⊥
AreBetween (c ∷ columns) [] = ⊥
AreBetween (c ∷ columns) (n ∷ ns) = IsBetween c n × AreBetween columns ns

-- a cell of a row that may be left out is between its bounds times the presence
abbrev pub IsTied : ℤ → WorldColumn → ℤ → Type 0
IsTied p c n = may_drop c ≡ true → ((c.lo *ℤ p) ≤ℤ n) × (n ≤ℤ (c.hi *ℤ p))

-- the number of the last presence
abbrev pub presence_now : ℤ → WorldColumn → ℤ → ℤ
presence_now p c n = if is_none c.cell then n else p

-- numbers of columns, where the last presence before them has the number that comes first
abbrev pub AreTied : ℤ → List WorldColumn → List ℤ → Type 0
AreTied p [] ns = Unit {0}
AreTied p (c ∷ columns) [] = Unit {0}
AreTied p (c ∷ columns) (n ∷ ns) = IsTied p c n × AreTied (presence_now p c n) columns ns

no_longer : (m n : ℕ) → suc m ≡ suc n → m ≡ n
no_longer m n e = omega (arith, e)

-- the numbers of some columns, and of those behind them
pub tied_join : (columns more : List WorldColumn) (ms ks : List ℤ) (q : ℤ) → length ms ≡ length columns → AreTied q columns ms → ((p : ℤ) → AreTied p more ks) → AreTied q (columns ++ more) (ms ++ ks)
tied_join [] more [] ks q long tied later = later q
tied_join [] more (m ∷ ms) ks q long tied later = absurd (omega (arith, long))
tied_join (c ∷ columns) more [] ks q long tied later = absurd (omega (arith, long))
tied_join (c ∷ columns) more (m ∷ ms) ks q long tied later = (tied.0, tied_join columns more ms ks (presence_now q c m) (no_longer (length ms) (length columns) long) tied.1 later)

pub tied_first : (columns more : List WorldColumn) (ms ks : List ℤ) (q : ℤ) → AreTied q (columns ++ more) (ms ++ ks) → AreTied q columns ms
tied_first [] more ms ks q tied = tt
tied_first (c ∷ columns) more [] ks q tied = tt
tied_first (c ∷ columns) more (m ∷ ms) ks q tied = (tied.0, tied_first columns more ms ks (presence_now q c m) tied.1)

pub tied_rest : (columns more : List WorldColumn) (ms ks : List ℤ) (q : ℤ) → length ms ≡ length columns → AreTied q (columns ++ more) (ms ++ ks) → (p : ℤ) × AreTied p more ks
tied_rest [] more [] ks q long tied = (q, tied)
tied_rest [] more (m ∷ ms) ks q long tied = absurd (omega (arith, long))
tied_rest (c ∷ columns) more [] ks q long tied = absurd (omega (arith, long))
tied_rest (c ∷ columns) more (m ∷ ms) ks q long tied = tied_rest columns more ms ks (presence_now q c m) (no_longer (length ms) (length columns) long) tied.1
