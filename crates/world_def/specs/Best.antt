-- What the best world is, said once over any worlds: which are possible, which meet, and how good each is.
use Rattle.std.specs.Prelude.{ℤ}

module _ {World : Type 0} (IsPossible Meets : World → Type 0) where
  -- the world is possible and meets, and no possible world that meets is better
  pub record IsBest (score : World → ℤ) (better : ℤ → ℤ → Type 0) (world : World) : Type 0 where
    pub possible : IsPossible world
    pub meets : Meets world
    pub none_better : (other : World) → IsPossible other → Meets other → ¬ better (score other) (score world)

  -- no possible world meets
  abbrev pub NoneMeets : Type 0
  NoneMeets = (world : World) → IsPossible world → Meets world → ⊥
