-- outcomes that are equal have equal contents
use Rattle.std.proofs.Common.{◌≡◌, Result, Ok, Err}

module _ {A E : Type 0} where
  -- two values
  pub same_Ok : (one other : A) → ◌≡◌ {A = Result A E} (Ok one) (Ok other) → one ≡ other
  same_Ok one other e = cc

  -- two faults
  pub same_Err : (one other : E) → ◌≡◌ {A = Result A E} (Err one) (Err other) → one ≡ other
  same_Err one other e = cc

  -- a value is no fault
  pub Ok-Err : (value : A) (fault : E) → ◌≡◌ {A = Result A E} (Ok value) (Err fault) → ⊥
  Ok-Err value fault e = cc
