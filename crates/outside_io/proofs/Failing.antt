-- a call that is not to fail
use Rattle.std.proofs.Common.{◌≡◌, ◌↔◌, ℕ, ◌+◌, ◌-◌, ◌^◌, min, Bool, false, List, ap, arith}
use Rattle.std.specs.Prelude.{◌==◌, Some, Result, Ok, Err, IfErr, IsErrOf, IsTrue}
use Rattle.std.specs.List.{list_any}
use Rattle.outside_io.specs.Shelves.{Failures, FailsAsTold, NextFails}
use Rattle.outside_io.specs.declared.shelf.ShelfFault.{ShelfFault}
use Rattle.outside_io.specs.declared.shelf.ShelfFault.TheVariants.{Absent, Failed, Memory}

-- it answers with bytes or want of memory
pub not_due_found : {T : Type 0} (r : Result T ShelfFault) (due : Bool) → due ≡ false → IfErr r (λ fault. fault ≡ Memory) → IsErrOf r Failed ↔ IsTrue due
not_due_found (Ok x) due is only = (λ h. cc, λ h. cc)
not_due_found (Err e) due is only = (λ h. cc, λ h. cc)

-- it answers that the name is absent
pub not_due_absent : {T : Type 0} (due : Bool) → due ≡ false → IsErrOf {T = T} (Err Absent) Failed ↔ IsTrue due
not_due_absent due is = (λ h. cc, λ h. cc)

-- once a call more was made, the calls that are to fail are one nearer
pub one_nearer : (failing : List ℕ) (calls calls' : ℕ) → calls' ≡ min (calls + 1) (2 ^ 64 - 1) →
    ◌≡◌ {A = Failures} (Some (λ n. list_any (λ call. call == min (calls' + n) (2 ^ 64 - 1)) failing)) (Some (λ n. list_any (λ call. call == min (calls + (n + 1)) (2 ^ 64 - 1)) failing))
one_nearer failing calls calls' is = ap (λ (due : ℕ → Bool). Some due) (λ i n. same n i)
  where
    same : (n : ℕ) → list_any (λ call. call == min (calls' + n) (2 ^ 64 - 1)) failing ≡ list_any (λ call. call == min (calls + (n + 1)) (2 ^ 64 - 1)) failing
    same n = let at : min (calls' + n) (2 ^ 64 - 1) ≡ min (calls + (n + 1)) (2 ^ 64 - 1) = omega (arith, is) in ap (λ (m : ℕ). list_any (λ call. call == m) failing) at

-- one that is not to fail answers with bytes or want of memory
pub told_found : {T : Type 0} (fails : Failures) (r : Result T ShelfFault) → NextFails fails false → IfErr r (λ fault. fault ≡ Memory) → FailsAsTold fails r
told_found fails (Ok x) next only = next
told_found fails (Err Absent) next only = next
told_found fails (Err Failed) next only = absurd cc
told_found fails (Err Memory) next only = tt
