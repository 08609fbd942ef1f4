-- how deep the parts of a list lie
use Rattle.std.proofs.Common.{ℕ, ◌≤◌, max, List, [], ◌∷◌, map, arith}
use Rattle.std.proofs.Math.Nat.{le-max_left, le-max_right, max-le}
use Rattle.std.specs.List.{fold}
use Rattle.tiql_tree.specs.Nesting.{deepest}
use Rattle.tiql_read.proofs.Many.{many_ok}

fold_base : {A : Type 0} (f : A → ℕ) (xs : List A) (a n : ℕ) → fold max a (map f xs) ≤ n → a ≤ n
fold_base f [] a n le = le
fold_base f (x ∷ xs) a n le = let k = fold_base f xs (max a (f x)) n le in omega (arith, k, le-max_left a (f x))

fold_all : {A : Type 0} (f : A → ℕ) (xs : List A) (a n : ℕ) → fold max a (map f xs) ≤ n → many_ok (λ x. f x ≤ n) xs
fold_all f [] a n le = tt
fold_all f (x ∷ xs) a n le = let k = fold_base f xs (max a (f x)) n le in (omega (arith, k, le-max_right a (f x)), fold_all f xs (max a (f x)) n le)

fold_le : {A : Type 0} (f : A → ℕ) (xs : List A) (a n : ℕ) → a ≤ n → many_ok (λ x. f x ≤ n) xs → fold max a (map f xs) ≤ n
fold_le f [] a n le all = le
fold_le f (x ∷ xs) a n le all = fold_le f xs (max a (f x)) n (max-le le all.0) all.1

pub deepest_all : {A : Type 0} (f : A → ℕ) (xs : List A) (n : ℕ) → deepest f xs ≤ n → many_ok (λ x. f x ≤ n) xs
deepest_all f xs n le = fold_all f xs 0 n le

pub deepest_le : {A : Type 0} (f : A → ℕ) (xs : List A) (n : ℕ) → many_ok (λ x. f x ≤ n) xs → deepest f xs ≤ n
deepest_le f xs n all = fold_le f xs 0 n (omega arith) all
