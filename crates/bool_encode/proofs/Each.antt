-- What holds of each element of a list.
use Rattle.std.proofs.Common.{List, [], ◌∷◌, map, All, arith}
use Rattle.prov_fold.proofs.SameLemmas.{All_head, All_tail, All_cons}

pub All_none : {A : Type 0} (P : A → Type 0) → All P []
All_none P = λ k d lt. absurd (omega arith)

pub All_change : {A : Type 0} (P Q : A → Type 0) (xs : List A) → ((x : A) → P x → Q x) → All P xs → All Q xs
All_change P Q [] g h = All_none Q
All_change P Q (x ∷ xs) g h = All_cons Q x xs (g x (All_head P x xs h)) (All_change P Q xs g (All_tail P x xs h))

pub All_of_map : {A B : Type 0} (P : B → Type 0) (f : A → B) (xs : List A) → All P (map f xs) → All (λ x. P (f x)) xs
All_of_map P f [] h = All_none (λ x. P (f x))
All_of_map P f (x ∷ xs) h = All_cons (λ x. P (f x)) x xs (All_head P (f x) (map f xs) h) (All_of_map P f xs (All_tail P (f x) (map f xs) h))

pub All_to_map : {A B : Type 0} (P : B → Type 0) (f : A → B) (xs : List A) → All (λ x. P (f x)) xs → All P (map f xs)
All_to_map P f [] h = All_none P
All_to_map P f (x ∷ xs) h = All_cons P (f x) (map f xs) (All_head (λ x. P (f x)) x xs h) (All_to_map P f xs (All_tail (λ x. P (f x)) x xs h))
