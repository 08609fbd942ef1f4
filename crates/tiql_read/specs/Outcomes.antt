-- what the code gives for what is read by the rules of the grammar: the same, unless memory is wanting
use Rattle.std.specs.Prelude.{◌≡◌, ℕ, Bool, List, ◌++◌, Result, Ok, Err}
use Rattle.std.specs.Borrow.{Bor}
use Rattle.tiql_read.specs.declared.word.Stop.{Stop}
use Rattle.tiql_read.specs.declared.word.Stop.TheVariants.{Wrong}
use Rattle.tiql_tree.specs.Words.{Word}
use Rattle.tiql_read.specs.Steps.{Words, Reading, many_at, next_at}

-- the same part, and the same words behind it
abbrev pub ReadsAs : {A : Type 0} → Result (A × Bor Words) Stop → Reading A → Type 0
ReadsAs (Ok x) outcome = outcome ≡ Ok (x.0, x.1.now)
ReadsAs (Err stop) outcome = (left : ℕ) → stop ≡ Wrong left → outcome ≡ Err left

-- the same words behind what is read
abbrev pub ReadsTo : Result (Bor Words) Stop → Result Words ℕ → Type 0
ReadsTo (Ok rest) outcome = outcome ≡ Ok rest.now
ReadsTo (Err stop) outcome = (left : ℕ) → stop ≡ Wrong left → outcome ≡ Err left

-- the same, of all words
abbrev pub ReadsAllAs : {A : Type 0} → Result A Stop → Result A ℕ → Type 0
ReadsAllAs (Ok x) outcome = outcome ≡ Ok x
ReadsAllAs (Err stop) outcome = (left : ℕ) → stop ≡ Wrong left → outcome ≡ Err left

-- these parts, and those that are read
abbrev pub with_front : {A : Type 0} → List A → Reading (List A) → Reading (List A)
with_front front (Ok more) = Ok (front ++ more.0, more.1)
with_front front (Err left) = Err left

-- these parts, and all that are read behind words which pass the test
abbrev pub parts_behind : {A : Type 0} → List A → (Word → Bool) → (Words → Reading A) → Words → Reading (List A)
parts_behind front test part words = with_front front (many_at test (next_at test part) words)
