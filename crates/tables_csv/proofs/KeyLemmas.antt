-- the keys of rows: their hashes, their comparison, and one more row among them
use Rattle.std.proofs.Common.{◌≡◌, ◌≢◌, ◌∙◌, ◌+◌, ◌<◌, ◌≤◌, ◌++◌, ℕ, zero, suc, List, [], ◌∷◌, Option, ap, refl, sym, inl, inr, arith, length, length-append, get_or, take, map}
use Rattle.std.proofs.lemmas.Bool.{cases_lt}
use Rattle.std.proofs.lemmas.List.{get_or_append_left, get_or_push, get_or_read, map-append, take_all, take_more}
use Rattle.std.proofs.lemmas.List.Sums.{fold-append}
use Rattle.std.specs.Prelude.{fold, slice_get}
use Rattle.base_kit.specs.declared.value.Value.{Value}
use Rattle.tables_csv.specs.Hashes.{hash_of, mixed_entry}
use Rattle.tiql_query.specs.Keys.{HasNewKey, HaveDistinctKeys, key_at, key_of}

-- one more column of the key
pub key_more : (key : List ℕ) (row : List Value) (i : ℕ) → i < length key → key_of (take (i + 1) key) row ≡ key_of (take i key) row ++ slice_get row (get_or key i 0) ∷ []
unfolding key_of
key_more key row i lt = rw (take_more key i 0 lt, map-append) refl

pub hash_none : (row : List Value) → 0 ≡ hash_of (key_of [] row)
unfolding hash_of key_of
hash_none row = refl

pub hash_more : (key : List ℕ) (row : List Value) (i hash next : ℕ) (entry : Option Value) → hash ≡ hash_of (key_of (take i key) row) → i < length key
    → entry ≡ slice_get row (get_or key i 0) → next ≡ mixed_entry hash entry → next ≡ hash_of (key_of (take (i + 1) key) row)
unfolding hash_of
hash_more key row i hash next entry is lt entry_is next_is =
    let front = key_of (take i key) row in
    let last = slice_get row (get_or key i 0) in
    next_is ∙ ap (λ h. mixed_entry h entry) is ∙ ap (mixed_entry (fold mixed_entry 0 front)) entry_is ∙ sym (fold-append mixed_entry 0 front (last ∷ [])) ∙ ap (fold mixed_entry 0) (sym (key_more key row i lt))

pub hash_all : (key : List ℕ) (row : List Value) (i hash : ℕ) → length key ≤ i → hash ≡ hash_of (key_of (take i key) row) → hash ≡ hash_of (key_of key row)
hash_all key row i hash end is = rw (take_all i key end) at is

-- keys that are equal so far
pub same_none : (one other : List Value) → key_of [] one ≡ key_of [] other
unfolding key_of
same_none one other = refl

pub same_more : (key : List ℕ) (one other : List Value) (i : ℕ) → i < length key → key_of (take i key) one ≡ key_of (take i key) other
    → slice_get one (get_or key i 0) ≡ slice_get other (get_or key i 0) → key_of (take (i + 1) key) one ≡ key_of (take (i + 1) key) other
same_more key one other i lt front here =
    key_more key one i lt ∙ ap (λ (l : List (Option Value)). l ++ slice_get one (get_or key i 0) ∷ []) front
    ∙ ap (λ (v : Option Value). key_of (take i key) other ++ v ∷ []) here ∙ sym (key_more key other i lt)

pub same_all : (key : List ℕ) (one other : List Value) (i : ℕ) → length key ≤ i → key_of (take i key) one ≡ key_of (take i key) other → key_of key one ≡ key_of key other
same_all key one other i end same = rw (take_all i key end) at same

-- keys that differ in a column
pub other_keys : (key : List ℕ) (one other : List Value) (i : ℕ) → i < length key → slice_get one (get_or key i 0) ≢ slice_get other (get_or key i 0)
    → key_of key one ≡ key_of key other → ⊥
unfolding key_of
other_keys [] one other i lt differ same = absurd (omega arith)
other_keys (column ∷ key) one other zero lt differ same = let head : slice_get one column ≡ slice_get other column = cc in differ head
other_keys (column ∷ key) one other (suc i) lt differ same =
    let tail : map (λ c. slice_get one c) key ≡ map (λ c. slice_get other c) key = cc in other_keys key one other i (omega arith) differ tail

-- the key of a row that is read
pub key_read : (key : List ℕ) (rows : List (List Value)) (i : ℕ) (row : List Value) → i < length rows → row ≡ get_or rows i row → key_at key rows i ≡ key_of key row
key_read key rows i row lt is = ap (key_of key) (sym (get_or_read rows i row lt is []))

-- one more row
old_key : (key : List ℕ) (rows : List (List Value)) (row : List Value) (i : ℕ) → i < length rows → key_at key (rows ++ row ∷ []) i ≡ key_at key rows i
old_key key rows row i lt = ap (key_of key) (get_or_append_left rows (row ∷ []) [] i lt)

last_key : (key : List ℕ) (rows : List (List Value)) (row : List Value) (i : ℕ) → length rows ≡ i → key_at key (rows ++ row ∷ []) i ≡ key_of key row
last_key key rows row i is = ap (key_of key) (get_or_push rows row [] i is)

pub distinct_more : (key : List ℕ) (rows : List (List Value)) (row : List Value) → HaveDistinctKeys key rows → HasNewKey key rows row → HaveDistinctKeys key (rows ++ row ∷ [])
distinct_more key rows row distinct new some i j less below =
    let size : length (rows ++ row ∷ []) ≡ length rows + 1 = length-append rows (row ∷ []) in
    elim (cases_lt j (length rows)) as (λ _. key_at key (rows ++ row ∷ []) i ≢ key_at key (rows ++ row ∷ []) j) [
      | inl within ↦ λ same. distinct some i j less within (sym (old_key key rows row i (omega arith)) ∙ same ∙ old_key key rows row j within)
      | inr past ↦
          let last : length rows ≡ j = omega arith in
          λ same. new some i (omega arith) (sym (old_key key rows row i (omega arith)) ∙ same ∙ last_key key rows row j last)
    ]
