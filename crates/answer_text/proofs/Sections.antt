-- A section of so many bytes is read exactly.
use Rattle.std.proofs.Common.{◌≡◌, ◌-◌, ◌<◌, ◌≤◌, ℕ, Bool, true, false, cond, List, [], ◌∷◌, ◌++◌, length, take, drop, replicate, refl, sym, ◌∙◌, ap, arith, length-append, nat_lt}
use Rattle.std.proofs.lemmas.Bool.{ltb-true, ltb-false, le-ltb}
use Rattle.std.proofs.lemmas.List.{append-nil, take-append-drop, length-take, length-replicate}
use Rattle.std.proofs.lemmas.List.Prefix.{front_rest}
use Rattle.std.proofs.Math.Seq.{take-append_seam}
use Rattle.std.specs.Prelude.{Result, Ok, Err}
use Rattle.answer_text.specs.Blocks.{section_at}
use Rattle.answer_text.proofs.Readers.{Reads, Stopped, any_end, ok_same}

module _ (size : ℕ) where
  section_takes : (bytes : List ℕ) (x : List ℕ × List ℕ) → section_at size bytes ≡ Ok x → (length x.0 ≡ size) × (bytes ≡ x.0 ++ x.1) × (any_end x.1 ≡ true)
  section_takes bytes x e = by_test (nat_lt (length bytes) size) refl e
    where
      by_test : (b : Bool) → nat_lt (length bytes) size ≡ b → ◌≡◌ {A = Result (List ℕ × List ℕ) ℕ} (cond b (Err 0) (Ok (take size bytes, drop size bytes))) (Ok x) → (length x.0 ≡ size) × (bytes ≡ x.0 ++ x.1) × (any_end x.1 ≡ true)
      by_test true is e = cc
      by_test false is e =
          let same = ok_same (take size bytes, drop size bytes) x e in
          let room : size ≤ length bytes = ltb-false (length bytes) size is in
          (ap (λ (y : List ℕ × List ℕ). length y.0) (sym same) ∙ omega (arith, length-take size bytes), sym (take-append-drop size bytes) ∙ ap (λ (y : List ℕ × List ℕ). y.0 ++ y.1) same, refl)

  section_gives : (value rest : List ℕ) → length value ≡ size → any_end rest ≡ true → section_at size (value ++ rest) ≡ Ok (value, rest)
  section_gives value rest fits end =
      let room : nat_lt (length (value ++ rest)) size ≡ false = le-ltb (length (value ++ rest)) size (omega (arith, length-append value rest)) in
      let front : take size (value ++ rest) ≡ value = ap (λ (n : ℕ). take n (value ++ rest)) (sym fits) ∙ take-append_seam value rest in
      let behind : drop size (value ++ rest) ≡ rest = ap (λ (n : ℕ). drop n (value ++ rest)) (sym fits) ∙ front_rest (value ++ rest) value rest refl in
      rw (room, front, behind)

  section_stops : (bytes : List ℕ) (left : ℕ) → section_at size bytes ≡ Err left → Stopped (section_at size) (λ value. value) (λ value. length value ≡ size) bytes left
  section_stops bytes left e = by_test (nat_lt (length bytes) size) refl e
    where
      by_test : (b : Bool) → nat_lt (length bytes) size ≡ b → ◌≡◌ {A = Result (List ℕ × List ℕ) ℕ} (cond b (Err 0) (Ok (take size bytes, drop size bytes))) (Err left) → Stopped (section_at size) (λ value. value) (λ value. length value ≡ size) bytes left
      by_test false is e = cc
      by_test true is e =
          let short : length bytes < size = ltb-true (length bytes) size is in
          let none : 0 ≡ left = cc in
          record {
            front = bytes;
            rest = [];
            split = sym (append-nil bytes);
            left_is = sym none;
            value = bytes ++ replicate (size - length bytes) 0;
            fits = omega (arith, length-append bytes (replicate (size - length bytes) 0), length-replicate {A = ℕ} (size - length bytes) 0);
            more = replicate (size - length bytes) 0;
            begun = refl;
            again = λ line tail other one line_is. absurd (omega (arith, ap length line_is, length-append line (10 ∷ tail)));
          }

  pub reads_section : Reads (section_at size) (λ value. value) (λ value. length value ≡ size) any_end
  reads_section = record {
    takes = section_takes;
    gives = section_gives;
    stops = section_stops;
    some = replicate size 0;
    some_fits = length-replicate {A = ℕ} size 0;
    local = λ common one other. refl;
  }
