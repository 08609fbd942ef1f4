-- An answer has one text, a text has one answer, and where reading stops no answer goes on.
use Rattle.std.proofs.Common.{◌≡◌, ◌⊎◌, inl, inr, ◌+◌, ◌-◌, ◌<◌, ◌≤◌, ℕ, zero, suc, Bool, true, false, not, cond, ◌&&◌, List, [], ◌∷◌, ◌++◌, length, take, drop, refl, sym, ◌∙◌, ap, ap₂, subst, arith, add-zero, append_assoc, length-append, eqb, nat_lt, codes}
use Rattle.std.proofs.lemmas.Bool.{cases_lt, false≢true, lt-ltb}
use Rattle.std.proofs.lemmas.List.{append-nil, take-append-le, take-append-drop}
use Rattle.std.proofs.lemmas.List.Sums.{sum_by-append, sum_by-cons}
use Rattle.std.proofs.Math.Seq.{take-append_seam, take-append-add}
use Rattle.std.specs.Prelude.{Option, Some, None, Result, Ok, Err}
use Rattle.std.specs.List.{count_by}
use Rattle.answer_text.specs.declared.answer.Verdict.{Verdict}
use Rattle.answer_text.specs.declared.answer.Verdict.TheVariants as verdict
use Rattle.answer_text.specs.declared.answer.Answer.{Answer}
use Rattle.answer_text.specs.declared.lines.Head.{Head}
use Rattle.answer_text.specs.declared.lines.Head.TheVariants as head
use Rattle.answer_text.specs.declared.lines.Sizes.{Sizes}
use Rattle.answer_text.specs.Tokens.{cut}
use Rattle.answer_text.specs.Lines.{head_of, sizes_of}
use Rattle.answer_text.specs.Text.{verdict_line, program_line, found_bytes, answer_bytes}
use Rattle.answer_text.specs.Blocks.{◌>>=◌, read_line, is_word, found_at, answer_at, whole_at}
use Rattle.answer_text.specs.Answers.{IsVerdict, IsAnswer, AnswerText, BeginsAnswer, IsStop, line_of}
use Rattle.answer_text.proofs.Words.{lacks, cut_takes, cut_none}
use Rattle.answer_text.proofs.LineTexts.{head_body, HeadFits, head_reads, sizes_body, SizesFit, sizes_reads, word_reads}
use Rattle.answer_text.proofs.Readers.{Reads, Stopped, any_end, reads_line, reads_both, reads_nothing, reads_as, ok_same}
use Rattle.answer_text.proofs.Grammar.{end_text, within_fits, fits_within}
use Rattle.answer_text.proofs.Verdicts.{found_text, FoundFits, Carries, head_of_verdict, reads_found}

abbrev made_answer : Sizes → Verdict → Answer
made_answer sizes found = record { columns = sizes.columns; rows = sizes.rows; formulas = sizes.formulas; verdict = found }

abbrev sizes_of_answer : Answer → Sizes
sizes_of_answer answer = record { columns = answer.columns; rows = answer.rows; formulas = answer.formulas }

abbrev head_of_answer : Answer → Head
head_of_answer answer = head_of_verdict answer.verdict

module _ (line : Head) where
  abbrev Behind : Sizes → Answer → Type 0
  Behind sizes answer = FoundFits line answer.verdict × (answer ≡ made_answer sizes answer.verdict)

  verdict_part : (sizes : Sizes) → Reads (λ bytes. found_at line bytes >>= (λ found. Ok (made_answer sizes found.0, found.1))) (λ answer. found_text answer.verdict ++ []) (Behind sizes) any_end
  verdict_part sizes =
      reads_both (found_at line) found_text (FoundFits line) any_end (reads_found line)
      (λ found bytes. Ok (made_answer sizes found, bytes)) (λ found answer. []) (λ found answer. answer ≡ made_answer sizes found) any_end (λ found fits. reads_nothing (made_answer sizes found))
      (λ answer. answer.verdict) (λ found answer is. ap (λ (a : Answer). a.verdict) is) (λ common one other. refl) (λ found answer rest fits is end. refl)

  sizes_part : Reads (λ bytes. read_line sizes_of bytes >>= (λ sizes. found_at line sizes.1 >>= (λ found. Ok (made_answer sizes.0 found.0, found.1)))) (λ answer. (sizes_body (sizes_of_answer answer) ++ 10 ∷ []) ++ (found_text answer.verdict ++ []))
      (λ answer. SizesFit (sizes_of_answer answer) × Behind (sizes_of_answer answer) answer) any_end
  sizes_part =
      reads_both (read_line sizes_of) (λ sizes. sizes_body sizes ++ 10 ∷ []) SizesFit any_end (reads_line sizes_of sizes_body SizesFit sizes_reads (record { columns = 0; rows = 0; formulas = 0 }) (record { columns = omega arith; rows = omega arith; formulas = omega arith }))
      (λ sizes bytes. found_at line bytes >>= (λ found. Ok (made_answer sizes found.0, found.1))) (λ sizes answer. found_text answer.verdict ++ []) Behind any_end (λ sizes fits. verdict_part sizes)
      sizes_of_answer (λ sizes answer is. ap sizes_of_answer is.1) (λ common one other. refl) (λ sizes answer rest fits is end. refl)

abbrev BehindHead : Head → Answer → Type 0
BehindHead line answer = SizesFit (sizes_of_answer answer) × Behind line (sizes_of_answer answer) answer

head_part : Reads (λ bytes. read_line head_of bytes >>= (λ line. read_line sizes_of line.1 >>= (λ sizes. found_at line.0 sizes.1 >>= (λ found. Ok (made_answer sizes.0 found.0, found.1)))))
    (λ answer. (head_body (head_of_answer answer) ++ 10 ∷ []) ++ ((sizes_body (sizes_of_answer answer) ++ 10 ∷ []) ++ (found_text answer.verdict ++ []))) (λ answer. HeadFits (head_of_answer answer) × BehindHead (head_of_answer answer) answer) any_end
head_part =
    reads_both (read_line head_of) (λ line. head_body line ++ 10 ∷ []) HeadFits any_end (reads_line head_of head_body HeadFits head_reads head.Impossible tt)
    (λ line bytes. read_line sizes_of bytes >>= (λ sizes. found_at line sizes.1 >>= (λ found. Ok (made_answer sizes.0 found.0, found.1)))) (λ line answer. (sizes_body (sizes_of_answer answer) ++ 10 ∷ []) ++ (found_text answer.verdict ++ []))
    BehindHead any_end (λ line fits. sizes_part line)
    head_of_answer (λ line answer is. is.1.0.0) (λ common one other. refl) (λ line answer rest fits is end. refl)

abbrev AnswerFits : Answer → Type 0
AnswerFits answer = Unit {0} × (HeadFits (head_of_answer answer) × BehindHead (head_of_answer answer) answer)

abbrev answer_parts_text : Answer → List ℕ
answer_parts_text answer = (codes "tiresias answer 1" ++ 10 ∷ []) ++ ((head_body (head_of_answer answer) ++ 10 ∷ []) ++ ((sizes_body (sizes_of_answer answer) ++ 10 ∷ []) ++ (found_text answer.verdict ++ [])))

answer_parts : Reads answer_at answer_parts_text AnswerFits any_end
unfolding answer_at
answer_parts =
    reads_both (read_line (is_word (codes "tiresias answer 1"))) (λ start. codes "tiresias answer 1" ++ 10 ∷ []) (λ start. Unit {0}) any_end
    (reads_line (is_word (codes "tiresias answer 1")) (λ start. codes "tiresias answer 1") (λ start. Unit {0}) (word_reads (codes "tiresias answer 1") refl) tt tt)
    (λ start bytes. read_line head_of bytes >>= (λ line. read_line sizes_of line.1 >>= (λ sizes. found_at line.0 sizes.1 >>= (λ found. Ok (made_answer sizes.0 found.0, found.1)))))
    (λ start answer. (head_body (head_of_answer answer) ++ 10 ∷ []) ++ ((sizes_body (sizes_of_answer answer) ++ 10 ∷ []) ++ (found_text answer.verdict ++ []))) (λ start answer. HeadFits (head_of_answer answer) × BehindHead (head_of_answer answer) answer) any_end (λ start fits. head_part)
    (λ answer. tt) (λ start answer is. refl) (λ common one other. refl) (λ start answer rest fits is end. refl)

head_text : (found : Verdict) → head_body (head_of_verdict found) ++ 10 ∷ [] ≡ verdict_line found
unfolding verdict_line
head_text (verdict.Optimal z worlds parts) = refl
head_text (verdict.FalseRow row) = refl
head_text (verdict.NoWorld part) = refl
head_text (verdict.Unfinished nodes parts) = refl

regrouped : (a b c d e : List ℕ) → a ++ (b ++ (c ++ (d ++ e ++ []))) ≡ a ++ b ++ c ++ d ++ e
regrouped a b c d e = simp (append_assoc, append-nil)

answer_text : (answer : Answer) → answer_parts_text answer ≡ answer_bytes answer
unfolding answer_bytes sizes_body program_line found_text
answer_text answer =
    ap (λ (l : List ℕ). codes "tiresias answer 1\n" ++ (l ++ (program_line answer ++ (found_bytes answer.verdict ++ end_text ++ [])))) (head_text answer.verdict)
    ∙ regrouped (codes "tiresias answer 1\n") (verdict_line answer.verdict) (program_line answer) (found_bytes answer.verdict) end_text

verdict_there : (found : Verdict) → HeadFits (head_of_verdict found) → Carries found → IsVerdict found
verdict_there (verdict.Optimal z worlds parts) line carries = (within_fits z line, carries.0, carries.1)
verdict_there (verdict.FalseRow row) line carries = carries
verdict_there (verdict.NoWorld part) line carries = carries
verdict_there (verdict.Unfinished nodes parts) line carries = (line, carries)

verdict_line_back : (found : Verdict) → IsVerdict found → HeadFits (head_of_verdict found)
verdict_line_back (verdict.Optimal z worlds parts) is = fits_within z is.0
verdict_line_back (verdict.FalseRow row) is = tt
verdict_line_back (verdict.NoWorld part) is = tt
verdict_line_back (verdict.Unfinished nodes parts) is = is.0

verdict_back : (found : Verdict) → IsVerdict found → Carries found
verdict_back (verdict.Optimal z worlds parts) is = (is.1, is.2)
verdict_back (verdict.FalseRow row) is = is
verdict_back (verdict.NoWorld part) is = is
verdict_back (verdict.Unfinished nodes parts) is = is.1

answer_there : (answer : Answer) → AnswerFits answer → IsAnswer answer
answer_there answer fits = record {
  columns = fits.1.1.0.columns;
  rows = fits.1.1.0.rows;
  formulas = fits.1.1.0.formulas;
  verdict = verdict_there answer.verdict fits.1.0 fits.1.1.1.0.1;
}

answer_back : (answer : Answer) → IsAnswer answer → AnswerFits answer
answer_back answer is =
    (tt, (verdict_line_back answer.verdict is.verdict, (record { columns = is.columns; rows = is.rows; formulas = is.formulas }, ((refl, verdict_back answer.verdict is.verdict), refl))))

-- answers are read exactly
pub reads_answer : Reads answer_at answer_bytes IsAnswer any_end
reads_answer = reads_as answer_at answer_parts_text answer_bytes AnswerFits IsAnswer any_end (λ answer fits. answer_text answer) answer_there answer_back answer_parts

-- what is read as an answer is its text
whole_takes-by : (bytes : List ℕ) (answer : Answer) (r : Result (Answer × List ℕ) ℕ) → answer_at bytes ≡ r → (r >>= (λ x. cond (nat_lt 0 (length x.1)) (Err (length x.1)) (Ok x.0))) ≡ Ok answer → AnswerText answer bytes
whole_takes-by bytes answer (Err left) is e = cc
whole_takes-by bytes answer (Ok x) is e = by_rest x.1 refl e
  where
    took : IsAnswer x.0 × (bytes ≡ answer_bytes x.0 ++ x.1) × (any_end x.1 ≡ true)
    took = reads_answer.takes bytes x is

    by_rest : (rest : List ℕ) → x.1 ≡ rest → cond (nat_lt 0 (length rest)) (Err (length rest)) (Ok x.0) ≡ Ok answer → AnswerText answer bytes
    by_rest [] none e =
        let text : bytes ≡ answer_bytes x.0 = took.1 ∙ ap (λ (l : List ℕ). answer_bytes x.0 ++ l) none ∙ append-nil (answer_bytes x.0) in
        subst (λ (a : Answer). AnswerText a bytes) (ok_same x.0 answer e) (record { meets = took.0; spelled = text })
    by_rest (byte ∷ rest) some e =
        let more : nat_lt 0 (length (byte ∷ rest)) ≡ true = lt-ltb 0 (length (byte ∷ rest)) (omega arith) in
        let never : ◌≡◌ {A = Result Answer ℕ} (Err (length (byte ∷ rest))) (Ok answer) = rw more at e in
        cc

pub whole_takes : (bytes : List ℕ) (answer : Answer) → whole_at bytes ≡ Ok answer → AnswerText answer bytes
unfolding whole_at
whole_takes bytes answer e = whole_takes-by bytes answer (answer_at bytes) refl e

-- the text of an answer is read as that answer
answer_alone : (answer : Answer) → IsAnswer answer → answer_at (answer_bytes answer) ≡ Ok (answer, [])
answer_alone answer meets = ap answer_at (sym (append-nil (answer_bytes answer))) ∙ reads_answer.gives answer [] meets refl

pub whole_gives : (answer : Answer) (bytes : List ℕ) → AnswerText answer bytes → whole_at bytes ≡ Ok answer
unfolding whole_at
whole_gives answer bytes text =
    ap (λ (r : Result (Answer × List ℕ) ℕ). r >>= (λ x. cond (nat_lt 0 (length x.1)) (Err (length x.1)) (Ok x.0))) (ap answer_at text.spelled ∙ answer_alone answer text.meets)

-- a text has one answer
pub one_answer : (one other : Answer) (bytes : List ℕ) → AnswerText one bytes → AnswerText other bytes → one ≡ other
one_answer one other bytes first second = ok_same one other (sym (whole_gives one bytes first) ∙ whole_gives other bytes second)

-- where reading stops: the front begins an answer, and with the line behind it, its break included, the bytes begin none
record StopsAt (bytes : List ℕ) (left : ℕ) : Type 0 where
  front : List ℕ
  rest : List ℕ
  split : bytes ≡ front ++ rest
  left_is : left ≡ length rest
  begins : BeginsAnswer front
  dead : (line tail : List ℕ) → lacks 10 line ≡ true → rest ≡ line ++ 10 ∷ tail → BeginsAnswer (front ++ (line ++ 10 ∷ [])) → ⊥

regrouped_line : (front line more : List ℕ) → front ++ (line ++ 10 ∷ []) ++ more ≡ front ++ (line ++ 10 ∷ more)
regrouped_line front line more = simp append_assoc

-- the reader stops within an answer
stop_within : (bytes : List ℕ) (left : ℕ) → Stopped answer_at answer_bytes IsAnswer bytes left → StopsAt bytes left
stop_within bytes left at = record {
  front = at.front;
  rest = at.rest;
  split = at.split;
  left_is = at.left_is;
  begins = (at.value, at.more, record { meets = at.fits; spelled = sym at.begun });
  dead = λ line tail one is begun.
      let text : answer_bytes begun.0 ≡ at.front ++ (line ++ 10 ∷ begun.1) = sym begun.2.spelled ∙ regrouped_line at.front line begun.1 in
      let read : Ok (begun.0, []) ≡ Err (length (line ++ 10 ∷ begun.1)) = sym (answer_alone begun.0 begun.2.meets) ∙ ap answer_at text ∙ at.again line tail begun.1 one is in
      ok_not_err (begun.0, []) (length (line ++ 10 ∷ begun.1)) read;
}
  where
    ok_not_err : (x : Answer × List ℕ) (n : ℕ) → ◌≡◌ {A = Result (Answer × List ℕ) ℕ} (Ok x) (Err n) → ⊥
    ok_not_err x n e = cc

-- the reader stops behind an answer
stop_behind : (bytes : List ℕ) (x : Answer × List ℕ) → answer_at bytes ≡ Ok x → StopsAt bytes (length x.1)
stop_behind bytes x e =
    let took = reads_answer.takes bytes x e in
    record {
      front = answer_bytes x.0;
      rest = x.1;
      split = took.1;
      left_is = refl;
      begins = (x.0, [], record { meets = took.0; spelled = append-nil (answer_bytes x.0) });
      dead = λ line tail one is begun.
          let text : answer_bytes begun.0 ≡ answer_bytes x.0 ++ (line ++ 10 ∷ begun.1) = sym begun.2.spelled ∙ regrouped_line (answer_bytes x.0) line begun.1 in
          let read = ok_same (begun.0, []) (x.0, line ++ 10 ∷ begun.1) (sym (answer_alone begun.0 begun.2.meets) ∙ ap answer_at text ∙ reads_answer.gives x.0 (line ++ 10 ∷ begun.1) took.0 refl) in
          absurd (omega (arith, ap (λ (y : Answer × List ℕ). length y.1) read, length-append line (10 ∷ begun.1)));
    }

stops_by : (bytes : List ℕ) (left : ℕ) (r : Result (Answer × List ℕ) ℕ) → answer_at bytes ≡ r → (r >>= (λ x. cond (nat_lt 0 (length x.1)) (Err (length x.1)) (Ok x.0))) ≡ Err left → StopsAt bytes left
stops_by bytes left (Err at) is e = let same : at ≡ left = cc in stop_within bytes left (reads_answer.stops bytes left (is ∙ ap (λ (n : ℕ). Err n) same))
stops_by bytes left (Ok x) is e = by_rest (nat_lt 0 (length x.1)) e
  where
    by_rest : (b : Bool) → cond b (Err (length x.1)) (Ok x.0) ≡ Err left → StopsAt bytes left
    by_rest true e = let same : length x.1 ≡ left = cc in subst (StopsAt bytes) same (stop_behind bytes x is)
    by_rest false e = cc

whole_stops : (bytes : List ℕ) (left : ℕ) → whole_at bytes ≡ Err left → StopsAt bytes left
unfolding whole_at
whole_stops bytes left e = stops_by bytes left (answer_at bytes) refl e

-- how many line breaks there are
abbrev breaks : List ℕ → ℕ
breaks bytes = count_by (λ byte. eqb byte 10) bytes

breaks-append : (xs ys : List ℕ) → breaks (xs ++ ys) ≡ breaks xs + breaks ys
breaks-append = sum_by-append (λ (byte : ℕ). cond (eqb byte 10) 1 0)

breaks-lacks : (bytes : List ℕ) → lacks 10 bytes ≡ true → breaks bytes ≡ 0
breaks-lacks [] h = refl
breaks-lacks (byte ∷ bytes) h = sum_by-cons (λ (b : ℕ). cond (eqb b 10) 1 0) byte bytes ∙ by_test (eqb byte 10) (breaks-lacks bytes) h
  where
    by_test : (b : Bool) → (lacks 10 bytes ≡ true → breaks bytes ≡ 0) → (not b && lacks 10 bytes) ≡ true → cond b 1 0 + breaks bytes ≡ 0
    by_test true more h = absurd (false≢true h)
    by_test false more h = omega (arith, more h)

lacks-take : (count : ℕ) (bytes : List ℕ) → lacks 10 bytes ≡ true → lacks 10 (take count bytes) ≡ true
lacks-take zero bytes h = refl
lacks-take (suc count) [] h = refl
lacks-take (suc count) (byte ∷ bytes) h = by_test (eqb byte 10) (lacks-take count bytes) h
  where
    by_test : (b : Bool) → (lacks 10 bytes ≡ true → lacks 10 (take count bytes) ≡ true) → (not b && lacks 10 bytes) ≡ true → (not b && lacks 10 (take count bytes)) ≡ true
    by_test true more h = absurd (false≢true h)
    by_test false more h = more h

-- what begins an answer does so at each of its fronts
begins-front : (xs ys : List ℕ) → BeginsAnswer (xs ++ ys) → BeginsAnswer xs
begins-front xs ys begun = (begun.0, ys ++ begun.1, record { meets = begun.2.meets; spelled = sym (append_assoc xs ys begun.1) ∙ begun.2.spelled })

-- the line at which reading stops is that of the first byte with which the bytes begin no answer
module _ (bytes : List ℕ) (left : ℕ) (at : StopsAt bytes left) (count : ℕ) (stop : IsStop bytes count) where
  -- the front is not longer than the bytes that begin an answer
  front_within : length at.front ≤ count
  front_within = by_order (cases_lt count (length at.front))
    where
      by_order : (count < length at.front) ⊎ (length at.front ≤ count) → length at.front ≤ count
      by_order (inr le) = le
      by_order (inl lt) =
          let short : count < length bytes = omega (arith, ap length at.split, length-append at.front at.rest) in
          let same : take (count + 1) bytes ≡ take (count + 1) at.front = ap (take (count + 1)) at.split ∙ take-append-le (count + 1) at.front at.rest (omega arith) in
          let begun : BeginsAnswer (take (count + 1) at.front) = begins-front (take (count + 1) at.front) (drop (count + 1) at.front) (subst BeginsAnswer (sym (take-append-drop (count + 1) at.front)) at.begins) in
          absurd (stop.longest short (subst BeginsAnswer (sym same) begun))

  -- the bytes behind the front that still begin an answer
  behind : ℕ
  behind = count - length at.front

  taken : take count bytes ≡ at.front ++ take behind at.rest
  unfolding behind
  taken =
      let whole : count ≡ length at.front + (count - length at.front) = omega (arith, front_within) in
      ap₂ take whole at.split ∙ take-append-add at.front at.rest (count - length at.front)

  -- there is no line break among them
  one_line : lacks 10 (take behind at.rest) ≡ true
  one_line = by_cut (cut 10 at.rest) refl
    where
      by_order : (line tail : List ℕ) → at.rest ≡ line ++ 10 ∷ tail → lacks 10 line ≡ true → (length line < behind) ⊎ (behind ≤ length line) → lacks 10 (take behind at.rest) ≡ true
      by_order line tail is one (inr le) = ap (λ (l : List ℕ). lacks 10 (take behind l)) is ∙ ap (lacks 10) (take-append-le behind line (10 ∷ tail) le) ∙ lacks-take behind line one
      by_order line tail is one (inl lt) =
          let more = behind - (length line + 1) in
          let whole : behind ≡ length (line ++ 10 ∷ []) + more = omega (arith, length-append line (10 ∷ [])) in
          let long : take behind at.rest ≡ line ++ 10 ∷ [] ++ take more tail = ap₂ take whole (is ∙ sym (append_assoc line (10 ∷ []) tail)) ∙ take-append-add (line ++ 10 ∷ []) tail more in
          let begun : BeginsAnswer (at.front ++ (line ++ 10 ∷ [] ++ take more tail)) = subst BeginsAnswer (taken ∙ ap (λ (l : List ℕ). at.front ++ l) long) stop.begins in
          let shorter : BeginsAnswer (at.front ++ (line ++ 10 ∷ [])) = begins-front (at.front ++ (line ++ 10 ∷ [])) (take more tail) (subst BeginsAnswer (sym (append_assoc at.front (line ++ 10 ∷ []) (take more tail))) begun) in
          absurd (at.dead line tail one is shorter)

      by_cut : (o : Option (List ℕ × List ℕ)) → cut 10 at.rest ≡ o → lacks 10 (take behind at.rest) ≡ true
      by_cut None is = lacks-take behind at.rest (cut_none 10 at.rest is)
      by_cut (Some y) is = let split = cut_takes 10 at.rest y is in by_order y.0 y.1 split.0 split.1 (cases_lt (length y.0) behind)

  stop_line : line_of bytes count ≡ line_of bytes (length bytes - left)
  stop_line =
      let size : length bytes - left ≡ length at.front = omega (arith, ap length at.split, length-append at.front at.rest, at.left_is) in
      let front : take (length bytes - left) bytes ≡ at.front = ap₂ take size at.split ∙ take-append_seam at.front at.rest in
      ap (λ (n : ℕ). 1 + n) (ap breaks taken ∙ breaks-append at.front (take behind at.rest) ∙ ap (λ (n : ℕ). breaks at.front + n) (breaks-lacks (take behind at.rest) one_line) ∙ add-zero (breaks at.front) ∙ ap breaks (sym front))

-- reading stops in the line of the first byte with which the bytes begin no answer
pub whole_stop-line : (bytes : List ℕ) (left count : ℕ) → whole_at bytes ≡ Err left → IsStop bytes count → line_of bytes count ≡ line_of bytes (length bytes - left)
whole_stop-line bytes left count e stop = stop_line bytes left (whole_stops bytes left e) count stop

pub whole_stop-within : (bytes : List ℕ) (left : ℕ) → whole_at bytes ≡ Err left → left ≤ length bytes
whole_stop-within bytes left e =
    let at = whole_stops bytes left e in
    omega (arith, ap length at.split, length-append at.front at.rest, at.left_is)

-- bytes at which reading stops are the text of no answer
pub whole_none : (bytes : List ℕ) (left : ℕ) (answer : Answer) → whole_at bytes ≡ Err left → AnswerText answer bytes → ⊥
whole_none bytes left answer e text = let never : ◌≡◌ {A = Result Answer ℕ} (Err left) (Ok answer) = sym e ∙ whole_gives answer bytes text in cc

-- the line that is told
pub whole_line : (bytes : List ℕ) (left told line count : ℕ) → whole_at bytes ≡ Err left → told ≡ line_of bytes (length bytes - left) → line ≡ told → IsStop bytes count → line ≡ line_of bytes count
whole_line bytes left told line count e is same stop = same ∙ is ∙ sym (whole_stop-line bytes left count e stop)

-- an answer that every front of a text may begin with
abbrev no_answer : Answer
no_answer = record { columns = 0; rows = 0; formulas = 0; verdict = verdict.FalseRow 0 }

no_bytes_begin : BeginsAnswer []
no_bytes_begin = (no_answer, answer_bytes no_answer, record { meets = record { columns = omega arith; rows = omega arith; formulas = omega arith; verdict = omega arith }; spelled = refl })

-- it is not so that bytes have no first place with which they begin no answer, and no end up to which they begin one
pub some_stop : (bytes : List ℕ) → ((count : ℕ) → IsStop bytes count → ⊥) → ⊥
some_stop bytes none = at (length bytes) (omega arith) (λ begun. none (length bytes) (record { within = omega arith; begins = begun; longest = λ more. absurd (omega arith) }))
  where
    at : (count : ℕ) → count ≤ length bytes → (BeginsAnswer (take count bytes) → ⊥) → ⊥
    at zero within dead = dead no_bytes_begin
    at (suc count) within dead =
        at count (omega arith) (λ begun. none count (record { within = omega arith; begins = begun; longest = λ more next. let one : count + 1 ≡ suc count = omega arith in dead (rw one at next) }))
