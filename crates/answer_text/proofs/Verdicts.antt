-- What the verdicts of an answer carry is read exactly.
use Rattle.std.proofs.Common.{◌≡◌, ◌⊎◌, inl, inr, ◌^◌, ◌<◌, ℕ, ℤ, true, false, List, [], ◌∷◌, ◌++◌, refl, sym, ◌∙◌, ap, arith, append_assoc, codes, decimal}
use Rattle.std.specs.Prelude.{None, Ok, All, flat_map}
use Rattle.answer_text.specs.declared.answer.WorldText.{WorldText}
use Rattle.answer_text.specs.declared.answer.PartAnswer.{PartAnswer}
use Rattle.answer_text.specs.declared.answer.Verdict.{Verdict}
use Rattle.answer_text.specs.declared.answer.Verdict.TheVariants as verdict
use Rattle.answer_text.specs.declared.lines.Head.{Head}
use Rattle.answer_text.specs.declared.lines.Head.TheVariants as head
use Rattle.answer_text.specs.Tokens.{strip}
use Rattle.answer_text.specs.Lines.{row_of}
use Rattle.answer_text.specs.Text.{part_bytes, world_bytes, found_bytes}
use Rattle.answer_text.specs.Blocks.{◌>>=◌, read_line, end_at, begins, part_at, worlds_at, parts_at, optimal_at, unfinished_at, false_row_at, no_world_at, impossible_at, found_at}
use Rattle.answer_text.specs.Answers.{IsPart, IsWorld}
use Rattle.answer_text.proofs.LineTexts.{row_reads}
use Rattle.answer_text.proofs.Readers.{Reads, any_end, reads_line, reads_both, reads_as, reads_either}
use Rattle.answer_text.proofs.Grammar.{reads_part, reads_worlds, reads_parts, reads_end, not_world, not_part, end_text}

-- what a verdict carries, where it carries such a thing
abbrev worlds_of : Verdict → List WorldText
worlds_of (verdict.Optimal objective worlds parts) = worlds
worlds_of (verdict.FalseRow row) = []
worlds_of (verdict.NoWorld part) = []
worlds_of (verdict.Unfinished nodes parts) = []

abbrev parts_of : Verdict → List PartAnswer
parts_of (verdict.Optimal objective worlds parts) = parts
parts_of (verdict.FalseRow row) = []
parts_of (verdict.NoWorld part) = []
parts_of (verdict.Unfinished nodes parts) = parts

abbrev no_part : PartAnswer
no_part = record { number = 0; columns = []; best = None; tree = [] }

abbrev part_of : Verdict → PartAnswer
part_of (verdict.Optimal objective worlds parts) = no_part
part_of (verdict.FalseRow row) = no_part
part_of (verdict.NoWorld part) = part
part_of (verdict.Unfinished nodes parts) = no_part

abbrev row_of_verdict : Verdict → ℕ
row_of_verdict (verdict.Optimal objective worlds parts) = 0
row_of_verdict (verdict.FalseRow row) = row
row_of_verdict (verdict.NoWorld part) = 0
row_of_verdict (verdict.Unfinished nodes parts) = 0

-- the line of a verdict
abbrev pub head_of_verdict : Verdict → Head
head_of_verdict (verdict.Optimal objective worlds parts) = head.Optimal objective
head_of_verdict (verdict.FalseRow row) = head.Impossible
head_of_verdict (verdict.NoWorld part) = head.Impossible
head_of_verdict (verdict.Unfinished nodes parts) = head.Unfinished nodes

-- what the verdict carries fits
abbrev pub Carries : Verdict → Type 0
Carries (verdict.Optimal objective worlds parts) = All IsWorld worlds × All IsPart parts
Carries (verdict.FalseRow row) = row < 2 ^ 32
Carries (verdict.NoWorld part) = IsPart part
Carries (verdict.Unfinished nodes parts) = All IsPart parts

abbrev pub FoundFits : Head → Verdict → Type 0
FoundFits head verdict = (head_of_verdict verdict ≡ head) × Carries verdict

unfoldable pub found_text : Verdict → List ℕ
found_text verdict = found_bytes verdict ++ end_text

-- parts, and the last line
module _ (made : List PartAnswer → Verdict) (made_parts : (parts : List PartAnswer) → parts_of (made parts) ≡ parts) where
  abbrev PartsFit : Verdict → Type 0
  PartsFit verdict = All IsPart (parts_of verdict) × (Unit {0} × (verdict ≡ made (parts_of verdict)))

  reads_parts_end : Reads (λ bytes. parts_at bytes >>= (λ parts. end_at parts.1 >>= (λ end. Ok (made parts.0, end.1)))) (λ verdict. flat_map part_bytes (parts_of verdict) ++ (end_text ++ [])) PartsFit any_end
  unfolding strip
  reads_parts_end =
      reads_both parts_at (flat_map part_bytes) (All IsPart) not_part reads_parts
      (λ parts bytes. end_at bytes >>= (λ end. Ok (made parts, end.1))) (λ parts verdict. end_text ++ []) (λ parts verdict. Unit {0} × (verdict ≡ made parts)) any_end (λ parts fits. reads_end (made parts))
      parts_of (λ parts verdict is. ap parts_of is.1 ∙ made_parts parts) (λ common one other. refl) (λ parts verdict rest fits is end. refl)

-- two verdicts that differ, and two lines of verdicts
row_not_optimal : (row : ℕ) (z : ℤ) (worlds : List WorldText) (parts : List PartAnswer) → verdict.FalseRow row ≡ verdict.Optimal z worlds parts → ⊥
row_not_optimal row z worlds parts e = cc

part_not_optimal : (part : PartAnswer) (z : ℤ) (worlds : List WorldText) (parts : List PartAnswer) → verdict.NoWorld part ≡ verdict.Optimal z worlds parts → ⊥
part_not_optimal part z worlds parts e = cc

unfinished_not_optimal : (nodes : ℕ) (more : List PartAnswer) (z : ℤ) (worlds : List WorldText) (parts : List PartAnswer) → verdict.Unfinished nodes more ≡ verdict.Optimal z worlds parts → ⊥
unfinished_not_optimal nodes more z worlds parts e = cc

row_not_unfinished : (row nodes : ℕ) (parts : List PartAnswer) → verdict.FalseRow row ≡ verdict.Unfinished nodes parts → ⊥
row_not_unfinished row nodes parts e = cc

part_not_unfinished : (part : PartAnswer) (nodes : ℕ) (parts : List PartAnswer) → verdict.NoWorld part ≡ verdict.Unfinished nodes parts → ⊥
part_not_unfinished part nodes parts e = cc

row_not_part : (row : ℕ) (part : PartAnswer) → verdict.FalseRow row ≡ verdict.NoWorld part → ⊥
row_not_part row part e = cc

impossible_not_optimal : (z : ℤ) → head.Impossible ≡ head.Optimal z → ⊥
impossible_not_optimal z e = cc

unfinished_line_not_optimal : (nodes : ℕ) (z : ℤ) → head.Unfinished nodes ≡ head.Optimal z → ⊥
unfinished_line_not_optimal nodes z e = cc

impossible_not_unfinished : (nodes : ℕ) → head.Impossible ≡ head.Unfinished nodes → ⊥
impossible_not_unfinished nodes e = cc

same_objective : (y z : ℤ) → head.Optimal y ≡ head.Optimal z → y ≡ z
same_objective y z e = cc

same_nodes : (m n : ℕ) → head.Unfinished m ≡ head.Unfinished n → m ≡ n
same_nodes m n e = cc

-- worlds, parts and the last line
module _ (objective : ℤ) where
  abbrev OptimalFits : Verdict → Type 0
  OptimalFits found = All IsWorld (worlds_of found) × (All IsPart (parts_of found) × (Unit {0} × (found ≡ verdict.Optimal objective (worlds_of found) (parts_of found))))

  abbrev optimal_text : Verdict → List ℕ
  optimal_text found = flat_map world_bytes (worlds_of found) ++ (flat_map part_bytes (parts_of found) ++ (end_text ++ []))

  no_world_behind : (parts : List PartAnswer) (rest : List ℕ) → not_world (flat_map part_bytes parts ++ (end_text ++ []) ++ rest) ≡ true
  unfolding strip part_bytes
  no_world_behind [] rest = refl
  no_world_behind (part ∷ parts) rest = refl

  optimal_parts : Reads (optimal_at objective) optimal_text OptimalFits any_end
  unfolding optimal_at
  optimal_parts =
      reads_both worlds_at (flat_map world_bytes) (All IsWorld) not_world reads_worlds
      (λ worlds bytes. parts_at bytes >>= (λ parts. end_at parts.1 >>= (λ end. Ok (verdict.Optimal objective worlds parts.0, end.1))))
      (λ worlds found. flat_map part_bytes (parts_of found) ++ (end_text ++ [])) (λ worlds found. All IsPart (parts_of found) × (Unit {0} × (found ≡ verdict.Optimal objective worlds (parts_of found)))) any_end
      (λ worlds fits. reads_parts_end (λ parts. verdict.Optimal objective worlds parts) (λ parts. refl))
      worlds_of (λ worlds found is. ap worlds_of is.1.1) (λ common one other. refl) (λ worlds found rest fits is end. no_world_behind (parts_of found) rest)

  optimal_same : (found : Verdict) → OptimalFits found → optimal_text found ≡ found_text found
  unfolding found_text found_bytes
  optimal_same (verdict.Optimal z worlds parts) fits = sym (append_assoc (flat_map world_bytes worlds) (flat_map part_bytes parts) end_text)
  optimal_same (verdict.FalseRow row) fits = absurd (row_not_optimal row objective [] [] fits.1.1.1)
  optimal_same (verdict.NoWorld part) fits = absurd (part_not_optimal part objective [] [] fits.1.1.1)
  optimal_same (verdict.Unfinished nodes parts) fits = absurd (unfinished_not_optimal nodes parts objective [] parts fits.1.1.1)

  optimal_there : (found : Verdict) → OptimalFits found → FoundFits (head.Optimal objective) found
  optimal_there (verdict.Optimal z worlds parts) fits = (ap head_of_verdict fits.1.1.1, (fits.0, fits.1.0))
  optimal_there (verdict.FalseRow row) fits = absurd (row_not_optimal row objective [] [] fits.1.1.1)
  optimal_there (verdict.NoWorld part) fits = absurd (part_not_optimal part objective [] [] fits.1.1.1)
  optimal_there (verdict.Unfinished nodes parts) fits = absurd (unfinished_not_optimal nodes parts objective [] parts fits.1.1.1)

  optimal_back : (found : Verdict) → FoundFits (head.Optimal objective) found → OptimalFits found
  optimal_back (verdict.Optimal z worlds parts) fits = (fits.1.0, (fits.1.1, (tt, ap (λ (v : ℤ). verdict.Optimal v worlds parts) (same_objective z objective fits.0))))
  optimal_back (verdict.FalseRow row) fits = absurd (impossible_not_optimal objective fits.0)
  optimal_back (verdict.NoWorld part) fits = absurd (impossible_not_optimal objective fits.0)
  optimal_back (verdict.Unfinished nodes parts) fits = absurd (unfinished_line_not_optimal nodes objective fits.0)

  reads_optimal : Reads (optimal_at objective) found_text (FoundFits (head.Optimal objective)) any_end
  reads_optimal = reads_as (optimal_at objective) optimal_text found_text OptimalFits (FoundFits (head.Optimal objective)) any_end optimal_same optimal_there optimal_back optimal_parts

-- parts and the last line, where the work has not ended
module _ (nodes : ℕ) where
  abbrev UnfinishedFits : Verdict → Type 0
  UnfinishedFits found = All IsPart (parts_of found) × (Unit {0} × (found ≡ verdict.Unfinished nodes (parts_of found)))

  abbrev unfinished_text : Verdict → List ℕ
  unfinished_text found = flat_map part_bytes (parts_of found) ++ (end_text ++ [])

  unfinished_same : (found : Verdict) → UnfinishedFits found → unfinished_text found ≡ found_text found
  unfolding found_text found_bytes
  unfinished_same (verdict.Optimal z worlds parts) fits = absurd (unfinished_not_optimal nodes parts z worlds parts (sym fits.1.1))
  unfinished_same (verdict.FalseRow row) fits = absurd (row_not_unfinished row nodes [] fits.1.1)
  unfinished_same (verdict.NoWorld part) fits = absurd (part_not_unfinished part nodes [] fits.1.1)
  unfinished_same (verdict.Unfinished n parts) fits = refl

  unfinished_there : (found : Verdict) → UnfinishedFits found → FoundFits (head.Unfinished nodes) found
  unfinished_there (verdict.Optimal z worlds parts) fits = absurd (unfinished_not_optimal nodes parts z worlds parts (sym fits.1.1))
  unfinished_there (verdict.FalseRow row) fits = absurd (row_not_unfinished row nodes [] fits.1.1)
  unfinished_there (verdict.NoWorld part) fits = absurd (part_not_unfinished part nodes [] fits.1.1)
  unfinished_there (verdict.Unfinished n parts) fits = (ap head_of_verdict fits.1.1, fits.0)

  unfinished_back : (found : Verdict) → FoundFits (head.Unfinished nodes) found → UnfinishedFits found
  unfinished_back (verdict.Optimal z worlds parts) fits = absurd (unfinished_line_not_optimal nodes z (sym fits.0))
  unfinished_back (verdict.FalseRow row) fits = absurd (impossible_not_unfinished nodes fits.0)
  unfinished_back (verdict.NoWorld part) fits = absurd (impossible_not_unfinished nodes fits.0)
  unfinished_back (verdict.Unfinished n parts) fits = (fits.1, (tt, ap (λ (m : ℕ). verdict.Unfinished m parts) (same_nodes n nodes fits.0)))

  reads_unfinished : Reads (unfinished_at nodes) found_text (FoundFits (head.Unfinished nodes)) any_end
  unfolding unfinished_at
  reads_unfinished = reads_as (unfinished_at nodes) unfinished_text found_text UnfinishedFits (FoundFits (head.Unfinished nodes)) any_end unfinished_same unfinished_there unfinished_back (reads_parts_end (λ parts. verdict.Unfinished nodes parts) (λ parts. refl))

-- a false row, and the last line
abbrev RowFits : Verdict → Type 0
RowFits found = (row_of_verdict found < 2 ^ 32) × (Unit {0} × (found ≡ verdict.FalseRow (row_of_verdict found)))

abbrev row_text : Verdict → List ℕ
row_text found = (codes "row " ++ decimal (row_of_verdict found) ++ 10 ∷ []) ++ (end_text ++ [])

row_parts : Reads false_row_at row_text RowFits any_end
unfolding false_row_at
row_parts =
    reads_both (read_line row_of) (λ row. codes "row " ++ decimal row ++ 10 ∷ []) (λ row. row < 2 ^ 32) any_end (reads_line row_of (λ row. codes "row " ++ decimal row) (λ row. row < 2 ^ 32) row_reads 0 (omega arith))
    (λ row bytes. end_at bytes >>= (λ end. Ok (verdict.FalseRow row, end.1))) (λ row found. end_text ++ []) (λ row found. Unit {0} × (found ≡ verdict.FalseRow row)) any_end (λ row fits. reads_end (verdict.FalseRow row))
    row_of_verdict (λ row found is. ap row_of_verdict is.1) (λ common one other. refl) (λ row found rest fits is end. refl)

-- a false row that fits, and a part that does
abbrev IsRow : Verdict → Type 0
IsRow (verdict.Optimal objective worlds parts) = ⊥
IsRow (verdict.FalseRow row) = row < 2 ^ 32
IsRow (verdict.NoWorld part) = ⊥
IsRow (verdict.Unfinished nodes parts) = ⊥

abbrev IsOnePart : Verdict → Type 0
IsOnePart (verdict.Optimal objective worlds parts) = ⊥
IsOnePart (verdict.FalseRow row) = ⊥
IsOnePart (verdict.NoWorld part) = IsPart part
IsOnePart (verdict.Unfinished nodes parts) = ⊥

row_same : (found : Verdict) → RowFits found → row_text found ≡ found_text found
unfolding found_text found_bytes
row_same (verdict.Optimal z worlds parts) fits = absurd (row_not_optimal 0 z worlds parts (sym fits.1.1))
row_same (verdict.FalseRow row) fits = refl
row_same (verdict.NoWorld part) fits = absurd (row_not_part 0 part (sym fits.1.1))
row_same (verdict.Unfinished nodes parts) fits = absurd (row_not_unfinished 0 nodes parts (sym fits.1.1))

row_there : (found : Verdict) → RowFits found → IsRow found
row_there (verdict.Optimal z worlds parts) fits = absurd (row_not_optimal 0 z worlds parts (sym fits.1.1))
row_there (verdict.FalseRow row) fits = fits.0
row_there (verdict.NoWorld part) fits = absurd (row_not_part 0 part (sym fits.1.1))
row_there (verdict.Unfinished nodes parts) fits = absurd (row_not_unfinished 0 nodes parts (sym fits.1.1))

row_back : (found : Verdict) → IsRow found → RowFits found
row_back (verdict.Optimal z worlds parts) is = absurd is
row_back (verdict.FalseRow row) is = (is, (tt, refl))
row_back (verdict.NoWorld part) is = absurd is
row_back (verdict.Unfinished nodes parts) is = absurd is

reads_false_row : Reads false_row_at found_text IsRow any_end
reads_false_row = reads_as false_row_at row_text found_text RowFits IsRow any_end row_same row_there row_back row_parts

-- one part, and the last line
abbrev OnePartFits : Verdict → Type 0
OnePartFits found = IsPart (part_of found) × (Unit {0} × (found ≡ verdict.NoWorld (part_of found)))

abbrev one_part_text : Verdict → List ℕ
one_part_text found = part_bytes (part_of found) ++ (end_text ++ [])

one_part_parts : Reads no_world_at one_part_text OnePartFits any_end
unfolding no_world_at
one_part_parts =
    reads_both part_at part_bytes IsPart any_end reads_part
    (λ part bytes. end_at bytes >>= (λ end. Ok (verdict.NoWorld part, end.1))) (λ part found. end_text ++ []) (λ part found. Unit {0} × (found ≡ verdict.NoWorld part)) any_end (λ part fits. reads_end (verdict.NoWorld part))
    part_of (λ part found is. ap part_of is.1) (λ common one other. refl) (λ part found rest fits is end. refl)

one_part_same : (found : Verdict) → OnePartFits found → one_part_text found ≡ found_text found
unfolding found_text found_bytes
one_part_same (verdict.Optimal z worlds parts) fits = absurd (part_not_optimal no_part z worlds parts (sym fits.1.1))
one_part_same (verdict.FalseRow row) fits = absurd (row_not_part row no_part fits.1.1)
one_part_same (verdict.NoWorld part) fits = refl
one_part_same (verdict.Unfinished nodes parts) fits = absurd (part_not_unfinished no_part nodes parts (sym fits.1.1))

one_part_there : (found : Verdict) → OnePartFits found → IsOnePart found
one_part_there (verdict.Optimal z worlds parts) fits = absurd (part_not_optimal no_part z worlds parts (sym fits.1.1))
one_part_there (verdict.FalseRow row) fits = absurd (row_not_part row no_part fits.1.1)
one_part_there (verdict.NoWorld part) fits = fits.0
one_part_there (verdict.Unfinished nodes parts) fits = absurd (part_not_unfinished no_part nodes parts (sym fits.1.1))

one_part_back : (found : Verdict) → IsOnePart found → OnePartFits found
one_part_back (verdict.Optimal z worlds parts) is = absurd is
one_part_back (verdict.FalseRow row) is = absurd is
one_part_back (verdict.NoWorld part) is = (is, (tt, refl))
one_part_back (verdict.Unfinished nodes parts) is = absurd is

reads_one_part : Reads no_world_at found_text IsOnePart any_end
reads_one_part = reads_as no_world_at one_part_text found_text OnePartFits IsOnePart any_end one_part_same one_part_there one_part_back one_part_parts

-- either of them
row_begins : (found : Verdict) (rest : List ℕ) → IsRow found → begins (codes "row ") (found_text found ++ rest) ≡ true
unfolding found_text found_bytes strip
row_begins (verdict.Optimal z worlds parts) rest is = absurd is
row_begins (verdict.FalseRow row) rest is = refl
row_begins (verdict.NoWorld part) rest is = absurd is
row_begins (verdict.Unfinished nodes parts) rest is = absurd is

one_part_begins : (found : Verdict) (rest : List ℕ) → IsOnePart found → begins (codes "row ") (found_text found ++ rest) ≡ false
unfolding found_text found_bytes part_bytes strip
one_part_begins (verdict.Optimal z worlds parts) rest is = absurd is
one_part_begins (verdict.FalseRow row) rest is = absurd is
one_part_begins (verdict.NoWorld part) rest is = refl
one_part_begins (verdict.Unfinished nodes parts) rest is = absurd is

impossible_there : (found : Verdict) → IsRow found ⊎ IsOnePart found → FoundFits head.Impossible found
impossible_there (verdict.Optimal z worlds parts) (inl is) = absurd is
impossible_there (verdict.Optimal z worlds parts) (inr is) = absurd is
impossible_there (verdict.FalseRow row) (inl is) = (refl, is)
impossible_there (verdict.FalseRow row) (inr is) = absurd is
impossible_there (verdict.NoWorld part) (inl is) = absurd is
impossible_there (verdict.NoWorld part) (inr is) = (refl, is)
impossible_there (verdict.Unfinished nodes parts) (inl is) = absurd is
impossible_there (verdict.Unfinished nodes parts) (inr is) = absurd is

impossible_back : (found : Verdict) → FoundFits head.Impossible found → IsRow found ⊎ IsOnePart found
impossible_back (verdict.Optimal z worlds parts) fits = absurd (impossible_not_optimal z (sym fits.0))
impossible_back (verdict.FalseRow row) fits = inl fits.1
impossible_back (verdict.NoWorld part) fits = inr fits.1
impossible_back (verdict.Unfinished nodes parts) fits = absurd (impossible_not_unfinished nodes (sym fits.0))

reads_impossible : Reads impossible_at found_text (FoundFits head.Impossible) any_end
unfolding impossible_at
reads_impossible =
    reads_as impossible_at found_text found_text (λ found. IsRow found ⊎ IsOnePart found) (FoundFits head.Impossible) any_end (λ found fits. refl) impossible_there impossible_back
    (reads_either (codes "row ") refl found_text any_end false_row_at IsRow reads_false_row row_begins no_world_at IsOnePart reads_one_part one_part_begins)

-- what stands behind each line of a verdict
pub reads_found : (line : Head) → Reads (found_at line) found_text (FoundFits line) any_end
unfolding found_at
reads_found (head.Optimal objective) = reads_optimal objective
reads_found head.Impossible = reads_impossible
reads_found (head.Unfinished nodes) = reads_unfinished nodes
