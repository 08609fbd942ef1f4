-- How an answer's text is read, line by line and section by section. A reader gives a value and the bytes behind it, or
-- else how many bytes are left from the begin of the line at fault on.
use Rattle.std.specs.Prelude.{◌≡◌, ℕ, ℤ, zero, suc, Bool, nat_lt, if◌then◌else◌, Option, Some, None, is_some, Result, Ok, Err, List, [], ◌∷◌, ◌++◌, length, take, drop, codes}
use Rattle.branch_tree.specs.declared.node.Node.{Node}
use Rattle.branch_tree.specs.declared.node.Node.TheVariants as node
use Rattle.answer_text.specs.declared.answer.WorldText.{WorldText}
use Rattle.answer_text.specs.declared.answer.PartAnswer.{PartAnswer}
use Rattle.answer_text.specs.declared.answer.Verdict.{Verdict}
use Rattle.answer_text.specs.declared.answer.Verdict.TheVariants as verdict
use Rattle.answer_text.specs.declared.answer.Answer.{Answer}
use Rattle.answer_text.specs.declared.blocks.Stop.{Stop}
use Rattle.answer_text.specs.declared.blocks.Stop.TheVariants as stop
use Rattle.answer_text.specs.declared.lines.Head.{Head}
use Rattle.answer_text.specs.declared.lines.Head.TheVariants as head
use Rattle.answer_text.specs.Tokens.{cut, strip}
use Rattle.answer_text.specs.Lines.{when}
pub use Rattle.answer_text.specs.Lines.{head_of, sizes_of, row_of, world_head_of, part_head_of, best_of, node_of}

infixl 10 ◌>>=◌
-- the next step, where the one before it did not stop
abbrev pub ◌>>=◌ : {A B : Type 0} → Result A ℕ → (A → Result B ℕ) → Result B ℕ
(Ok x) >>= f = f x
(Err left) >>= f = Err left

-- a stop with so many bytes left, where there is nothing
abbrev pub told : {A : Type 0} → ℕ → Option A → Result A ℕ
told left None = Err left
told left (Some x) = Ok x

-- what a function returned, seen by view, is what reading gives, unless memory ran out
abbrev pub ReadsAs : {X Y : Type 0} → (X → Y) → Result X Stop → Result Y ℕ → Type 0
ReadsAs view (Ok x) read = read ≡ Ok (view x)
ReadsAs view (Err (stop.Bad left)) read = read ≡ Err left
ReadsAs view (Err stop.Memory) read = Unit {0}

-- the items that were read before, and those that are read now
abbrev pub joined : {A : Type 0} → List A → Result (List A × List ℕ) ℕ → Result (List A × List ℕ) ℕ
joined before (Ok x) = Ok (before ++ x.0, x.1)
joined before (Err left) = Err left

-- the line at the head, without its end
abbrev pub line_at : List ℕ → Result (List ℕ × List ℕ) ℕ
line_at bytes = told (length bytes) (cut 10 bytes)

-- what the line at the head says
abbrev pub read_line : {A : Type 0} → (List ℕ → Option A) → List ℕ → Result (A × List ℕ) ℕ
read_line parse bytes = do
  line ← line_at bytes
  value ← told (length bytes) (parse line.0)
  Ok (value, line.1)

-- a line that is this word
abbrev pub is_word : List ℕ → List ℕ → Option (Unit {0})
is_word word text = when text word tt

-- the bytes begin with this word
abbrev pub begins : List ℕ → List ℕ → Bool
begins word bytes = is_some (strip word bytes)

-- items one after another, as long as the bytes begin with their word, and at most so many
abbrev pub items_at : {A : Type 0} → List ℕ → (List ℕ → Result (A × List ℕ) ℕ) → ℕ → List ℕ → Result (List A × List ℕ) ℕ
items_at word item zero bytes = Ok ([], bytes)
items_at word item (suc most) bytes =
    if begins word bytes
    then (do
      x ← item bytes
      xs ← items_at word item most x.1
      Ok (x.0 ∷ xs.0, xs.1))
    else Ok ([], bytes)

-- so many bytes, or a stop at their end
abbrev pub section_at : ℕ → List ℕ → Result (List ℕ × List ℕ) ℕ
section_at size bytes = if nat_lt (length bytes) size then Err 0 else Ok (take size bytes, drop size bytes)

-- the section of a hypothetical table
unfoldable pub world_at : List ℕ → Result (WorldText × List ℕ) ℕ
world_at bytes = do
  head ← read_line world_head_of bytes
  section ← section_at head.0.size head.1
  Ok (record { name = head.0.name; rows = head.0.rows; bytes = section.0 }, section.1)

-- the sections with which the bytes begin
unfoldable pub worlds_at : List ℕ → Result (List WorldText × List ℕ) ℕ
worlds_at bytes = items_at (codes "world ") world_at (length bytes) bytes

-- how many trees are wanted behind a node, where so many more than its own were
abbrev pub wanted_behind : Node → ℕ → ℕ
wanted_behind (node.Split column at reason) trees = suc (suc trees)
wanted_behind (node.Closed leaf) trees = trees

-- the nodes of so many trees, at most so many nodes
abbrev pub nodes_from : ℕ → ℕ → List ℕ → Result (List Node × List ℕ) ℕ
nodes_from most zero bytes = Ok ([], bytes)
nodes_from zero (suc trees) bytes = Err (length bytes)
nodes_from (suc most) (suc trees) bytes = do
  x ← read_line node_of bytes
  xs ← nodes_from most (wanted_behind x.0 trees) x.1
  Ok (x.0 ∷ xs.0, xs.1)

-- the nodes of one tree
unfoldable pub nodes_at : List ℕ → Result (List Node × List ℕ) ℕ
nodes_at bytes = nodes_from (length bytes) 1 bytes

-- a part
unfoldable pub part_at : List ℕ → Result (PartAnswer × List ℕ) ℕ
part_at bytes = do
  head ← read_line part_head_of bytes
  best ← read_line best_of head.1
  tree ← nodes_at best.1
  Ok (record { number = head.0.number; columns = head.0.columns; best = best.0; tree = tree.0 }, tree.1)

-- the parts with which the bytes begin
unfoldable pub parts_at : List ℕ → Result (List PartAnswer × List ℕ) ℕ
parts_at bytes = items_at (codes "part ") part_at (length bytes) bytes

-- the last line
abbrev pub end_at : List ℕ → Result (Unit {0} × List ℕ) ℕ
end_at = read_line (is_word (codes "end"))

-- what an optimal answer carries: its sections and its parts, up to the last line
unfoldable pub optimal_at : ℤ → List ℕ → Result (Verdict × List ℕ) ℕ
optimal_at objective bytes = do
  worlds ← worlds_at bytes
  parts ← parts_at worlds.1
  end ← end_at parts.1
  Ok (verdict.Optimal objective worlds.0 parts.0, end.1)

-- the parts of an unfinished answer, up to the last line
unfoldable pub unfinished_at : ℕ → List ℕ → Result (Verdict × List ℕ) ℕ
unfinished_at nodes bytes = do
  parts ← parts_at bytes
  end ← end_at parts.1
  Ok (verdict.Unfinished nodes parts.0, end.1)

-- the false row of an impossible answer, up to the last line
unfoldable pub false_row_at : List ℕ → Result (Verdict × List ℕ) ℕ
false_row_at bytes = do
  row ← read_line row_of bytes
  end ← end_at row.1
  Ok (verdict.FalseRow row.0, end.1)

-- the part without a whole point of an impossible answer, up to the last line
unfoldable pub no_world_at : List ℕ → Result (Verdict × List ℕ) ℕ
no_world_at bytes = do
  part ← part_at bytes
  end ← end_at part.1
  Ok (verdict.NoWorld part.0, end.1)

-- a false row, or else a part without a whole point
unfoldable pub impossible_at : List ℕ → Result (Verdict × List ℕ) ℕ
impossible_at bytes = if begins (codes "row ") bytes then false_row_at bytes else no_world_at bytes

-- what stands behind the line of a verdict and that of the program, up to the last line
unfoldable pub found_at : Head → List ℕ → Result (Verdict × List ℕ) ℕ
found_at (head.Optimal objective) bytes = optimal_at objective bytes
found_at head.Impossible bytes = impossible_at bytes
found_at (head.Unfinished nodes) bytes = unfinished_at nodes bytes

-- an answer, and what follows it
unfoldable pub answer_at : List ℕ → Result (Answer × List ℕ) ℕ
answer_at bytes = do
  start ← read_line (is_word (codes "tiresias answer 1")) bytes
  head ← read_line head_of start.1
  sizes ← read_line sizes_of head.1
  found ← found_at head.0 sizes.1
  Ok (record { columns = sizes.0.columns; rows = sizes.0.rows; formulas = sizes.0.formulas; verdict = found.0 }, found.1)

-- the whole of the bytes as an answer
unfoldable pub whole_at : List ℕ → Result Answer ℕ
whole_at bytes = answer_at bytes >>= λ x. if nat_lt 0 (length x.1) then Err (length x.1) else Ok x.0
