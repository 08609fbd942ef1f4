-- What a text is that an answer has, and where bytes stop beginning one.
use Rattle.std.specs.Prelude.{◌≡◌, ◌+◌, ◌^◌, ◌<◌, ◌≤◌, ℕ, List, ◌++◌, length, take, All, IfSome, IsTrue, ◌==◌, unsigned_abs, FitsSigned}
use Rattle.std.specs.Int.{w64}
use Rattle.std.specs.List.{count_by}
use Rattle.std.specs.List.Sorted.{IsStrictlyIncreasing}
use Rattle.base_kit.specs.Names.{is_name}
use Rattle.branch_tree.specs.Tree.{IsTree}
use Rattle.branch_tree.specs.declared.node.Node.{Node}
use Rattle.branch_tree.specs.declared.node.Node.TheVariants as node
use Rattle.answer_text.specs.declared.answer.WorldText.{WorldText}
use Rattle.answer_text.specs.declared.answer.PartAnswer.{PartAnswer}
use Rattle.answer_text.specs.declared.answer.Verdict.{Verdict}
use Rattle.answer_text.specs.declared.answer.Verdict.TheVariants as verdict
use Rattle.answer_text.specs.declared.answer.Answer.{Answer}
use Rattle.answer_text.specs.Text.{answer_bytes}

-- a node whose column has 32 bits and whose number has 64
abbrev pub IsNode : Node → Type 0
IsNode (node.Split column at reason) = (column < 2 ^ 32) × FitsSigned w64 at
IsNode (node.Closed leaf) = Unit {0}

-- a part whose columns rise, whose best value is less than 2 ^ 127 in size, and whose nodes are one whole tree
pub record IsPart (part : PartAnswer) : Type 0 where
  pub number : part.number < 2 ^ 32
  pub columns : All (λ column. column < 2 ^ 32) part.columns
  pub rising : IsStrictlyIncreasing part.columns
  pub best : IfSome part.best (λ best. unsigned_abs best < 2 ^ 127)
  pub tree : IsTree part.tree
  pub nodes : All IsNode part.tree

-- a named table with fewer than 2 ^ 32 rows and bytes
pub record IsWorld (world : WorldText) : Type 0 where
  pub name : IsTrue (is_name world.name)
  pub rows : world.rows < 2 ^ 32
  pub size : length world.bytes < 2 ^ 32

-- what a verdict carries
abbrev pub IsVerdict : Verdict → Type 0
IsVerdict (verdict.Optimal objective worlds parts) = FitsSigned w64 objective × All IsWorld worlds × All IsPart parts
IsVerdict (verdict.FalseRow row) = row < 2 ^ 32
IsVerdict (verdict.NoWorld part) = IsPart part
IsVerdict (verdict.Unfinished nodes parts) = (nodes < 2 ^ 32) × All IsPart parts

-- an answer that has a text
pub record IsAnswer (answer : Answer) : Type 0 where
  pub columns : answer.columns < 2 ^ 32
  pub rows : answer.rows < 2 ^ 32
  pub formulas : answer.formulas < 2 ^ 32
  pub verdict : IsVerdict answer.verdict

-- the answer has a text, and it is these bytes
pub record AnswerText (answer : Answer) (bytes : List ℕ) : Type 0 where
  pub meets : IsAnswer answer
  pub spelled : bytes ≡ answer_bytes answer

-- the bytes begin the text of some answer
abbrev pub BeginsAnswer : List ℕ → Type 0
BeginsAnswer bytes = (answer : Answer) × (more : List ℕ) × AnswerText answer (bytes ++ more)

-- the first bytes, so many, begin the text of some answer, and with one byte more they begin none, if there is one more
pub record IsStop (bytes : List ℕ) (count : ℕ) : Type 0 where
  pub within : count ≤ length bytes
  pub begins : BeginsAnswer (take count bytes)
  pub longest : count < length bytes → BeginsAnswer (take (count + 1) bytes) → ⊥

-- the line in which the byte behind so many stands, or the end of the bytes, counted from 1 by the line breaks before it
abbrev pub line_of : List ℕ → ℕ → ℕ
line_of bytes count = 1 + count_by (λ byte. byte == 10) (take count bytes)
