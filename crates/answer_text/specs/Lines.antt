-- How the lines of an answer's text are read, each without its end.
use Rattle.std.specs.Prelude.{◌+◌, ◌^◌, ℕ, ℤ, nat_lt, ◌==◌, if◌then◌else◌, Option, Some, None, List, [], ◌∷◌, ◌++◌, codes}
use Rattle.std.specs.Option.{option_map}
use Rattle.std.specs.Str.{bytes_eq}
use Rattle.branch_tree.specs.declared.node.Node.{Node}
use Rattle.branch_tree.specs.declared.node.Node.TheVariants as node
use Rattle.branch_tree.specs.declared.node.Leaf.{Leaf}
use Rattle.branch_tree.specs.declared.node.Leaf.TheVariants as leaf
use Rattle.branch_tree.specs.declared.node.Reason.{Reason}
use Rattle.branch_tree.specs.declared.node.Reason.TheVariants as reason
use Rattle.answer_text.specs.declared.lines.Head.{Head}
use Rattle.answer_text.specs.declared.lines.Head.TheVariants as head
use Rattle.answer_text.specs.declared.lines.Sizes.{Sizes}
use Rattle.answer_text.specs.declared.lines.WorldHead.{WorldHead}
use Rattle.answer_text.specs.declared.lines.PartHead.{PartHead}
use Rattle.answer_text.specs.Tokens.{cut, strip, number_of, signed_of, name_of}

infixl 10 ◌>>=◌
-- the next word, where the one before it was read
abbrev pub ◌>>=◌ : {X Y : Type 0} → Option X → (X → Option Y) → Option Y
None >>= f = None
(Some x) >>= f = f x

-- what is read behind a word, or else of the whole
abbrev pub either : {X Y : Type 0} → Option X → (X → Option Y) → Option Y → Option Y
either None f other = other
either (Some x) f other = f x

-- the text is the word
abbrev pub when : {Y : Type 0} → List ℕ → List ℕ → Y → Option Y
when text word y = if bytes_eq text word then Some y else None

-- the line of the verdict that no world will do
abbrev pub impossible_of : List ℕ → Option Head
impossible_of text = when text (codes "impossible") head.Impossible

-- the line of a verdict that is not optimal
unfoldable pub other_head_of : List ℕ → Option Head
other_head_of text = either (strip (codes "unfinished ") text) (λ nodes. option_map head.Unfinished (number_of (2 ^ 32) nodes)) (impossible_of text)

-- the line of a verdict
unfoldable pub head_of : List ℕ → Option Head
head_of text = either (strip (codes "optimal ") text) (λ objective. option_map head.Optimal (signed_of (2 ^ 63 + 1) (2 ^ 63) objective)) (other_head_of text)

-- the line of the program's numbers
unfoldable pub sizes_of : List ℕ → Option Sizes
sizes_of text = do
  rest ← strip (codes "program ") text
  columns ← cut 32 rest
  count ← number_of (2 ^ 32) columns.0
  rows ← cut 32 columns.1
  size ← number_of (2 ^ 32) rows.0
  formulas ← number_of (2 ^ 32) rows.1
  Some (record { columns = count; rows = size; formulas = formulas })

-- the line of a false row
unfoldable pub row_of : List ℕ → Option ℕ
row_of text = strip (codes "row ") text >>= number_of (2 ^ 32)

-- the words of the line of a hypothetical table: its name, its number of rows, and its number of bytes
unfoldable pub world_words : List ℕ → Option (List ℕ × ℕ × ℕ)
world_words text = do
  rest ← strip (codes "world ") text
  name ← cut 32 rest
  rows ← cut 32 name.1
  count ← number_of (2 ^ 32) rows.0
  size ← number_of (2 ^ 32) rows.1
  Some (name.0, count, size)

-- the words of the line of a part's columns: the part's number, and the text of the columns
unfoldable pub part_words : List ℕ → Option (ℕ × List ℕ)
part_words text = do
  rest ← strip (codes "part ") text
  word ← cut 32 rest
  number ← number_of (2 ^ 32) word.0
  columns ← strip (codes "columns") word.1
  Some (number, columns)

-- a best value
unfoldable pub best_word : List ℕ → Option (Option ℤ)
best_word word = if bytes_eq word (codes "none") then Some None else option_map (λ best. Some best) (signed_of (2 ^ 127) (2 ^ 127) word)

-- the line of a best value
unfoldable pub best_of : List ℕ → Option (Option ℤ)
best_of text = strip (codes "best ") text >>= best_word

-- the reason of a split
abbrev pub reason_of : List ℕ → Option Reason
reason_of word = when word (codes "plain") reason.Plain

-- what stands behind the word of a split
unfoldable pub split_of : List ℕ → Option Node
split_of text = do
  column ← cut 32 text
  number ← number_of (2 ^ 32) column.0
  at ← cut 32 column.1
  value ← signed_of (2 ^ 63 + 1) (2 ^ 63) at.0
  reason ← reason_of at.1
  Some (node.Split number value reason)

-- the line of a leaf
abbrev pub leaf_of : List ℕ → Option Leaf
leaf_of text = if bytes_eq text (codes "fixed") then Some leaf.Fixed else when text (codes "open") leaf.Pending

-- the line of a node
unfoldable pub node_of : List ℕ → Option Node
node_of text = either (strip (codes "split ") text) split_of (option_map node.Closed (leaf_of text))

-- a column that is at least so great
unfoldable pub column_of : ℕ → List ℕ → Option ℕ
column_of least word = number_of (2 ^ 32) word >>= λ column. if nat_lt column least then None else Some column

-- columns between spaces, each greater than the one before it; the word has begun with these bytes
unfoldable pub columns_from : ℕ → List ℕ → List ℕ → Option (List ℕ)
columns_from least word [] = option_map (λ column. column ∷ []) (column_of least word)
columns_from least word (byte ∷ bytes) =
    if byte == 32
    then column_of least word >>= (λ column. option_map (λ columns. column ∷ columns) (columns_from (column + 1) [] bytes))
    else columns_from least (word ++ byte ∷ []) bytes

-- the columns of a part, each behind a space
unfoldable pub columns_of : List ℕ → Option (List ℕ)
columns_of [] = Some []
columns_of (byte ∷ bytes) = if byte == 32 then columns_from 0 [] bytes else None

-- the line of a hypothetical table
unfoldable pub world_head_of : List ℕ → Option WorldHead
world_head_of text = do
  words ← world_words text
  name ← name_of words.0
  Some (record { name = name; rows = words.1; size = words.2 })

-- the line of a part's columns
unfoldable pub part_head_of : List ℕ → Option PartHead
part_head_of text = do
  words ← part_words text
  columns ← columns_of words.1
  Some (record { number = words.0; columns = columns })
