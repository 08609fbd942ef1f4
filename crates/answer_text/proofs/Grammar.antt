-- The text of an answer is read exactly, section by section.
use Rattle.std.proofs.Common.{◌≡◌, ◌+◌, ◌^◌, ◌<◌, ◌≤◌, ℕ, suc, ℤ, pos, negsuc, Bool, true, false, not, List, [], ◌∷◌, ◌++◌, length, refl, sym, ◌∙◌, ap, ap₂, arith, append_assoc, length-append, codes, decimal}
use Rattle.std.proofs.lemmas.List.{append-nil}
use Rattle.std.specs.Prelude.{Option, Some, None, Ok, Err, All, IfSome, flat_map, FitsSigned, unsigned_abs}
use Rattle.std.specs.Int.{w64}
use Rattle.branch_tree.specs.Tree.{IsTree, is_whole}
use Rattle.branch_tree.proofs.Trees.{tree_of_whole, whole_of_tree}
use Rattle.branch_tree.specs.declared.node.Node.{Node}
use Rattle.branch_tree.specs.declared.node.Node.TheVariants as node
use Rattle.branch_tree.specs.declared.node.Leaf.TheVariants as leaf
use Rattle.answer_text.specs.declared.answer.WorldText.{WorldText}
use Rattle.answer_text.specs.declared.answer.PartAnswer.{PartAnswer}
use Rattle.answer_text.specs.declared.answer.Verdict.{Verdict}
use Rattle.answer_text.specs.declared.lines.Head.{Head}
use Rattle.answer_text.specs.declared.lines.Head.TheVariants as head
use Rattle.answer_text.specs.declared.lines.Sizes.{Sizes}
use Rattle.base_kit.specs.Names.{is_name}
use Rattle.base_kit.specs.Keywords.{is_keyword}
use Rattle.answer_text.specs.declared.lines.WorldHead.{WorldHead}
use Rattle.answer_text.specs.declared.lines.PartHead.{PartHead}
use Rattle.answer_text.specs.Tokens.{strip, IsWithin}
use Rattle.answer_text.specs.Lines.{node_of, best_of, part_head_of, world_head_of, head_of, sizes_of}
use Rattle.answer_text.specs.Text.{column_word, node_line, split_line, best_line, part_bytes, world_bytes}
use Rattle.answer_text.specs.Blocks.{◌>>=◌, read_line, is_word, end_at, begins, wanted_behind, nodes_from, nodes_at, part_at, section_at, world_at, worlds_at, parts_at}
use Rattle.answer_text.specs.Answers.{IsNode, IsPart, IsWorld}
use Rattle.answer_text.proofs.Columns.{rising, rises_from}
use Rattle.answer_text.proofs.LineTexts.{node_body, split_body, NodeFits, node_reads, best_body, BestFits, best_reads, part_body, PartHeadFits, part_reads, world_body, WorldHeadFits, world_reads, word_reads, head_body, HeadFits, head_reads, sizes_body, SizesFit, sizes_reads}
use Rattle.answer_text.proofs.Words.{lacks}
use Rattle.answer_text.proofs.Readers.{Reads, ReadsLine, any_end, rest_within, reads_line, reads_both, reads_nothing, reads_as, reads_items, item_shorter, items_end, items_on, items_stop}
use Rattle.answer_text.proofs.Sections.{reads_section}
use Rattle.answer_text.proofs.TreeText.{reads_nodes, node_shorter, nodes_on, nodes_stop}

-- the ranges of the types, in the words of the reader
pub within_fits : (z : ℤ) → IsWithin (2 ^ 63 + 1) (2 ^ 63) z → FitsSigned w64 z
within_fits (pos n) within = record { sfits = within }
within_fits (negsuc n) within = record { sfits = omega arith }

pub fits_within : (z : ℤ) → FitsSigned w64 z → IsWithin (2 ^ 63 + 1) (2 ^ 63) z
fits_within (pos n) fits = fits.sfits
fits_within (negsuc n) fits = omega (arith, fits.sfits)

pub within_size : (z : ℤ) → IsWithin (2 ^ 127) (2 ^ 127) z → unsigned_abs z < 2 ^ 127
within_size (pos n) within = within
within_size (negsuc n) within = within

pub size_within : (z : ℤ) → unsigned_abs z < 2 ^ 127 → IsWithin (2 ^ 127) (2 ^ 127) z
size_within (pos n) small = small
size_within (negsuc n) small = small

-- the line of a node
node_text : (n : Node) → node_body n ++ 10 ∷ [] ≡ node_line n
unfolding split_body split_line
node_text (node.Split column at reason) = refl
node_text (node.Closed leaf.Fixed) = refl
node_text (node.Closed leaf.Pending) = refl

node_there : (n : Node) → NodeFits n → IsNode n
node_there (node.Split column at reason) fits = (fits.0, within_fits at fits.1)
node_there (node.Closed leaf) fits = tt

node_back : (n : Node) → IsNode n → NodeFits n
node_back (node.Split column at reason) fits = (fits.0, fits_within at fits.1)
node_back (node.Closed leaf) fits = tt

pub reads_node : Reads (read_line node_of) node_line IsNode any_end
reads_node = reads_as (read_line node_of) (λ n. node_body n ++ 10 ∷ []) node_line NodeFits IsNode any_end (λ n fits. node_text n) node_there node_back (reads_line node_of node_body NodeFits node_reads (node.Closed leaf.Pending) tt)

pub node_long : (n : Node) → IsNode n → 0 < length (node_line n)
unfolding split_line
node_long (node.Split column at reason) fits = omega arith
node_long (node.Closed leaf.Fixed) fits = omega arith
node_long (node.Closed leaf.Pending) fits = omega arith

-- one whole tree
pub reads_tree : Reads nodes_at (flat_map node_line) (λ nodes. (is_whole nodes ≡ true) × All IsNode nodes) any_end
unfolding nodes_at
reads_tree = reads_nodes node_line IsNode reads_node node_long tt 1

-- a part
head_of_part : PartAnswer → PartHead
head_of_part part = record { number = part.number; columns = part.columns }

abbrev made_part : PartHead → Option ℤ → List Node → PartAnswer
made_part head best tree = record { number = head.number; columns = head.columns; best = best; tree = tree }

-- the best value and the tree behind the line of the columns
module _ (head : PartHead) where
  tree_part : (best : Option ℤ) → Reads (λ bytes. nodes_at bytes >>= (λ tree. Ok (made_part head best tree.0, tree.1))) (λ part. flat_map node_line part.tree ++ []) (λ part. ((is_whole part.tree ≡ true) × All IsNode part.tree) × (part ≡ made_part head best part.tree)) any_end
  tree_part best =
      reads_both nodes_at (flat_map node_line) (λ nodes. (is_whole nodes ≡ true) × All IsNode nodes) any_end reads_tree
      (λ tree bytes. Ok (made_part head best tree, bytes)) (λ tree part. []) (λ tree part. part ≡ made_part head best tree) any_end (λ tree fits. reads_nothing (made_part head best tree))
      (λ part. part.tree) (λ tree part is. ap (λ (p : PartAnswer). p.tree) is) (λ common one other. refl) (λ tree part rest fits is end. refl)

  best_part : Reads (λ bytes. read_line best_of bytes >>= (λ best. nodes_at best.1 >>= (λ tree. Ok (made_part head best.0 tree.0, tree.1)))) (λ part. (best_body part.best ++ 10 ∷ []) ++ (flat_map node_line part.tree ++ []))
      (λ part. BestFits part.best × (((is_whole part.tree ≡ true) × All IsNode part.tree) × (part ≡ made_part head part.best part.tree))) any_end
  best_part =
      reads_both (read_line best_of) (λ best. best_body best ++ 10 ∷ []) BestFits any_end (reads_line best_of best_body BestFits best_reads None tt)
      (λ best bytes. nodes_at bytes >>= (λ tree. Ok (made_part head best tree.0, tree.1))) (λ best part. flat_map node_line part.tree ++ []) (λ best part. ((is_whole part.tree ≡ true) × All IsNode part.tree) × (part ≡ made_part head best part.tree)) any_end (λ best fits. tree_part best)
      (λ part. part.best) (λ best part is. ap (λ (p : PartAnswer). p.best) is.1) (λ common one other. refl) (λ best part rest fits is end. refl)

abbrev PartFits : PartAnswer → Type 0
PartFits part = PartHeadFits (head_of_part part) × (BestFits part.best × (((is_whole part.tree ≡ true) × All IsNode part.tree) × (part ≡ made_part (head_of_part part) part.best part.tree)))

abbrev some_head : PartHead
some_head = record { number = 0; columns = [] }

part_parts : Reads part_at (λ part. (part_body (head_of_part part) ++ 10 ∷ []) ++ ((best_body part.best ++ 10 ∷ []) ++ (flat_map node_line part.tree ++ []))) PartFits any_end
unfolding part_at head_of_part
part_parts =
    reads_both (read_line part_head_of) (λ head. part_body head ++ 10 ∷ []) PartHeadFits any_end (reads_line part_head_of part_body PartHeadFits part_reads some_head (record { number = omega arith; columns = tt }))
    (λ head bytes. read_line best_of bytes >>= (λ best. nodes_at best.1 >>= (λ tree. Ok (made_part head best.0 tree.0, tree.1)))) (λ head part. (best_body part.best ++ 10 ∷ []) ++ (flat_map node_line part.tree ++ []))
    (λ head part. BestFits part.best × (((is_whole part.tree ≡ true) × All IsNode part.tree) × (part ≡ made_part head part.best part.tree))) any_end (λ head fits. best_part head)
    head_of_part (λ head part is. ap head_of_part is.1.1) (λ common one other. refl) (λ head part rest fits is end. refl)

best_text : (best : Option ℤ) → best_body best ++ 10 ∷ [] ≡ best_line best
unfolding best_line
best_text None = refl
best_text (Some best) = refl

part_text : (part : PartAnswer) → (part_body (head_of_part part) ++ 10 ∷ []) ++ ((best_body part.best ++ 10 ∷ []) ++ (flat_map node_line part.tree ++ [])) ≡ part_bytes part
unfolding part_body part_bytes head_of_part
part_text part =
    let head = codes "part " ++ decimal part.number ++ codes " columns" ++ flat_map column_word part.columns ++ codes "\n" in
    ap (λ (l : List ℕ). head ++ l) (ap₂ (λ (a b : List ℕ). a ++ b) (best_text part.best) (append-nil (flat_map node_line part.tree))) ∙ sym (append_assoc head (best_line part.best) (flat_map node_line part.tree))

best_there : (best : Option ℤ) → BestFits best → IfSome best (λ b. unsigned_abs b < 2 ^ 127)
best_there None fits = tt
best_there (Some best) fits = within_size best fits

best_back : (best : Option ℤ) → IfSome best (λ b. unsigned_abs b < 2 ^ 127) → BestFits best
best_back None fits = tt
best_back (Some best) fits = size_within best fits

part_there : (part : PartAnswer) → PartFits part → IsPart part
unfolding head_of_part
part_there part fits =
    let rises = rising 0 part.columns fits.0.columns in
    record {
      number = fits.0.number;
      columns = rises.0;
      rising = rises.1;
      best = best_there part.best fits.1.0;
      tree = tree_of_whole part.tree fits.1.1.0.0;
      nodes = fits.1.1.0.1;
    }

part_back : (part : PartAnswer) → IsPart part → PartFits part
unfolding head_of_part
part_back part is =
    (record { number = is.number; columns = rises_from part.columns is.columns is.rising }, (best_back part.best is.best, ((whole_of_tree part.tree is.tree, is.nodes), refl)))

pub reads_part : Reads part_at part_bytes IsPart any_end
reads_part = reads_as part_at (λ part. (part_body (head_of_part part) ++ 10 ∷ []) ++ ((best_body part.best ++ 10 ∷ []) ++ (flat_map node_line part.tree ++ []))) part_bytes PartFits IsPart any_end (λ part fits. part_text part) part_there part_back part_parts

-- the section of a hypothetical table
head_of_world : WorldText → WorldHead
head_of_world world = record { name = world.name; rows = world.rows; size = length world.bytes }

abbrev made_world : WorldHead → List ℕ → WorldText
made_world head bytes = record { name = head.name; rows = head.rows; bytes = bytes }

section_part : (head : WorldHead) → Reads (λ bytes. section_at head.size bytes >>= (λ section. Ok (made_world head section.0, section.1))) (λ world. world.bytes ++ []) (λ world. (length world.bytes ≡ head.size) × (world ≡ made_world head world.bytes)) any_end
section_part head =
    reads_both (section_at head.size) (λ section. section) (λ section. length section ≡ head.size) any_end (reads_section head.size)
    (λ section bytes. Ok (made_world head section, bytes)) (λ section world. []) (λ section world. world ≡ made_world head section) any_end (λ section fits. reads_nothing (made_world head section))
    (λ world. world.bytes) (λ section world is. ap (λ (w : WorldText). w.bytes) is) (λ common one other. refl) (λ section world rest fits is end. refl)

abbrev WorldFits : WorldText → Type 0
WorldFits world = WorldHeadFits (head_of_world world) × ((length world.bytes ≡ (head_of_world world).size) × (world ≡ made_world (head_of_world world) world.bytes))

abbrev some_world : WorldHead
some_world = record { name = codes "h"; rows = 0; size = 0 }

some_world_fits : WorldHeadFits some_world
unfolding is_name is_keyword
some_world_fits = record { name = refl; rows = omega arith; size = omega arith }

same_head : (head : WorldHead) (world : WorldText) → (length world.bytes ≡ head.size) × (world ≡ made_world head world.bytes) → head_of_world world ≡ head
unfolding head_of_world
same_head head world is = ap (λ (w : WorldText). record { name = w.name; rows = w.rows; size = length world.bytes }) is.1 ∙ ap (λ (n : ℕ). record { name = head.name; rows = head.rows; size = n }) is.0

world_parts : Reads world_at (λ world. (world_body (head_of_world world) ++ 10 ∷ []) ++ (world.bytes ++ [])) WorldFits any_end
unfolding world_at head_of_world
world_parts =
    reads_both (read_line world_head_of) (λ head. world_body head ++ 10 ∷ []) WorldHeadFits any_end (reads_line world_head_of world_body WorldHeadFits world_reads some_world some_world_fits)
    (λ head bytes. section_at head.size bytes >>= (λ section. Ok (made_world head section.0, section.1))) (λ head world. world.bytes ++ []) (λ head world. (length world.bytes ≡ head.size) × (world ≡ made_world head world.bytes)) any_end (λ head fits. section_part head)
    head_of_world same_head (λ common one other. refl) (λ head world rest fits is end. refl)

world_text : (world : WorldText) → (world_body (head_of_world world) ++ 10 ∷ []) ++ (world.bytes ++ []) ≡ world_bytes world
unfolding world_body world_bytes head_of_world
world_text world = ap (λ (l : List ℕ). codes "world " ++ world.name ++ codes " " ++ decimal world.rows ++ codes " " ++ decimal (length world.bytes) ++ codes "\n" ++ l) (append-nil world.bytes)

world_there : (world : WorldText) → WorldFits world → IsWorld world
unfolding head_of_world
world_there world fits = record { name = fits.0.name; rows = fits.0.rows; size = fits.0.size }

world_back : (world : WorldText) → IsWorld world → WorldFits world
unfolding head_of_world
world_back world is = (record { name = is.name; rows = is.rows; size = is.size }, (refl, refl))

pub reads_world : Reads world_at world_bytes IsWorld any_end
reads_world = reads_as world_at (λ world. (world_body (head_of_world world) ++ 10 ∷ []) ++ (world.bytes ++ [])) world_bytes WorldFits IsWorld any_end (λ world fits. world_text world) world_there world_back world_parts

-- a section begins with its word, and so does a part
pub world_begins : (world : WorldText) (rest : List ℕ) → IsWorld world → begins (codes "world ") (world_bytes world ++ rest) ≡ true
unfolding world_bytes strip
world_begins world rest is = refl

pub part_begins : (part : PartAnswer) (rest : List ℕ) → IsPart part → begins (codes "part ") (part_bytes part ++ rest) ≡ true
unfolding part_bytes strip
part_begins part rest is = refl

abbrev pub not_world : List ℕ → Bool
not_world rest = not (begins (codes "world ") rest)

abbrev pub not_part : List ℕ → Bool
not_part rest = not (begins (codes "part ") rest)

none_begins : (letter : ℕ) (word : List ℕ) → begins (letter ∷ word) [] ≡ false
unfolding strip
none_begins letter word = refl

pub reads_worlds : Reads worlds_at (flat_map world_bytes) (All IsWorld) not_world
unfolding worlds_at
reads_worlds = reads_items (codes "world ") refl (none_begins 119 (codes "orld ")) world_at world_bytes IsWorld reads_world world_begins

pub reads_parts : Reads parts_at (flat_map part_bytes) (All IsPart) not_part
unfolding parts_at
reads_parts = reads_items (codes "part ") refl (none_begins 112 (codes "art ")) part_at part_bytes IsPart reads_part part_begins

-- a loop over the sections, and one over the parts
pub world_shorter : (bytes : List ℕ) (x : WorldText × List ℕ) → world_at bytes ≡ Ok x → length x.1 < length bytes
world_shorter = item_shorter (codes "world ") refl (none_begins 119 (codes "orld ")) world_at world_bytes IsWorld reads_world world_begins

pub worlds_end : (bytes : List ℕ) → begins (codes "world ") bytes ≡ false → worlds_at bytes ≡ Ok ([], bytes)
unfolding worlds_at
worlds_end = items_end (codes "world ") refl (none_begins 119 (codes "orld ")) world_at world_bytes IsWorld reads_world world_begins

pub worlds_on : (bytes : List ℕ) (x : WorldText × List ℕ) → begins (codes "world ") bytes ≡ true → world_at bytes ≡ Ok x → worlds_at bytes ≡ (worlds_at x.1 >>= (λ xs. Ok (x.0 ∷ xs.0, xs.1)))
unfolding worlds_at
worlds_on = items_on (codes "world ") refl (none_begins 119 (codes "orld ")) world_at world_bytes IsWorld reads_world world_begins

pub worlds_stop : (bytes : List ℕ) (left : ℕ) → begins (codes "world ") bytes ≡ true → world_at bytes ≡ Err left → worlds_at bytes ≡ Err left
unfolding worlds_at
worlds_stop = items_stop (codes "world ") refl (none_begins 119 (codes "orld ")) world_at world_bytes IsWorld reads_world world_begins

pub part_shorter : (bytes : List ℕ) (x : PartAnswer × List ℕ) → part_at bytes ≡ Ok x → length x.1 < length bytes
part_shorter = item_shorter (codes "part ") refl (none_begins 112 (codes "art ")) part_at part_bytes IsPart reads_part part_begins

pub parts_end : (bytes : List ℕ) → begins (codes "part ") bytes ≡ false → parts_at bytes ≡ Ok ([], bytes)
unfolding parts_at
parts_end = items_end (codes "part ") refl (none_begins 112 (codes "art ")) part_at part_bytes IsPart reads_part part_begins

pub parts_on : (bytes : List ℕ) (x : PartAnswer × List ℕ) → begins (codes "part ") bytes ≡ true → part_at bytes ≡ Ok x → parts_at bytes ≡ (parts_at x.1 >>= (λ xs. Ok (x.0 ∷ xs.0, xs.1)))
unfolding parts_at
parts_on = items_on (codes "part ") refl (none_begins 112 (codes "art ")) part_at part_bytes IsPart reads_part part_begins

pub parts_stop : (bytes : List ℕ) (left : ℕ) → begins (codes "part ") bytes ≡ true → part_at bytes ≡ Err left → parts_at bytes ≡ Err left
unfolding parts_at
parts_stop = items_stop (codes "part ") refl (none_begins 112 (codes "art ")) part_at part_bytes IsPart reads_part part_begins

-- a loop over the nodes
pub reads_node-shorter : (bytes : List ℕ) (x : Node × List ℕ) → read_line node_of bytes ≡ Ok x → length x.1 < length bytes
reads_node-shorter = node_shorter node_line IsNode reads_node node_long tt

pub nodes_step : (trees : ℕ) (bytes : List ℕ) (x : Node × List ℕ) → read_line node_of bytes ≡ Ok x → nodes_from (length bytes) (suc trees) bytes ≡ (nodes_from (length x.1) (wanted_behind x.0 trees) x.1 >>= (λ xs. Ok (x.0 ∷ xs.0, xs.1)))
nodes_step = nodes_on node_line IsNode reads_node node_long tt

pub nodes_stopped : (trees : ℕ) (bytes : List ℕ) (left : ℕ) → read_line node_of bytes ≡ Err left → nodes_from (length bytes) (suc trees) bytes ≡ Err left
nodes_stopped = nodes_stop node_line IsNode reads_node node_long tt

-- no more bytes are left behind a line than there were
module _ {A : Type 0} (parse : List ℕ → Option A) (text : A → List ℕ) (meets : A → Type 0) (lines : ReadsLine parse text meets) (some : A) (fits : meets some) where
  pub line_within : (bytes : List ℕ) (x : A × List ℕ) → read_line parse bytes ≡ Ok x → length x.1 ≤ length bytes
  line_within = rest_within (read_line parse) (λ value. text value ++ 10 ∷ []) meets any_end (reads_line parse text meets lines some fits)

pub best_within : (bytes : List ℕ) (x : Option ℤ × List ℕ) → read_line best_of bytes ≡ Ok x → length x.1 ≤ length bytes
best_within = line_within best_of best_body BestFits best_reads None tt

pub part_head_within : (bytes : List ℕ) (x : PartHead × List ℕ) → read_line part_head_of bytes ≡ Ok x → length x.1 ≤ length bytes
part_head_within = line_within part_head_of part_body PartHeadFits part_reads some_head (record { number = omega arith; columns = tt })

pub word_within : (word : List ℕ) → lacks 10 word ≡ true → (bytes : List ℕ) (x : Unit {0} × List ℕ) → read_line (is_word word) bytes ≡ Ok x → length x.1 ≤ length bytes
word_within word one = line_within (is_word word) (λ value. word) (λ value. Unit {0}) (word_reads word one) tt tt

pub head_within : (bytes : List ℕ) (x : Head × List ℕ) → read_line head_of bytes ≡ Ok x → length x.1 ≤ length bytes
head_within = line_within head_of head_body HeadFits head_reads head.Impossible tt

pub sizes_within : (bytes : List ℕ) (x : Sizes × List ℕ) → read_line sizes_of bytes ≡ Ok x → length x.1 ≤ length bytes
sizes_within = line_within sizes_of sizes_body SizesFit sizes_reads (record { columns = 0; rows = 0; formulas = 0 }) (record { columns = omega arith; rows = omega arith; formulas = omega arith })

pub worlds_within : (bytes : List ℕ) (x : List WorldText × List ℕ) → worlds_at bytes ≡ Ok x → length x.1 ≤ length bytes
worlds_within = rest_within worlds_at (flat_map world_bytes) (All IsWorld) not_world reads_worlds

-- the nodes that are read are one whole tree, and fewer than the bytes
pub nodes_whole : (bytes : List ℕ) (x : List Node × List ℕ) → nodes_at bytes ≡ Ok x → IsTree x.0
nodes_whole bytes x e = tree_of_whole x.0 (reads_tree.takes bytes x e).0.0

nodes_long : (nodes : List Node) → All IsNode nodes → length nodes ≤ length (flat_map node_line nodes)
nodes_long [] each = omega arith
nodes_long (first ∷ nodes) each =
    omega (arith, node_long first (each 0 first (omega arith)), nodes_long nodes (λ k d lt. each (suc k) d (omega arith)), length-append (node_line first) (flat_map node_line nodes))

pub nodes_few : (bytes : List ℕ) (x : List Node × List ℕ) → nodes_at bytes ≡ Ok x → length x.0 ≤ length bytes
nodes_few bytes x e =
    let took = reads_tree.takes bytes x e in
    omega (arith, nodes_long x.0 took.0.1, ap length took.1, length-append (flat_map node_line x.0) x.1)

-- the last line
abbrev pub end_text : List ℕ
end_text = codes "end\n"

-- a last line, and a verdict
module _ (made : Verdict) where
  pub reads_end : Reads (λ bytes. end_at bytes >>= (λ end. Ok (made, end.1))) (λ verdict. end_text ++ []) (λ verdict. Unit {0} × (verdict ≡ made)) any_end
  reads_end =
      reads_both end_at (λ end. codes "end" ++ 10 ∷ []) (λ end. Unit {0}) any_end (reads_line (is_word (codes "end")) (λ value. codes "end") (λ value. Unit {0}) (word_reads (codes "end") refl) tt tt)
      (λ end bytes. Ok (made, bytes)) (λ end verdict. []) (λ end verdict. verdict ≡ made) any_end (λ end fits. reads_nothing made)
      (λ verdict. tt) (λ end verdict is. refl) (λ common one other. refl) (λ end verdict rest fits is ended. refl)
