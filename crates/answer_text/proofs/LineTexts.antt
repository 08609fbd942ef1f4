-- The lines of an answer's text, each without its end, are read exactly.
use Rattle.std.proofs.Common.{◌≡◌, ◌+◌, ◌^◌, ◌<◌, ◌≤◌, ℕ, zero, suc, ℤ, pos, negsuc, Bool, true, false, cond, List, [], ◌∷◌, ◌++◌, refl, sym, ◌∙◌, ap, ap₂, subst, arith, append_assoc, eqb, codes, decimal}
use Rattle.std.proofs.lemmas.Bool.{true≢false, ne_eqb}
use Rattle.std.proofs.lemmas.Slice.Eq.{bytes_eq-Decides}
use Rattle.std.specs.Prelude.{Option, Some, None, option_and_then, flat_map}
use Rattle.std.specs.Option.{option_map}
use Rattle.std.specs.Fmt.{signed_decimal}
use Rattle.std.specs.Str.{bytes_eq}
use Rattle.std.specs.Char.{is_ascii_digit}
use Rattle.branch_tree.specs.declared.node.Node.{Node}
use Rattle.branch_tree.specs.declared.node.Node.TheVariants as node
use Rattle.branch_tree.specs.declared.node.Leaf.{Leaf}
use Rattle.branch_tree.specs.declared.node.Leaf.TheVariants as leaf
use Rattle.branch_tree.specs.declared.node.Reason.{Reason}
use Rattle.branch_tree.specs.declared.node.Reason.TheVariants as reason
use Rattle.answer_text.specs.Tokens.{strip, number_of, signed_of, signed_from, negated, are_digits, IsWithin, name_of}
use Rattle.answer_text.specs.Text.{reason_word, column_word}
use Rattle.answer_text.specs.declared.lines.Head.{Head}
use Rattle.answer_text.specs.declared.lines.Head.TheVariants as head
use Rattle.answer_text.specs.declared.lines.Sizes.{Sizes}
use Rattle.answer_text.specs.Lines.{◌>>=◌, either, when, impossible_of, other_head_of, head_of, sizes_of, row_of, world_words, part_words, best_word, best_of, reason_of, split_of, leaf_of, node_of, world_head_of, part_head_of, columns_of}
use Rattle.answer_text.specs.declared.lines.WorldHead.{WorldHead}
use Rattle.answer_text.specs.declared.lines.PartHead.{PartHead}
use Rattle.answer_text.specs.Blocks.{is_word}
use Rattle.base_kit.specs.Names.{is_name}
use Rattle.answer_text.proofs.Words.{lacks, lacks-both, cut_takes, cut_again, strip_takes, strip_again}
use Rattle.answer_text.proofs.Numbers.{number_of-takes, number_of-again, decimal_lacks, decimal_spells, all_head}
use Rattle.answer_text.proofs.Names.{name_lacks}
use Rattle.answer_text.proofs.Columns.{RisesFrom, columns_of-takes, columns_of-gives, columns_lack}
use Rattle.answer_text.proofs.Readers.{ReadsLine}

-- what was read before
pub bind_some : {X Y : Type 0} (o : Option X) (f : X → Option Y) (y : Y) → (o >>= f) ≡ Some y → (x : X) × (o ≡ Some x) × (f x ≡ Some y)
bind_some None f y e = cc
bind_some (Some x) f y e = (x, refl, e)

pub map_some : {X Y : Type 0} (f : X → Y) (o : Option X) (y : Y) → option_map f o ≡ Some y → (x : X) × (o ≡ Some x) × (f x ≡ y)
map_some f None y e = cc
map_some f (Some x) y e = (x, refl, cc)

pub some_same : {X : Type 0} (x y : X) → ◌≡◌ {A = Option X} (Some x) (Some y) → x ≡ y
some_same x y e = cc

pub when_takes : {Y : Type 0} (text word : List ℕ) (y z : Y) → when text word y ≡ Some z → (text ≡ word) × (y ≡ z)
when_takes {Y} text word y z e = by_test (bytes_eq text word) refl e
  where
    by_test : (b : Bool) → bytes_eq text word ≡ b → cond b (Some y) None ≡ Some z → (text ≡ word) × (y ≡ z)
    by_test true is e = ((bytes_eq-Decides text word).0 is, some_same y z e)
    by_test false is e = cc

pub when_gives : {Y : Type 0} (word : List ℕ) (y : Y) → when word word y ≡ Some y
when_gives word y = rw ((bytes_eq-Decides word word).1 refl)

-- a number with its sign has one spelling
signed_takes-by : (below above : ℕ) (text : List ℕ) (o : Option (List ℕ)) → strip (45 ∷ []) text ≡ o → (z : ℤ) → signed_from below above text o ≡ Some z → IsWithin below above z × (text ≡ signed_decimal z)
signed_takes-by below above text None is z e =
    let found = map_some (λ (n : ℕ). pos n) (number_of above text) z e in
    let took = number_of-takes above text found.0 found.1 in
    subst (λ (v : ℤ). IsWithin below above v × (text ≡ signed_decimal v)) found.2 (took.0, took.1)
signed_takes-by below above text (Some digits) is z e = by_number (number_of below digits) refl e
  where
    by_number : (o : Option ℕ) → number_of below digits ≡ o → option_and_then negated o ≡ Some z → IsWithin below above z × (text ≡ signed_decimal z)
    by_number None so e = cc
    by_number (Some zero) so e = cc
    by_number (Some (suc n)) so e =
        let took = number_of-takes below digits (suc n) so in
        let spelled : text ≡ 45 ∷ decimal (suc n) = strip_takes (45 ∷ []) text digits is ∙ ap (λ (l : List ℕ). 45 ∷ l) took.1 in
        subst (λ (v : ℤ). IsWithin below above v × (text ≡ signed_decimal v)) (some_same (negsuc n) z e) (took.0, spelled)

pub signed_takes : (below above : ℕ) (text : List ℕ) (z : ℤ) → signed_of below above text ≡ Some z → IsWithin below above z × (text ≡ signed_decimal z)
unfolding signed_of
signed_takes below above text z e = signed_takes-by below above text (strip (45 ∷ []) text) refl z e

-- digits have no minus in front
strip_minus : (digits : List ℕ) → are_digits digits ≡ true → strip (45 ∷ []) digits ≡ None
unfolding strip
strip_minus [] all = refl
strip_minus (digit ∷ digits) all =
    let apart : eqb digit 45 ≡ false = ne_eqb digit 45 (λ same. true≢false (sym (all_head is_ascii_digit digit digits all) ∙ ap is_ascii_digit same)) in
    rw apart

pub signed_gives : (below above : ℕ) (z : ℤ) → below ≤ 2 ^ 127 → above ≤ 2 ^ 127 → IsWithin below above z → signed_of below above (signed_decimal z) ≡ Some z
unfolding signed_of strip
signed_gives below above (pos n) low high within =
    ap (signed_from below above (decimal n)) (strip_minus (decimal n) (decimal_spells n (omega arith)).all) ∙ ap (option_map (λ (m : ℕ). pos m)) (number_of-again above n within high)
signed_gives below above (negsuc n) low high within = ap (option_and_then negated) (number_of-again below (suc n) within low)

pub signed_lacks : (mark below above : ℕ) (z : ℤ) → is_ascii_digit mark ≡ false → eqb 45 mark ≡ false → below ≤ 2 ^ 127 → above ≤ 2 ^ 127 → IsWithin below above z → lacks mark (signed_decimal z) ≡ true
signed_lacks mark below above (pos n) other apart low high within = decimal_lacks mark n other (omega arith)
signed_lacks mark below above (negsuc n) other apart low high within = rw apart (decimal_lacks mark (suc n) other (omega arith))

-- how the words of a line are parted
three_words : (word a b c : List ℕ) → word ++ a ++ 32 ∷ [] ++ b ++ 32 ∷ [] ++ c ≡ word ++ (a ++ 32 ∷ (b ++ 32 ∷ c))
three_words word a b c = simp append_assoc

-- a number of 32 bits lacks a space and a line break
u32_lacks : (mark n : ℕ) → is_ascii_digit mark ≡ false → n < 2 ^ 32 → lacks mark (decimal n) ≡ true
u32_lacks mark n other low = decimal_lacks mark n other (omega arith)

-- the line of a node
unfoldable pub split_body : ℕ → ℤ → Reason → List ℕ
split_body column at reason = codes "split " ++ decimal column ++ codes " " ++ signed_decimal at ++ codes " " ++ reason_word reason

abbrev pub node_body : Node → List ℕ
node_body (node.Split column at reason) = split_body column at reason
node_body (node.Closed leaf.Fixed) = codes "fixed"
node_body (node.Closed leaf.Pending) = codes "open"

abbrev pub NodeFits : Node → Type 0
NodeFits (node.Split column at reason) = (column < 2 ^ 32) × IsWithin (2 ^ 63 + 1) (2 ^ 63) at
NodeFits (node.Closed leaf) = Unit {0}

reason_takes : (word : List ℕ) (r : Reason) → reason_of word ≡ Some r → word ≡ reason_word r
reason_takes word reason.Plain e = (when_takes word (codes "plain") reason.Plain reason.Plain e).0

split_takes : (rest : List ℕ) (n : Node) → split_of rest ≡ Some n → NodeFits n × (codes "split " ++ rest ≡ node_body n)
unfolding split_of split_body
split_takes rest n e =
    let column = bind_some _ _ _ e in
    let number = bind_some _ _ _ column.2 in
    let at = bind_some _ _ _ number.2 in
    let value = bind_some _ _ _ at.2 in
    let why = bind_some _ _ _ value.2 in
    let one = cut_takes 32 rest column.0 column.1 in
    let two = number_of-takes (2 ^ 32) column.0.0 number.0 number.1 in
    let three = cut_takes 32 column.0.1 at.0 at.1 in
    let four = signed_takes (2 ^ 63 + 1) (2 ^ 63) at.0.0 value.0 value.1 in
    let five = reason_takes at.0.1 why.0 why.1 in
    let inner : column.0.1 ≡ signed_decimal value.0 ++ 32 ∷ reason_word why.0 = three.0 ∙ ap₂ (λ (a b : List ℕ). a ++ 32 ∷ b) four.1 five in
    let whole : rest ≡ decimal number.0 ++ 32 ∷ (signed_decimal value.0 ++ 32 ∷ reason_word why.0) = one.0 ∙ ap₂ (λ (a b : List ℕ). a ++ 32 ∷ b) two.1 inner in
    let spelled : codes "split " ++ rest ≡ split_body number.0 value.0 why.0 = ap (λ (l : List ℕ). codes "split " ++ l) whole ∙ sym (three_words (codes "split ") (decimal number.0) (signed_decimal value.0) (reason_word why.0)) in
    subst (λ (m : Node). NodeFits m × (codes "split " ++ rest ≡ node_body m)) (some_same (node.Split number.0 value.0 why.0) n why.2) ((two.0, four.0), spelled)

leaf_takes : (text : List ℕ) (l : Leaf) → leaf_of text ≡ Some l → text ≡ node_body (node.Closed l)
leaf_takes text l e = by_test (bytes_eq text (codes "fixed")) refl e
  where
    by_test : (b : Bool) → bytes_eq text (codes "fixed") ≡ b → cond b (Some leaf.Fixed) (when text (codes "open") leaf.Pending) ≡ Some l → text ≡ node_body (node.Closed l)
    by_test true is e = (bytes_eq-Decides text (codes "fixed")).0 is ∙ ap (λ (k : Leaf). node_body (node.Closed k)) (some_same leaf.Fixed l e)
    by_test false is e = let took = when_takes text (codes "open") leaf.Pending l e in took.0 ∙ ap (λ (k : Leaf). node_body (node.Closed k)) took.1

node_takes : (text : List ℕ) (n : Node) → node_of text ≡ Some n → NodeFits n × (text ≡ node_body n)
unfolding node_of
node_takes text n e = by_strip (strip (codes "split ") text) refl e
  where
    by_strip : (o : Option (List ℕ)) → strip (codes "split ") text ≡ o → either o split_of (option_map (λ (l : Leaf). node.Closed l) (leaf_of text)) ≡ Some n → NodeFits n × (text ≡ node_body n)
    by_strip None is e =
        let found = map_some (λ (l : Leaf). node.Closed l) (leaf_of text) n e in
        subst (λ (m : Node). NodeFits m × (text ≡ node_body m)) found.2 (tt, leaf_takes text found.0 found.1)
    by_strip (Some rest) is e =
        let took = split_takes rest n e in
        (took.0, strip_takes (codes "split ") text rest is ∙ took.1)

split_gives : (column : ℕ) (at : ℤ) (r : Reason) → column < 2 ^ 32 → IsWithin (2 ^ 63 + 1) (2 ^ 63) at → split_of (decimal column ++ 32 ∷ (signed_decimal at ++ 32 ∷ reason_word r)) ≡ Some (node.Split column at r)
unfolding split_of
split_gives column at reason.Plain low within =
    let one = cut_again 32 (decimal column) (signed_decimal at ++ 32 ∷ codes "plain") (u32_lacks 32 column refl low) in
    let two = number_of-again (2 ^ 32) column low (omega arith) in
    let three = cut_again 32 (signed_decimal at) (codes "plain") (signed_lacks 32 (2 ^ 63 + 1) (2 ^ 63) at refl refl (omega arith) (omega arith) within) in
    let four = signed_gives (2 ^ 63 + 1) (2 ^ 63) at (omega arith) (omega arith) within in
    rw (one, two, three, four)

node_gives : (n : Node) → NodeFits n → node_of (node_body n) ≡ Some n
unfolding node_of split_body strip
node_gives (node.Split column at r) fits =
    let rest = decimal column ++ 32 ∷ (signed_decimal at ++ 32 ∷ reason_word r) in
    ap node_of (three_words (codes "split ") (decimal column) (signed_decimal at) (reason_word r))
    ∙ ap (λ (o : Option (List ℕ)). either o split_of (option_map (λ (l : Leaf). node.Closed l) (leaf_of (codes "split " ++ rest)))) (strip_again (codes "split ") rest)
    ∙ split_gives column at r fits.0 fits.1
node_gives (node.Closed leaf.Fixed) fits = refl
node_gives (node.Closed leaf.Pending) fits = refl

node_one_line : (n : Node) → NodeFits n → lacks 10 (node_body n) ≡ true
unfolding split_body
node_one_line (node.Split column at reason.Plain) fits =
    let one = codes "split " ++ decimal column in
    let two = one ++ codes " " in
    let three = two ++ signed_decimal at in
    let first = lacks-both 10 (codes "split ") (decimal column) refl (u32_lacks 10 column refl fits.0) in
    let second = lacks-both 10 one (codes " ") first refl in
    let third = lacks-both 10 two (signed_decimal at) second (signed_lacks 10 (2 ^ 63 + 1) (2 ^ 63) at refl refl (omega arith) (omega arith) fits.1) in
    let fourth = lacks-both 10 three (codes " ") third refl in
    lacks-both 10 (three ++ codes " ") (codes "plain") fourth refl
node_one_line (node.Closed leaf.Fixed) fits = refl
node_one_line (node.Closed leaf.Pending) fits = refl

pub node_reads : ReadsLine node_of node_body NodeFits
node_reads = record { takes = node_takes; gives = node_gives; one_line = node_one_line }

-- a line that is one word
pub word_reads : (word : List ℕ) → lacks 10 word ≡ true → ReadsLine (is_word word) (λ (value : Unit {0}). word) (λ (value : Unit {0}). Unit {0})
word_reads word one = record {
  takes = λ text value e. (tt, (when_takes text word tt value e).0);
  gives = λ value fits. when_gives word tt;
  one_line = λ value fits. one;
}

-- the line of a false row
row_takes : (text : List ℕ) (n : ℕ) → row_of text ≡ Some n → (n < 2 ^ 32) × (text ≡ codes "row " ++ decimal n)
unfolding row_of
row_takes text n e =
    let rest = bind_some _ _ _ e in
    let number = number_of-takes (2 ^ 32) rest.0 n rest.2 in
    (number.0, strip_takes (codes "row ") text rest.0 rest.1 ∙ ap (λ (l : List ℕ). codes "row " ++ l) number.1)

row_gives : (n : ℕ) → n < 2 ^ 32 → row_of (codes "row " ++ decimal n) ≡ Some n
unfolding row_of
row_gives n low =
    ap (λ (o : Option (List ℕ)). o >>= number_of (2 ^ 32)) (strip_again (codes "row ") (decimal n)) ∙ number_of-again (2 ^ 32) n low (omega arith)

pub row_reads : ReadsLine row_of (λ n. codes "row " ++ decimal n) (λ n. n < 2 ^ 32)
row_reads = record { takes = row_takes; gives = row_gives; one_line = λ n low. lacks-both 10 (codes "row ") (decimal n) refl (u32_lacks 10 n refl low) }

-- the line of a best value
abbrev pub best_body : Option ℤ → List ℕ
best_body None = codes "best none"
best_body (Some best) = codes "best " ++ signed_decimal best

abbrev pub BestFits : Option ℤ → Type 0
BestFits None = Unit {0}
BestFits (Some best) = IsWithin (2 ^ 127) (2 ^ 127) best

best_takes : (text : List ℕ) (best : Option ℤ) → best_of text ≡ Some best → BestFits best × (text ≡ best_body best)
unfolding best_of best_word
best_takes text best e =
    let rest = bind_some _ _ _ e in
    by_test (bytes_eq rest.0 (codes "none")) rest.0 refl (strip_takes (codes "best ") text rest.0 rest.1) rest.2
  where
    by_test : (b : Bool) (word : List ℕ) → bytes_eq word (codes "none") ≡ b → text ≡ codes "best " ++ word → cond b (Some None) (option_map (λ (v : ℤ). Some v) (signed_of (2 ^ 127) (2 ^ 127) word)) ≡ Some best → BestFits best × (text ≡ best_body best)
    by_test true word is split e =
        let none : text ≡ codes "best none" = split ∙ ap (λ (l : List ℕ). codes "best " ++ l) ((bytes_eq-Decides word (codes "none")).0 is) in
        subst (λ (b : Option ℤ). BestFits b × (text ≡ best_body b)) (some_same None best e) (tt, none)
    by_test false word is split e =
        let found = map_some (λ (v : ℤ). Some v) (signed_of (2 ^ 127) (2 ^ 127) word) best e in
        let took = signed_takes (2 ^ 127) (2 ^ 127) word found.0 found.1 in
        subst (λ (b : Option ℤ). BestFits b × (text ≡ best_body b)) found.2 (took.0, split ∙ ap (λ (l : List ℕ). codes "best " ++ l) took.1)

-- a number with its sign is not the word of no value
not_none : (z : ℤ) → IsWithin (2 ^ 127) (2 ^ 127) z → bytes_eq (signed_decimal z) (codes "none") ≡ false
not_none z within = by_test (bytes_eq (signed_decimal z) (codes "none")) refl
  where
    by_test : (b : Bool) → bytes_eq (signed_decimal z) (codes "none") ≡ b → b ≡ false
    by_test true is = absurd (true≢false (sym (signed_lacks 110 (2 ^ 127) (2 ^ 127) z refl refl (omega arith) (omega arith) within) ∙ ap (lacks 110) ((bytes_eq-Decides (signed_decimal z) (codes "none")).0 is)))
    by_test false is = refl

best_gives : (best : Option ℤ) → BestFits best → best_of (best_body best) ≡ Some best
unfolding best_of best_word strip
best_gives None fits = refl
best_gives (Some best) fits = rw (not_none best fits) (ap (option_map (λ (v : ℤ). Some v)) (signed_gives (2 ^ 127) (2 ^ 127) best (omega arith) (omega arith) fits))

best_one_line : (best : Option ℤ) → BestFits best → lacks 10 (best_body best) ≡ true
best_one_line None fits = refl
best_one_line (Some best) fits = lacks-both 10 (codes "best ") (signed_decimal best) refl (signed_lacks 10 (2 ^ 127) (2 ^ 127) best refl refl (omega arith) (omega arith) fits)

pub best_reads : ReadsLine best_of best_body BestFits
best_reads = record { takes = best_takes; gives = best_gives; one_line = best_one_line }

-- the line of a verdict
abbrev pub head_body : Head → List ℕ
head_body (head.Optimal objective) = codes "optimal " ++ signed_decimal objective
head_body head.Impossible = codes "impossible"
head_body (head.Unfinished nodes) = codes "unfinished " ++ decimal nodes

abbrev pub HeadFits : Head → Type 0
HeadFits (head.Optimal objective) = IsWithin (2 ^ 63 + 1) (2 ^ 63) objective
HeadFits head.Impossible = Unit {0}
HeadFits (head.Unfinished nodes) = nodes < 2 ^ 32

head_takes : (text : List ℕ) (h : Head) → head_of text ≡ Some h → HeadFits h × (text ≡ head_body h)
unfolding head_of other_head_of
head_takes text h e = by_optimal (strip (codes "optimal ") text) refl e
  where
    by_unfinished : (o : Option (List ℕ)) → strip (codes "unfinished ") text ≡ o → either o (λ nodes. option_map (λ (n : ℕ). head.Unfinished n) (number_of (2 ^ 32) nodes)) (impossible_of text) ≡ Some h → HeadFits h × (text ≡ head_body h)
    by_unfinished None is e =
        let took = when_takes text (codes "impossible") head.Impossible h e in
        subst (λ (k : Head). HeadFits k × (text ≡ head_body k)) took.1 (tt, took.0)
    by_unfinished (Some rest) is e =
        let found = map_some (λ (n : ℕ). head.Unfinished n) (number_of (2 ^ 32) rest) h e in
        let took = number_of-takes (2 ^ 32) rest found.0 found.1 in
        subst (λ (k : Head). HeadFits k × (text ≡ head_body k)) found.2 (took.0, strip_takes (codes "unfinished ") text rest is ∙ ap (λ (l : List ℕ). codes "unfinished " ++ l) took.1)

    by_optimal : (o : Option (List ℕ)) → strip (codes "optimal ") text ≡ o → either o (λ objective. option_map (λ (z : ℤ). head.Optimal z) (signed_of (2 ^ 63 + 1) (2 ^ 63) objective)) (other_head_of text) ≡ Some h → HeadFits h × (text ≡ head_body h)
    by_optimal None is e = by_unfinished (strip (codes "unfinished ") text) refl e
    by_optimal (Some rest) is e =
        let found = map_some (λ (z : ℤ). head.Optimal z) (signed_of (2 ^ 63 + 1) (2 ^ 63) rest) h e in
        let took = signed_takes (2 ^ 63 + 1) (2 ^ 63) rest found.0 found.1 in
        subst (λ (k : Head). HeadFits k × (text ≡ head_body k)) found.2 (took.0, strip_takes (codes "optimal ") text rest is ∙ ap (λ (l : List ℕ). codes "optimal " ++ l) took.1)

head_gives : (h : Head) → HeadFits h → head_of (head_body h) ≡ Some h
unfolding head_of other_head_of strip
head_gives (head.Optimal objective) fits = ap (option_map (λ (z : ℤ). head.Optimal z)) (signed_gives (2 ^ 63 + 1) (2 ^ 63) objective (omega arith) (omega arith) fits)
head_gives head.Impossible fits = refl
head_gives (head.Unfinished nodes) fits = ap (option_map (λ (n : ℕ). head.Unfinished n)) (number_of-again (2 ^ 32) nodes fits (omega arith))

head_one_line : (h : Head) → HeadFits h → lacks 10 (head_body h) ≡ true
head_one_line (head.Optimal objective) fits = lacks-both 10 (codes "optimal ") (signed_decimal objective) refl (signed_lacks 10 (2 ^ 63 + 1) (2 ^ 63) objective refl refl (omega arith) (omega arith) fits)
head_one_line head.Impossible fits = refl
head_one_line (head.Unfinished nodes) fits = lacks-both 10 (codes "unfinished ") (decimal nodes) refl (u32_lacks 10 nodes refl fits)

pub head_reads : ReadsLine head_of head_body HeadFits
head_reads = record { takes = head_takes; gives = head_gives; one_line = head_one_line }

-- the line of the program's numbers
unfoldable pub sizes_body : Sizes → List ℕ
sizes_body sizes = codes "program " ++ decimal sizes.columns ++ codes " " ++ decimal sizes.rows ++ codes " " ++ decimal sizes.formulas

pub record SizesFit (sizes : Sizes) : Type 0 where
  pub columns : sizes.columns < 2 ^ 32
  pub rows : sizes.rows < 2 ^ 32
  pub formulas : sizes.formulas < 2 ^ 32

sizes_takes : (text : List ℕ) (sizes : Sizes) → sizes_of text ≡ Some sizes → SizesFit sizes × (text ≡ sizes_body sizes)
unfolding sizes_of sizes_body
sizes_takes text sizes e =
    let rest = bind_some _ _ _ e in
    let columns = bind_some _ _ _ rest.2 in
    let count = bind_some _ _ _ columns.2 in
    let rows = bind_some _ _ _ count.2 in
    let size = bind_some _ _ _ rows.2 in
    let formulas = bind_some _ _ _ size.2 in
    let one = cut_takes 32 rest.0 columns.0 columns.1 in
    let two = number_of-takes (2 ^ 32) columns.0.0 count.0 count.1 in
    let three = cut_takes 32 columns.0.1 rows.0 rows.1 in
    let four = number_of-takes (2 ^ 32) rows.0.0 size.0 size.1 in
    let five = number_of-takes (2 ^ 32) rows.0.1 formulas.0 formulas.1 in
    let inner : columns.0.1 ≡ decimal size.0 ++ 32 ∷ decimal formulas.0 = three.0 ∙ ap₂ (λ (a b : List ℕ). a ++ 32 ∷ b) four.1 five.1 in
    let whole : rest.0 ≡ decimal count.0 ++ 32 ∷ (decimal size.0 ++ 32 ∷ decimal formulas.0) = one.0 ∙ ap₂ (λ (a b : List ℕ). a ++ 32 ∷ b) two.1 inner in
    let made : Sizes = record { columns = count.0; rows = size.0; formulas = formulas.0 } in
    let spelled : text ≡ sizes_body made = strip_takes (codes "program ") text rest.0 rest.1 ∙ ap (λ (l : List ℕ). codes "program " ++ l) whole ∙ sym (three_words (codes "program ") (decimal count.0) (decimal size.0) (decimal formulas.0)) in
    subst (λ (s : Sizes). SizesFit s × (text ≡ sizes_body s)) (some_same made sizes formulas.2) (record { columns = two.0; rows = four.0; formulas = five.0 }, spelled)

sizes_gives : (sizes : Sizes) → SizesFit sizes → sizes_of (sizes_body sizes) ≡ Some sizes
unfolding sizes_of sizes_body
sizes_gives sizes fits =
    let rest = decimal sizes.columns ++ 32 ∷ (decimal sizes.rows ++ 32 ∷ decimal sizes.formulas) in
    let zero = strip_again (codes "program ") rest in
    let one = cut_again 32 (decimal sizes.columns) (decimal sizes.rows ++ 32 ∷ decimal sizes.formulas) (u32_lacks 32 sizes.columns refl fits.columns) in
    let two = number_of-again (2 ^ 32) sizes.columns fits.columns (omega arith) in
    let three = cut_again 32 (decimal sizes.rows) (decimal sizes.formulas) (u32_lacks 32 sizes.rows refl fits.rows) in
    let four = number_of-again (2 ^ 32) sizes.rows fits.rows (omega arith) in
    let five = number_of-again (2 ^ 32) sizes.formulas fits.formulas (omega arith) in
    ap sizes_of (three_words (codes "program ") (decimal sizes.columns) (decimal sizes.rows) (decimal sizes.formulas)) ∙ rw (zero, one, two, three, four, five)

sizes_one_line : (sizes : Sizes) → SizesFit sizes → lacks 10 (sizes_body sizes) ≡ true
unfolding sizes_body
sizes_one_line sizes fits =
    let one = codes "program " ++ decimal sizes.columns in
    let two = one ++ codes " " in
    let three = two ++ decimal sizes.rows in
    let first = lacks-both 10 (codes "program ") (decimal sizes.columns) refl (u32_lacks 10 sizes.columns refl fits.columns) in
    let second = lacks-both 10 one (codes " ") first refl in
    let third = lacks-both 10 two (decimal sizes.rows) second (u32_lacks 10 sizes.rows refl fits.rows) in
    let fourth = lacks-both 10 three (codes " ") third refl in
    lacks-both 10 (three ++ codes " ") (decimal sizes.formulas) fourth (u32_lacks 10 sizes.formulas refl fits.formulas)

pub sizes_reads : ReadsLine sizes_of sizes_body SizesFit
sizes_reads = record { takes = sizes_takes; gives = sizes_gives; one_line = sizes_one_line }

-- the line of a hypothetical table
unfoldable pub world_body : WorldHead → List ℕ
world_body world = codes "world " ++ world.name ++ codes " " ++ decimal world.rows ++ codes " " ++ decimal world.size

pub record WorldHeadFits (world : WorldHead) : Type 0 where
  pub name : is_name world.name ≡ true
  pub rows : world.rows < 2 ^ 32
  pub size : world.size < 2 ^ 32

name_takes : (bytes name : List ℕ) → name_of bytes ≡ Some name → (is_name name ≡ true) × (bytes ≡ name)
name_takes bytes name e = by_test (is_name bytes) refl e
  where
    by_test : (b : Bool) → is_name bytes ≡ b → cond b (Some bytes) None ≡ Some name → (is_name name ≡ true) × (bytes ≡ name)
    by_test true is e = let same = some_same bytes name e in (ap is_name (sym same) ∙ is, same)
    by_test false is e = cc

world_takes : (text : List ℕ) (world : WorldHead) → world_head_of text ≡ Some world → WorldHeadFits world × (text ≡ world_body world)
unfolding world_head_of world_words world_body
world_takes text world e =
    let words = bind_some _ _ _ e in
    let named = bind_some _ _ _ words.2 in
    let rest = bind_some _ _ _ words.1 in
    let name = bind_some _ _ _ rest.2 in
    let rows = bind_some _ _ _ name.2 in
    let count = bind_some _ _ _ rows.2 in
    let size = bind_some _ _ _ count.2 in
    let one = cut_takes 32 rest.0 name.0 name.1 in
    let two = cut_takes 32 name.0.1 rows.0 rows.1 in
    let three = number_of-takes (2 ^ 32) rows.0.0 count.0 count.1 in
    let four = number_of-takes (2 ^ 32) rows.0.1 size.0 size.1 in
    let inner : name.0.1 ≡ decimal count.0 ++ 32 ∷ decimal size.0 = two.0 ∙ ap₂ (λ (a b : List ℕ). a ++ 32 ∷ b) three.1 four.1 in
    let whole : rest.0 ≡ name.0.0 ++ 32 ∷ (decimal count.0 ++ 32 ∷ decimal size.0) = one.0 ∙ ap (λ (l : List ℕ). name.0.0 ++ 32 ∷ l) inner in
    let same_words = some_same (name.0.0, count.0, size.0) words.0 size.2 in
    let is_named : name_of name.0.0 ≡ Some named.0 = ap (λ (w : List ℕ × ℕ × ℕ). name_of w.0) same_words ∙ named.1 in
    let real = name_takes name.0.0 named.0 is_named in
    let made : WorldHead = record { name = named.0; rows = count.0; size = size.0 } in
    let same : made ≡ world = ap (λ (w : List ℕ × ℕ × ℕ). record { name = named.0; rows = w.1; size = w.2 }) same_words ∙ some_same _ _ named.2 in
    let spelled : text ≡ world_body made = strip_takes (codes "world ") text rest.0 rest.1 ∙ ap (λ (l : List ℕ). codes "world " ++ l) (whole ∙ ap (λ (l : List ℕ). l ++ 32 ∷ (decimal count.0 ++ 32 ∷ decimal size.0)) real.1) ∙ sym (three_words (codes "world ") named.0 (decimal count.0) (decimal size.0)) in
    subst (λ (w : WorldHead). WorldHeadFits w × (text ≡ world_body w)) same (record { name = real.0; rows = three.0; size = four.0 }, spelled)

world_gives : (world : WorldHead) → WorldHeadFits world → world_head_of (world_body world) ≡ Some world
unfolding world_head_of world_words world_body
world_gives world fits =
    let rest = world.name ++ 32 ∷ (decimal world.rows ++ 32 ∷ decimal world.size) in
    let zero = strip_again (codes "world ") rest in
    let one = cut_again 32 world.name (decimal world.rows ++ 32 ∷ decimal world.size) (name_lacks 32 world.name (omega arith) (omega arith) fits.name) in
    let two = cut_again 32 (decimal world.rows) (decimal world.size) (u32_lacks 32 world.rows refl fits.rows) in
    let three = number_of-again (2 ^ 32) world.rows fits.rows (omega arith) in
    let four = number_of-again (2 ^ 32) world.size fits.size (omega arith) in
    ap world_head_of (three_words (codes "world ") world.name (decimal world.rows) (decimal world.size)) ∙ rw (zero, one, two, three, four, fits.name)

world_one_line : (world : WorldHead) → WorldHeadFits world → lacks 10 (world_body world) ≡ true
unfolding world_body
world_one_line world fits =
    let one = codes "world " ++ world.name in
    let two = one ++ codes " " in
    let three = two ++ decimal world.rows in
    let first = lacks-both 10 (codes "world ") world.name refl (name_lacks 10 world.name (omega arith) (omega arith) fits.name) in
    let second = lacks-both 10 one (codes " ") first refl in
    let third = lacks-both 10 two (decimal world.rows) second (u32_lacks 10 world.rows refl fits.rows) in
    let fourth = lacks-both 10 three (codes " ") third refl in
    lacks-both 10 (three ++ codes " ") (decimal world.size) fourth (u32_lacks 10 world.size refl fits.size)

pub world_reads : ReadsLine world_head_of world_body WorldHeadFits
world_reads = record { takes = world_takes; gives = world_gives; one_line = world_one_line }

-- the line of a part's columns
unfoldable pub part_body : PartHead → List ℕ
part_body part = codes "part " ++ decimal part.number ++ codes " columns" ++ flat_map column_word part.columns

pub record PartHeadFits (part : PartHead) : Type 0 where
  pub number : part.number < 2 ^ 32
  pub columns : RisesFrom 0 part.columns

part_words_text : (number : ℕ) (columns : List ℕ) → codes "part " ++ decimal number ++ codes " columns" ++ columns ≡ codes "part " ++ (decimal number ++ 32 ∷ (codes "columns" ++ columns))
part_words_text number columns = simp append_assoc

part_takes : (text : List ℕ) (part : PartHead) → part_head_of text ≡ Some part → PartHeadFits part × (text ≡ part_body part)
unfolding part_head_of part_words part_body
part_takes text part e =
    let words = bind_some _ _ _ e in
    let listed = bind_some _ _ _ words.2 in
    let rest = bind_some _ _ _ words.1 in
    let word = bind_some _ _ _ rest.2 in
    let number = bind_some _ _ _ word.2 in
    let columns = bind_some _ _ _ number.2 in
    let one = cut_takes 32 rest.0 word.0 word.1 in
    let two = number_of-takes (2 ^ 32) word.0.0 number.0 number.1 in
    let three = strip_takes (codes "columns") word.0.1 columns.0 columns.1 in
    let same_words = some_same (number.0, columns.0) words.0 columns.2 in
    let is_listed : columns_of columns.0 ≡ Some listed.0 = ap (λ (w : ℕ × List ℕ). columns_of w.1) same_words ∙ listed.1 in
    let four = columns_of-takes columns.0 listed.0 is_listed in
    let made : PartHead = record { number = number.0; columns = listed.0 } in
    let same : made ≡ part = ap (λ (w : ℕ × List ℕ). record { number = w.0; columns = listed.0 }) same_words ∙ some_same _ _ listed.2 in
    let whole : rest.0 ≡ decimal number.0 ++ 32 ∷ (codes "columns" ++ flat_map column_word listed.0) = one.0 ∙ ap₂ (λ (a b : List ℕ). a ++ 32 ∷ b) two.1 (three ∙ ap (λ (l : List ℕ). codes "columns" ++ l) four.1) in
    let spelled : text ≡ part_body made = strip_takes (codes "part ") text rest.0 rest.1 ∙ ap (λ (l : List ℕ). codes "part " ++ l) whole ∙ sym (part_words_text number.0 (flat_map column_word listed.0)) in
    subst (λ (p : PartHead). PartHeadFits p × (text ≡ part_body p)) same (record { number = two.0; columns = four.0 }, spelled)

part_gives : (part : PartHead) → PartHeadFits part → part_head_of (part_body part) ≡ Some part
unfolding part_head_of part_words part_body
part_gives part fits =
    let columns = flat_map column_word part.columns in
    let zero = strip_again (codes "part ") (decimal part.number ++ 32 ∷ (codes "columns" ++ columns)) in
    let one = cut_again 32 (decimal part.number) (codes "columns" ++ columns) (u32_lacks 32 part.number refl fits.number) in
    let two = number_of-again (2 ^ 32) part.number fits.number (omega arith) in
    let three = strip_again (codes "columns") columns in
    let four = columns_of-gives part.columns fits.columns in
    ap part_head_of (part_words_text part.number columns) ∙ rw (zero, one, two, three, four)

part_one_line : (part : PartHead) → PartHeadFits part → lacks 10 (part_body part) ≡ true
unfolding part_body
part_one_line part fits =
    let one = codes "part " ++ decimal part.number in
    let first = lacks-both 10 (codes "part ") (decimal part.number) refl (u32_lacks 10 part.number refl fits.number) in
    let second = lacks-both 10 one (codes " columns") first refl in
    lacks-both 10 (one ++ codes " columns") (flat_map column_word part.columns) second (columns_lack 0 part.columns fits.columns)

pub part_reads : ReadsLine part_head_of part_body PartHeadFits
part_reads = record { takes = part_takes; gives = part_gives; one_line = part_one_line }
