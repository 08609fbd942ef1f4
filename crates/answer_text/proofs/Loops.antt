-- The loops that read items one after another.
use Rattle.std.proofs.Common.{◌≡◌, ◌+◌, ◌≤◌, ℕ, List, [], ◌∷◌, ◌++◌, refl, sym, ◌∙◌, ap, arith, append_assoc}
use Rattle.std.proofs.lemmas.List.{append-nil}
use Rattle.std.specs.Prelude.{Result, Ok, Err}
use Rattle.branch_tree.specs.declared.node.Node.{Node}
use Rattle.branch_tree.specs.declared.node.Node.TheVariants as node
use Rattle.answer_text.specs.declared.blocks.Stop.{Stop}
use Rattle.answer_text.specs.declared.blocks.Stop.TheVariants as stop
use Rattle.answer_text.specs.Blocks.{◌>>=◌, ReadsAs, joined, wanted_behind}

pub joined-nil : {A : Type 0} (r : Result (List A × List ℕ) ℕ) → joined [] r ≡ r
joined-nil (Ok x) = refl
joined-nil (Err left) = refl

-- one item more before the others
pub joined-item : {A : Type 0} (before more : List A) (item : A) (r : Result (List A × List ℕ) ℕ) → more ≡ before ++ item ∷ [] → joined more r ≡ joined before (r >>= (λ xs. Ok (item ∷ xs.0, xs.1)))
joined-item before more item (Ok x) pushed = ap (λ (l : List _). Ok (l ++ x.0, x.1)) pushed ∙ ap (λ (l : List _). Ok (l, x.1)) (append_assoc before (item ∷ []) x.0)
joined-item before more item (Err left) pushed = refl

-- a stop in an item is one in the whole
pub stops_alike : {X Y Z W : Type 0} (view : X → Y) (other : Z → W) (at : Stop) (read : Result Y ℕ) (whole : Result W ℕ) → ((left : ℕ) → read ≡ Err left → whole ≡ Err left) → ReadsAs view (Err at) read → ReadsAs other (Err at) whole
stops_alike view other (stop.Bad left) read whole on gives = on left gives
stops_alike view other stop.Memory read whole on gives = tt

-- what the loop has read so far, and what it reads from here on, is the whole
module _ {A : Type 0} (before : List A) (from : Result (List A × List ℕ) ℕ) (whole : Result (List A × List ℕ) ℕ) (so : joined before from ≡ whole) where
  pub loop_on : (item : A) (more : List A) (next : Result (List A × List ℕ) ℕ) → from ≡ (next >>= (λ xs. Ok (item ∷ xs.0, xs.1))) → more ≡ before ++ item ∷ [] → joined more next ≡ whole
  loop_on item more next on pushed = joined-item before more item next pushed ∙ ap (joined before) (sym on) ∙ so

  pub loop_stop : (left : ℕ) → from ≡ Err left → whole ≡ Err left
  loop_stop left e = sym so ∙ ap (joined before) e

  pub loop_end : (rest : List ℕ) → from ≡ Ok ([], rest) → whole ≡ Ok (before, rest)
  loop_end rest e = sym so ∙ ap (joined before) e ∙ ap (λ (l : List A). Ok (l, rest)) (append-nil before)

-- a node adds one tree at most to those that are wanted
pub wanted_behind-le : (first : Node) (trees : ℕ) → wanted_behind first trees ≤ trees + 2
wanted_behind-le (node.Split column at reason) trees = omega arith
wanted_behind-le (node.Closed leaf) trees = omega arith
