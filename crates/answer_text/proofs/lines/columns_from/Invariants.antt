use Rattle.std.proofs.Common.{◌≡◌, ◌++◌, ◌≤◌, ◌^◌, List, ℕ, [], length}
use Rattle.std.specs.Option.{option_map}
use Rattle.answer_text.specs.Lines.{columns_from}
use Rattle.answer_text.proofs.lines.columns_from.Given as goal

abbrev pub invariant-loop-word : goal.invariant-loop-word
invariant-loop-word l = record {
  least : l.least ≤ 2 ^ 32;
  columns : option_map (λ (more : List ℕ). l.columns ++ more) (columns_from l.least [] l.rest) ≡ columns_from 0 [] l.fn.text;
}

abbrev pub decreases-loop-word : goal.decreases-loop-word
decreases-loop-word l = length l.rest
