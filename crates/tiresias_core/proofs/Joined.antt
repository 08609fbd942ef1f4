-- texts that are written piece after piece
use Rattle.std.proofs.Common.{◌≡◌, ℕ, List, ◌++◌, sym, ◌∙◌}
use Rattle.std.proofs.lemmas.List.{append_assoc}

pub joined_four : (a b c d : List ℕ) → a ++ (b ++ (c ++ d)) ≡ a ++ b ++ c ++ d
joined_four a b c d = sym (append_assoc a b (c ++ d)) ∙ sym (append_assoc (a ++ b) c d)

pub joined_six : (a b c d e f : List ℕ) → a ++ (b ++ (c ++ (d ++ (e ++ f)))) ≡ a ++ b ++ c ++ d ++ e ++ f
joined_six a b c d e f = joined_four a b c (d ++ (e ++ f)) ∙ joined_four (a ++ b ++ c) d e f
