use Rattle.std.proofs.Common.{◌≡◌, ◌++◌, map, drop}
use Rattle.tiql_tree.specs.Spelled.{words_of as words_spelled, places_of}
use Rattle.tiql_read.specs.Steps.{word_of}
use Rattle.tiql_read.proofs.reader.words_of.Given as goal

abbrev pub invariant-loop-token : goal.invariant-loop-token
invariant-loop-token l =
    (map word_of l.words ++ words_spelled l.bytes (drop l.token-index l.tokens) ≡ words_spelled l.bytes l.tokens)
    × (map (λ word. word.place) l.words ++ places_of (drop l.token-index l.tokens) ≡ places_of l.tokens)
