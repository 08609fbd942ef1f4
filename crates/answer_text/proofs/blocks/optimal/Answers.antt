use Rattle.std.proofs.Common.{arith}
use Rattle.answer_text.proofs.Grammar.{worlds_within}
use Rattle.answer_text.proofs.blocks.optimal.Goals as goal

pub parts-requires : goal.parts-requires
parts-requires c = omega (arith, worlds_within c.args.bytes.now (c.in_ok-worlds.worlds, c.in_ok-worlds.rest.now) c.in_ok-worlds.ensures)
