use Rattle.std.proofs.Common.{arith, refl, codes}
use Rattle.answer_text.proofs.Grammar.{word_within, head_within, sizes_within}
use Rattle.answer_text.proofs.blocks.answer.Goals as goal

pub found-requires : goal.found-requires
found-requires c =
    omega (
      arith,
      word_within (codes "tiresias answer 1") refl c.args.bytes.now (tt, c.in_ok-rest.rest.now) c.in_ok-rest.ensures,
      head_within c.in_ok-rest.rest.now (c.in_ok-head.head, c.in_ok-head.rest.now) c.in_ok-head.ensures,
      sizes_within c.in_ok-head.rest.now (c.in_ok-sizes.sizes, c.in_ok-sizes.rest.now) c.in_ok-sizes.ensures,
    )
