use Rattle.std.proofs.Common.{◌≡◌, ◌++◌, flat_map, take}
use Rattle.program_text.specs.Text.{coef_word}
use Rattle.program_text.proofs.rows.put_coefs.Given as goal

abbrev pub invariant-loop-coef : goal.invariant-loop-coef
invariant-loop-coef l = l.out.items ≡ l.initial.out.items ++ flat_map coef_word (take l.coef-index l.coefs)
