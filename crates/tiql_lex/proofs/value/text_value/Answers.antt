use Rattle.std.proofs.Common.{◌-◌, length, take, drop, refl, rules}
use Rattle.tiql_lex.proofs.Texts.{reads_some, reads_none}
use Rattle.tiql_lex.proofs.value.text_value.Goals as goal

pub returns-clause-some : goal.returns-clause-some
returns-clause-some c =
    reads_some (λ value. value.items) c.args.text.now (take (length c.args.text.now - 1) (drop 1 c.args.text.now)) (search rules) (search rules) refl c.value_behind.result c.value_behind.ensures

pub returns-clause-none : goal.returns-clause-none
returns-clause-none c =
    reads_none (λ value. value.items) c.args.text.now (take (length c.args.text.now - 1) (drop 1 c.args.text.now)) refl c.value_behind.result c.value_behind.ensures
