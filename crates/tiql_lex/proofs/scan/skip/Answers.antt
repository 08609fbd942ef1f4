use Rattle.std.proofs.Common.{false, ap, ◌∙◌}
use Rattle.std.proofs.lemmas.List.{take_rest}
use Rattle.tiql_lex.specs.Lexemes.{behind_blanks}
use Rattle.tiql_lex.proofs.Spans.{skips_made}
use Rattle.tiql_lex.proofs.scan.skip.Goals as goal

pub returns-clause-skips : goal.returns-clause-skips
returns-clause-skips c =
    skips_made c.args.bytes.now c.skip_blanks-rest.result.now c.args.from.at c.moved.result.at c.requires.position.inside (c.skip_blanks-rest.ensures.rest ∙ ap (behind_blanks false) (take_rest c.args.bytes.now c.args.from.at)) c.moved.ensures.at
