use Rattle.tiql_lex.proofs.Unique as unique
use Rattle.tiql_lex.proofs.lexer.one_lexing.Goals as goal

pub returns : goal.returns
returns c = unique.one_lexing
