use Rattle.std.proofs.Common.{arith}
use Rattle.tiql_lex.proofs.Spans.{stands_none, stands_unfit, stands_made, lexeme_here, size_is}
use Rattle.tiql_lex.proofs.scan.token_at.Goals as goal

pub returns-then-size-eq0-clause-none : goal.returns-then-size-eq0-clause-none
returns-then-size-eq0-clause-none c = stands_none c.args.bytes.now c.args.from.at c.lexeme_size-size.result (size_is c.args.bytes.now c.args.from.at c.lexeme_size-size.result c.lexeme_size-size.ensures.size) c.if-size-eq0.true

pub fits-requires-clause-lexeme : goal.fits-requires-clause-lexeme
fits-requires-clause-lexeme c = (lexeme_here c.args.bytes.now c.args.from.at c.lexeme_size-size.result (size_is c.args.bytes.now c.args.from.at c.lexeme_size-size.result c.lexeme_size-size.ensures.size) (omega arith)).shape

pub returns-then-not-branch-clause-none : goal.returns-then-not-branch-clause-none
returns-then-not-branch-clause-none c =
    stands_unfit c.args.bytes.now c.args.from.at c.lexeme_size-size.result c.kind_of-kind.result (size_is c.args.bytes.now c.args.from.at c.lexeme_size-size.result c.lexeme_size-size.ensures.size) (omega arith) c.kind_of-kind.ensures (c.in_ok-fits.ensures.no c.if-not-branch.true)

pub returns-clause-some : goal.returns-clause-some
returns-clause-some c =
    stands_made c.args.bytes.now c.args.from.at c.lexeme_size-size.result c.kind_of-kind.result c.args.from.place (size_is c.args.bytes.now c.args.from.at c.lexeme_size-size.result c.lexeme_size-size.ensures.size) (omega arith) (omega (arith, c.lexeme_size-size.ensures.within)) c.kind_of-kind.ensures (c.in_ok-fits.ensures.yes c.if-not-branch.false) c.requires.position.place
