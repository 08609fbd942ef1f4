use Rattle.std.proofs.Common.{sym, ◌∙◌, ap, arith}
use Rattle.tiql_lex.specs.Places.{place_at}
use Rattle.tiql_lex.proofs.Spans.{place_start}
use Rattle.tiql_lex.proofs.scan.start.Goals as goal

pub returns-clause-position : goal.returns-clause-position
returns-clause-position c = record {
  start = omega (arith, c.mark_size.ensures.size);
  inside = c.mark_size.ensures.inside;
  place = sym (ap (place_at c.args.bytes.now) c.mark_size.ensures.size ∙ place_start c.args.bytes.now);
  line = omega arith;
  column = omega arith;
}
