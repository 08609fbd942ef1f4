use Rattle.std.proofs.Common.{sym, ◌∙◌, ap, arith, subst, ◌≤◌, ◌-◌, take, drop, length-take-le}
use Rattle.tiql_lex.specs.Places.{behind}
use Rattle.tiql_lex.proofs.Spans.{place_further, column_one}
use Rattle.tiql_lex.proofs.scan.moved.Goals as goal

pub returns-clause-position : goal.returns-clause-position
returns-clause-position c = record {
  start = omega (arith, c.requires.order, c.requires.position.start);
  inside = c.requires.inside;
  place = c.behind.ensures.place
      ∙ ap (λ p. behind p (take (c.args.at - c.args.from.at) (drop c.args.from.at c.args.bytes.now))) c.requires.position.place
      ∙ sym (place_further c.args.bytes.now c.args.from.at c.args.at c.requires.position.start c.requires.order);
  line = omega (arith, c.behind.ensures.line, c.requires.position.line, c.requires.order, length-take-le (c.args.at - c.args.from.at) (drop c.args.from.at c.args.bytes.now));
  column = omega (arith, c.behind.ensures.column (subst (λ p. 1 ≤ p.column) (sym c.requires.position.place) (column_one c.args.bytes.now c.args.from.at)), c.requires.position.column, c.requires.order, length-take-le (c.args.at - c.args.from.at) (drop c.args.from.at c.args.bytes.now));
}
