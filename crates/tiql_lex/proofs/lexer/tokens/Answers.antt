use Rattle.std.proofs.Common.{List, sym, ◌∙◌, ap, subst, rules}
use Rattle.tiql_lex.specs.declared.token.Token.{Token}
use Rattle.tiql_lex.specs.Lexed.{AreTokens, Skips, Stands, end_of}
use Rattle.tiql_lex.specs.Places.{mark_size}
use Rattle.tiql_lex.proofs.Spans.{tokens_none, tokens_push, end_push}
use Rattle.tiql_lex.proofs.lexer.tokens.Goals as goal

pub loop-tokens-init : goal.loop-tokens-init
loop-tokens-init c = record {
  tokens = subst (λ (ts : List Token). AreTokens c.args.bytes.now (mark_size c.args.bytes.now) ts) (sym c.new-tokens.ensures) (tokens_none c.args.bytes.now (mark_size c.args.bytes.now));
  skips = subst (λ n. Skips c.args.bytes.now n c.skip-position.result.at) (c.start.ensures.at ∙ sym (ap (end_of (mark_size c.args.bytes.now)) c.new-tokens.ensures)) c.skip-position.ensures.skips;
  position = c.skip-position.ensures.position;
}

pub loop-tokens-preserved : goal.loop-tokens-preserved
loop-tokens-preserved c =
    let bytes = c.args.bytes.now in
    let token = c.in-Some.token in
    let stands : Stands bytes c.loop-tokens.position.at token = search rules in
    let more = tokens_push bytes (mark_size bytes) c.loop-tokens.tokens token c.loop-tokens.invariant.tokens
    (subst (λ n. Skips bytes (end_of (mark_size bytes) c.loop-tokens.tokens) n) (sym stands.start) c.loop-tokens.invariant.skips)
    (subst (λ n. Stands bytes n token) (sym stands.start) stands) in
    record {
      tokens = subst (λ (ts : List Token). AreTokens bytes (mark_size bytes) ts) (sym c.in_ok-push.ensures.ok) more;
      skips = subst (λ n. Skips bytes n c.skip-position-in-Some.result.at)
          (c.moved.ensures.at ∙ sym (ap (end_of (mark_size bytes)) c.in_ok-push.ensures.ok ∙ end_push (mark_size bytes) c.loop-tokens.tokens token))
          c.skip-position-in-Some.ensures.skips;
      position = c.skip-position-in-Some.ensures.position;
    }
