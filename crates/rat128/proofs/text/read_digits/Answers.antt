use Rattle.rat128.proofs.Texts.{read_goes_on, read_stops, read_ends}
use Rattle.rat128.proofs.text.read_digits.Goals as goal

pub loop-digit-preserved : goal.loop-digit-preserved
loop-digit-preserved c =
    let kept = c.loop-digit.invariant in
    let made = c.in_ok-value.ensures.some in
    record {
      small = made.2;
      front = read_goes_on c.args.digits.now c.loop-digit.digit-index c.loop-digit.value c.in_ok-value.value c.loop-digit-test.true kept.front kept.small c.requires.first made.0 made.1;
    }

pub returns-in_err-value : goal.returns-in_err-value
returns-in_err-value c =
    rw c.from_residual.ensures (read_stops c.args.digits.now c.loop-digit.digit-index c.loop-digit.value c.loop-digit-test.true c.loop-digit.invariant.front c.loop-digit.invariant.small c.in_err-value.ensures.none)

pub returns : goal.returns
returns c =
    (c.loop-digit.invariant.small, read_ends c.args.digits.now c.loop-digit.digit-index c.loop-digit.value c.loop-digit-test.false c.requires.some c.loop-digit.invariant.front)
