use Rattle.std.proofs.Common.{◌≡◌, ◌<◌, ◌^◌, take}
use Rattle.rat128.proofs.Texts.{digits_so_far}
use Rattle.rat128.proofs.text.read_digits.Given as goal

-- the digits so far are those of the value
abbrev pub invariant-loop-digit : goal.invariant-loop-digit
invariant-loop-digit l = record {
  small : l.value < 2 ^ 127;
  front : take l.digit-index l.digits ≡ digits_so_far l.value;
}
