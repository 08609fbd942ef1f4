use Rattle.std.proofs.Common.{◌≡◌, ◌≤◌, ◌^◌, drop}
use Rattle.std.specs.Char.{is_ascii_digit}
use Rattle.std.specs.List.{list_all}
use Rattle.std.specs.Str.Parse.{digits_value, digits_value_after}
use Rattle.tiql_lex.proofs.value.value_of.Given as goal

abbrev pub invariant-loop-byte : goal.invariant-loop-byte
invariant-loop-byte l =
    (list_all is_ascii_digit (drop l.byte-index l.text) ≡ list_all is_ascii_digit l.text)
    × (digits_value_after 10 l.value (drop l.byte-index l.text) ≡ digits_value 10 l.text)
    × (l.value ≤ 10 ^ 15)
