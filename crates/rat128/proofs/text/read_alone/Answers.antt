use Rattle.std.proofs.Common.{◌∙◌, ap, to_z-of_z}
use Rattle.std.specs.Int.{w128}
use Rattle.std.specs.Fmt.{signed_decimal}
use Rattle.std.proofs.lemmas.Int.{fits_signed_from_abs}
use Rattle.rat128.specs.Fractions.{whole_fraction}
use Rattle.rat128.proofs.text.read_alone.Goals as goal

pub returns : goal.returns
returns c =
    let read = c.in_ok-read_whole.ensures in
    let is = c.whole_rat.ensures ∙ ap whole_fraction (to_z-of_z (fits_signed_from_abs w128 c.in_ok-read_whole.field-0 read.0)) in
    (ap (λ r. r.less_one) is, ap (λ r. signed_decimal r.num) is ∙ read.1)
