use Rattle.std.proofs.Common.{arith, refl, ◌-◌, ℕ, ◌≡◌, Ok}
use Rattle.std.proofs.lemmas.Iterator.{items_from_collect, YieldsList-from_range}
use Rattle.cross_links.proofs.links.alone.Goals as goal

pub returns : goal.returns
returns c =
    let count : c.args.places - 0 ≡ c.args.places = omega arith in
    items_from_collect {E = ℕ} (Ok c.in_ok-collect.field-0) c.in_ok-collect.ensures.ran (YieldsList-from_range 0 c.args.places c.args.places refl count)
