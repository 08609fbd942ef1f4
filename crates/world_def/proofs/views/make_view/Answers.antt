use Rattle.std.proofs.Common.{◌∙◌, sym, ap, length, arith}
use Rattle.world_def.proofs.Making.{missing_within, not_missing_rows}
use Rattle.world_def.proofs.views.make_view.Goals as goal

pub returns-then-not-is_missing : goal.returns-then-not-is_missing
returns-then-not-is_missing c =
    (c.requires.made, not_missing_rows c.args.query.now c.args.tables.now c.args.world.now c.requires.fit c.args.views.now.made.items c.args.number c.requires.made (sym c.is_missing.ensures ∙ c.if-not-is_missing.true))

pub wanted_of-requires : goal.wanted_of-requires
wanted_of-requires c =
    let within = missing_within c.args.views.now.made.items c.args.number (sym c.is_missing.ensures ∙ c.if-not-is_missing.false) in
    let long = c.requires.made.long in let same = ap length c.as_slice.ensures in omega (arith, within, long, same)

pub make_wanted-requires-clause-there : goal.make_wanted-requires-clause-there
make_wanted-requires-clause-there c =
    let within = missing_within c.args.views.now.made.items c.args.number (sym c.is_missing.ensures ∙ c.if-not-is_missing.false) in
    let long = c.requires.made.long in omega (arith, within, long)
