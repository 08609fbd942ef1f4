use Rattle.std.proofs.Common.{length, arith}
use Rattle.used_columns.proofs.NameLemmas.{terms_below}
use Rattle.used_columns.proofs.walk.mark.Goals as goal

pub mark_terms-requires : goal.mark_terms-requires
mark_terms-requires c =
    let lt = c.requires.there in
    let count = c.requires.count in
    terms_below c.args.id (length c.args.marks.now) c.in-Lin.terms.now (omega (arith, lt, count)) c.in-Lin.ensures.kids
