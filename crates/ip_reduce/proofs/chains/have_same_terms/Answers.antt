use Rattle.std.proofs.lemmas.Slice.Eq.{slice_eq-Decides}
use Rattle.ip_reduce.proofs.RowLemmas.{term_equal}
use Rattle.ip_reduce.proofs.chains.have_same_terms.Goals as goal

pub returns : goal.returns
returns c = slice_eq-Decides term_equal c.args.one.now c.args.other.now c.eq.result c.eq.ensures
