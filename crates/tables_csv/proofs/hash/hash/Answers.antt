use Rattle.std.proofs.Common.{arith}
use Rattle.tables_csv.proofs.KeyLemmas.{hash_all, hash_more, hash_none}
use Rattle.tables_csv.proofs.hash.hash.Goals as goal

pub loop-column-init : goal.loop-column-init
loop-column-init c = hash_none c.args.row.now

pub loop-column-preserved : goal.loop-column-preserved
loop-column-preserved c =
    hash_more c.args.key.now c.args.row.now c.loop-column.column-index c.loop-column.hash _ _ c.loop-column.invariant (omega arith) c.get.ensures.value c.mix_entry-hash.ensures

pub returns : goal.returns
returns c = hash_all c.args.key.now c.args.row.now c.loop-column.column-index c.loop-column.hash (omega arith) c.loop-column.invariant
