use Rattle.std.proofs.Common.{◌∙◌, ap, sym}
use Rattle.std.proofs.lemmas.Bool.{false≢true}
use Rattle.ip_reduce.specs.Hashes.{hash_of}
use Rattle.ip_reduce.proofs.chains.is_it.Goals as goal

pub returns-then-row_hash-hash : goal.returns-then-row_hash-hash
returns-then-row_hash-hash c = ((λ h. absurd (false≢true h)), (λ e. absurd (c.if-row_hash-hash.true (c.requires.row_hash ∙ ap hash_of e ∙ sym c.requires.hash))))
