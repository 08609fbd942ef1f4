use Rattle.std.proofs.Common.{sym, ◌∙◌, ap, Some}
use Rattle.dict_pivot.proofs.ShareLemmas.{share_here, share_undivided, share_unmade, share_made}
use Rattle.dict_pivot.proofs.shares.share.Goals as goal

pub returns-then-j-column : goal.returns-then-j-column
returns-then-j-column c = share_here c.args.row.now c.args.column c.args.least.now c.args.j c.args.inverse.now c.requires.inverse c.if-j-column.true

pub returns-in_err-divided : goal.returns-in_err-divided
returns-in_err-divided c = c.from_residual.ensures ∙ share_undivided c.args.row.now c.args.column c.args.least.now c.args.j c.args.inverse.now c.requires.inverse c.if-j-column.false (sym c.in_err-divided.ensures)

pub returns-in_err-product : goal.returns-in_err-product
returns-in_err-product c = c.from_residual-in_err-product.ensures ∙ share_unmade c.args.row.now c.args.column c.args.least.now c.args.j c.args.inverse.now c.requires.inverse _ c.if-j-column.false (sym c.in_ok-divided.ensures) (sym c.in_err-product.ensures.gives)

pub returns : goal.returns
returns c = ap Some c.negated.ensures.gives ∙ share_made c.args.row.now c.args.column c.args.least.now c.args.j c.args.inverse.now c.requires.inverse _ _ c.if-j-column.false (sym c.in_ok-divided.ensures) (sym c.in_ok-product.ensures.gives)
