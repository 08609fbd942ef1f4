use Rattle.tiql_check.proofs.FitQuery.{checked_well}
use Rattle.tiql_check.proofs.GroupQuery.{checked_grouped}
use Rattle.tiql_check.proofs.query.check.Goals as goal

pub returns-clause-well_formed : goal.returns-clause-well_formed
returns-clause-well_formed c = checked_well c.args.tree.now _ c.check_tree.ensures

pub returns-clause-grouped : goal.returns-clause-grouped
returns-clause-grouped c = checked_grouped c.args.tree.now _ c.check_tree.ensures
