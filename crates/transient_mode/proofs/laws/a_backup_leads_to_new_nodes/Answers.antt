use Rattle.transient_mode.proofs.NewNodes.{leads_on}
use Rattle.transient_mode.proofs.laws.a_backup_leads_to_new_nodes.Goals as goal

pub returns : goal.returns
returns c = leads_on
