use Rattle.std.proofs.Common.{refl}
use Rattle.route_io.proofs.Bytes.{no_rise}
use Rattle.route_node.proofs.Networks.{attended_plain}
use Rattle.route_node.proofs.plain.attend_plain.Goals as goal

pub returns : goal.returns
returns c = attended_plain _ _ _ _ _ _ (λ failed. no_rise (c.attend.ensures.read_fault.rose failed)) refl c.attend.ensures
