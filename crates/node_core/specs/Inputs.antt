-- Inputs, as definitions see them.
use Rattle.trigger_log.specs.Going.{item_of}
use Rattle.consolidator.specs.Seen.{message_seen}
use Rattle.chronicle.specs.Inputs.{Input, Originate, Withdraw, Prefer, Arrive, Notice, OpenSession, Flush, Snap, Propose, Control, Inject, Hop}
use Rattle.node_core.specs.declared.inputs.Input.{Input as Given}
use Rattle.node_core.specs.declared.inputs.Input.TheVariants as given

abbrev pub input_of : Given → Input
input_of (given.Originate prefix) = Originate prefix
input_of (given.Withdraw prefix) = Withdraw prefix
input_of (given.Prefer nbr value) = Prefer nbr value
input_of (given.Arrive from session item) = Arrive from session (item_of item)
input_of (given.Notice nbr) = Notice nbr
input_of (given.OpenSession nbr session) = OpenSession nbr session
input_of (given.Flush nbr) = Flush nbr
input_of given.Snap = Snap
input_of (given.Propose epoch) = Propose epoch
input_of (given.Control from message) = Control from (message_seen message)
input_of (given.Inject id prefix) = Inject id prefix
input_of (given.Hop packet up) = Hop packet.value up.items
