use Rattle.route_node.proofs.Unique.{come_once}
use Rattle.route_node.proofs.laws.a_stream_comes_to_one_thing.Goals as goal

pub returns : goal.returns
returns c = come_once
