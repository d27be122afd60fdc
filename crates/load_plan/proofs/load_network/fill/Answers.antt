use Rattle.std.proofs.Common.{refl}
use Rattle.load_plan.proofs.Drafts.{own_links, named_net}
use Rattle.load_plan.proofs.load_network.fill.Goals as goal

pub add_prefixes-requires : goal.add_prefixes-requires
add_prefixes-requires c = own_links _ _ 0 c.in_ok-first_providers.ensures.links

pub returns-clause-topology : goal.returns-clause-topology
returns-clause-topology c = named_net _ _ _ _ refl c.in_ok-first_providers.ensures.links c.in_ok-add_prefixes.ensures
