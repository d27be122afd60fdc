use Rattle.world_core.proofs.network.Network.actor.Goals as goal

pub returns-in-Control : goal.returns-in-Control
returns-in-Control g c past counts was = rw c.in-Control.is (c.addressee.ensures past counts was)

pub returns-in-Inject : goal.returns-in-Inject
returns-in-Inject g c past counts was = rw c.in-Inject.is (c.entrance.ensures past was.are_walks)

pub returns-in-Hop : goal.returns-in-Hop
returns-in-Hop g c past counts was = rw c.in-Hop.is (c.stand.ensures past was.are_walks)
