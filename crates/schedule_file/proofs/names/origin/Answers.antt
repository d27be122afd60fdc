use Rattle.schedule_file.proofs.Places.{place_of}
use Rattle.schedule_file.proofs.names.origin.Goals as goal

pub returns-clause-ok : goal.returns-clause-ok
returns-clause-ok c =
    place_of c.args.prefix c.args.topology.now.prefixes c.in-Some.place c.in-Some.ensures.some (c.nodes-valid.ensures.valid.prefixes_differ c.args.prefix)
