use Rattle.std.proofs.Common.{◌≡◌, true, map, sym, subst}
use Rattle.std.specs.List.{list_all}
use Rattle.admission_laws.specs.Handing.{output_fits}
use Rattle.node_core.specs.Outputs.{output_of}
use Rattle.route_node.proofs.replies.write_replies.Goals as goal

pub write_each-requires : goal.write_each-requires
write_each-requires g c = subst (λ list. list_all (output_fits c.args.topology.now c.args.id) (map output_of list) ≡ true) (sym c.in-Ok.ensures) c.requires

pub returns-clause-ok : goal.returns-clause-ok
returns-clause-ok g c = rw (sym c.in-Ok.ensures) c.write_each.ensures.ok

pub returns-clause-err : goal.returns-clause-err
returns-clause-err g c = rw (sym c.in-Ok.ensures) c.write_each.ensures.err
