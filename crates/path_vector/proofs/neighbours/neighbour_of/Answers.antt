use Rattle.std.proofs.Common.{Some, None, sym, ap, ◌∙◌, replicate}
use Rattle.path_vector.proofs.Neighbourhood.{neighbour_relates}
use Rattle.path_vector.proofs.Remembering.{remembers_nothing}
use Rattle.path_vector.proofs.neighbours.neighbour_of.Goals as goal

pub unreachable-requires : goal.unreachable-requires
unreachable-requires c = neighbour_relates c.args.topology.now c.args.node c.args.id c.requires (sym c.relation.ensures ∙ c.in_default.is)

pub returns-clause-remembers : goal.returns-clause-remembers
returns-clause-remembers c = remembers_nothing c.args.topology.now c.args.node _ (sym c.relation.ensures ∙ c.in-Some.is) (ap (λ s. Some s) c.new.ensures) c.new-2.ensures c.pref.ensures.value (c.in_ok-nothing_told.ensures ∙ ap (λ n. replicate n None) c.prefix_count.ensures.count)
