use Rattle.route_node.specs.Running.{left_of}
use Rattle.route_node.proofs.Going.{Keeps}
use Rattle.route_node.proofs.serving.ends.Given as goal

-- it runs, and has gone on since wherever it began
abbrev pub invariant-loop-next : goal.invariant-loop-next
invariant-loop-next g l =
    Keeps (λ policy. g.P.Policy.rules policy) l.initial.process (record { link = g.L.Link.seen l.initial.link; disk = g.D.Disk.seen l.initial.disk }) l.process (record { link = g.L.Link.seen l.link; disk = g.D.Disk.seen l.disk })

-- what is left to do
abbrev pub decreases-loop-next : goal.decreases-loop-next
decreases-loop-next g l = left_of l.process
