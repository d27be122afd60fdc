use Rattle.std.proofs.Common.{◌≡◌, take, filter}
use Rattle.deflect_delivery.specs.Stills.{joins}
use Rattle.deflect_delivery.proofs.stills.Still.up_near.Given as goal

abbrev pub invariant-loop-nbr : goal.invariant-loop-nbr
invariant-loop-nbr l = record { so_far : l.up.items ≡ filter (joins l.self l.node) (take l.nbr-index l.nbr-items) }
