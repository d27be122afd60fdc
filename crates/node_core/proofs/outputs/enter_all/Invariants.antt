use Rattle.std.proofs.Common.{◌≡◌, [], ◌∷◌, ◌++◌, map}
use Rattle.node_core.specs.declared.outputs.Output.TheVariants.{Logged, Send}
use Rattle.node_core.proofs.outputs.enter_all.Given as goal

abbrev pub invariant-loop-out : goal.invariant-loop-out
invariant-loop-out l = record { sent : l.outputs.items ≡ (l.fn.outputs.items ++ Logged l.index ∷ []) ++ map (λ out. Send out) l.yielded }
