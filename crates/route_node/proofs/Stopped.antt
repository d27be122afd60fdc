-- A node stops at a frame.
use Rattle.std.proofs.Common.{ℕ, ◌≡◌, true, false, Some, None, refl, sym, ap, ◌∙◌, subst}
use Rattle.std.specs.Prelude.{nat_lt, if◌then◌else◌}
use Rattle.topology.specs.declared.status.LimitKind.TheVariants.{Frames}
use Rattle.topology.specs.declared.status.Status.{Status}
use Rattle.topology.specs.declared.status.Status.TheVariants.{Limit}
use Rattle.topology.specs.Net.{Net}
use Rattle.path_vector.specs.Rules.{Rules}
use Rattle.chronicle.specs.Steps.{Step, Idle, Goes}
use Rattle.node_core.specs.NodeLimits.{Reached, node_limit, StopsAt}
use Rattle.node_core.specs.declared.outputs.Stop.{Stop}
use Rattle.node_core.specs.declared.outputs.Stop.TheVariants as stop
use Rattle.topology.specs.declared.limits.TheConstants.{MOST_FRAMES}
use Rattle.route_node.specs.Fronts.{EndsFrame, StopsFrame}
use Rattle.route_node.specs.Records.{EndsHeard, StopsRecord}
use Rattle.route_node.specs.Streams.{out_of_turn}

-- an input that exceeds a limit is in turn
in_turn : (rules : Rules) (net : Net) (u : ℕ) (step : Step) (reached : Reached) → node_limit rules net u step ≡ Some reached → out_of_turn step ≡ None
in_turn rules net u (Idle why) reached e = absurd (cc e)
in_turn rules net u (Goes now) reached e = refl

pub ends_stopped : (rules : Rules) (net : Net) (u offset frames : ℕ) (step : Step) (s : Stop) (status : Status) → StopsFrame frames s status → StopsAt (node_limit rules net u step) s
    → EndsFrame offset frames (out_of_turn step) (node_limit rules net u step) status
ends_stopped rules net u offset frames step stop.NoMemory status is stops = subst (EndsFrame offset frames (out_of_turn step) (node_limit rules net u step)) (sym is) tt
ends_stopped rules net u offset frames step (stop.Limit kind number) status is stops =
    subst (EndsFrame offset frames (out_of_turn step) (node_limit rules net u step)) (sym is)
    ((elim (nat_lt frames MOST_FRAMES) as (λ t. nat_lt frames MOST_FRAMES ≡ t → EndsFrame offset frames (out_of_turn step) (node_limit rules net u step) (if t then Limit kind number else Limit Frames MOST_FRAMES)) [
      | true ↦ λ e. (turn, ap (λ b. if b then node_limit rules net u step else Some (record { kind = Frames; number = MOST_FRAMES })) e ∙ stops)
      | false ↦ λ e. (turn, ap (λ b. if b then node_limit rules net u step else Some (record { kind = Frames; number = MOST_FRAMES })) e)
    ]) refl)
  where
    turn : out_of_turn step ≡ None
    turn = in_turn rules net u step (record { kind = kind; number = number }) stops

-- the same for the input of a record
pub ends_heard : (rules : Rules) (net : Net) (u offset : ℕ) (step : Step) (s : Stop) (status : Status) → StopsRecord s status → StopsAt (node_limit rules net u step) s
    → EndsHeard offset (out_of_turn step) (node_limit rules net u step) status
ends_heard rules net u offset step stop.NoMemory status is stops = subst (EndsHeard offset (out_of_turn step) (node_limit rules net u step)) (sym is) tt
ends_heard rules net u offset step (stop.Limit kind number) status is stops =
    subst (EndsHeard offset (out_of_turn step) (node_limit rules net u step)) (sym is) (in_turn rules net u step (record { kind = kind; number = number }) stops, stops)
