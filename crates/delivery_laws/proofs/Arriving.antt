-- In every run a deflected packet arrives.
use Rattle.std.proofs.Common.{ℕ, ◌+◌, ◌≤◌, ◌*◌, ◌-◌, true, false, Option, Some, None, List, ◌∷◌, length, ◌≡◌, refl, sym, ◌∙◌, ap, subst, arith}
use Rattle.std.specs.Prelude.{if◌then◌else◌}
use Rattle.topology.specs.declared.names.Scheme.TheVariants as scheme
use Rattle.topology.specs.declared.status.Reason.TheVariants.{Crashed}
use Rattle.topology.specs.Net.{Net, IsValid}
use Rattle.path_vector.specs.Rules.{Rules}
use Rattle.epoch_packet.specs.declared.packets.Packet.{Packet}
use Rattle.epoch_packet.specs.declared.walks.End.{End as Ending}
use Rattle.epoch_packet.specs.declared.walks.End.TheVariants.{Delivered}
use Rattle.epoch_packet.specs.declared.walks.Mode.{Mode}
use Rattle.epoch_packet.specs.declared.walks.Mode.TheVariants.{Stable, Transient}
use Rattle.transient_mode.specs.TransientHops.{Ended, hop_under, transient_hop}
use Rattle.chronicle.specs.declared.events.Event.{Event}
use Rattle.chronicle.specs.declared.events.Event.TheVariants.{Hop}
use Rattle.chronicle.specs.Facts.{Chronicle, End}
use Rattle.chronicle.specs.Crashes.{crashed}
use Rattle.chronicle.specs.Publications.{publish}
use Rattle.chronicle.specs.Walks.{Standing, standing, visit_of, walk, ending}
use Rattle.chronicle.specs.Steps.{Idle, Goes}
use Rattle.chronicle.specs.Giving.{off_tables, sight, hops_on_tables, hops_off_tables, by_mode, forwards, answer, give}
use Rattle.chronicle.specs.Run.{up_links, hopped, stands_at, is_stopped, does, step, run}
use Rattle.chronicle.proofs.Quiet.{quiet_readings}
use Rattle.chronicle.proofs.Standings.{stands}
use Rattle.walk_laws.specs.Readings.{moves}
use Rattle.walk_laws.proofs.Carried.{packet_is_read}
use Rattle.delivery_laws.specs.Unchanged.{terrain_now}
use Rattle.delivery_laws.specs.Deflected.{MayArrive, IdleOrDelivers, Arrives, DeflectionDelivers}
use Rattle.delivery_laws.proofs.Deflecting.{IsDeflected, few_spent, delivers}
use Rattle.delivery_laws.proofs.EveryRun.{all_go}

-- the end of a walk makes no table due
end_is_quiet : (rules : Rules) (net : Net) (u k : ℕ) (end : Ending) (past : Chronicle) → publish rules net u past (End k end ∷ past) ≡ End k end ∷ past
end_is_quiet rules net u k end past = quiet_readings rules net u past (End k end ∷ past) refl (λ e. refl)

module _ (rules : Rules) (net : Net) (past : Chronicle) (k : ℕ) where
  -- a hop that by the rules delivers the packet delivers it, in the mode of the packet
  delivers_in : (at : Standing) (m : Mode) → at.packet.id ≡ k → m ≡ Transient
      → transient_hop net at.packet (sight rules net at.node past at.packet.prefix (up_links net at.node past)) ≡ Ended Delivered
      → IdleOrDelivers k past (Goes (publish rules net at.node past (by_mode m (hops_on_tables net at.node past at.packet (up_links net at.node past)) (hops_off_tables rules net at.node past at.packet (up_links net at.node past)))))
  delivers_in at Stable number off is = cc
  delivers_in at Transient number off is =
      ap (λ h. publish rules net at.node past (off_tables past at.packet h)) is
      ∙ (end_is_quiet rules net at.node at.packet.id Delivered past ∙ ap (λ n. End n Delivered ∷ past) number)

  -- a hop does nothing or delivers the packet, whether the packet stands somewhere and whether its walk has ended
  delivers_hopped : (at : Option Standing) (end : Option Ending)
      → ((a : Standing) → at ≡ Some a → (a.packet.id ≡ k) × (a.packet.mode ≡ Transient) × (transient_hop net a.packet (sight rules net a.node past a.packet.prefix (up_links net a.node past)) ≡ Ended Delivered))
      → IdleOrDelivers k past (if is_stopped past (stands_at at end) then Idle Crashed else hopped rules net past at end)
  unfolding give answer forwards
  delivers_hopped None end known = tt
  delivers_hopped (Some at) (Some end) known = tt
  delivers_hopped (Some at) None known =
      let of_it = known at refl in
      elim (crashed at.node past) as (λ t. IdleOrDelivers k past (if t then Idle Crashed else hopped rules net past (Some at) None)) [
        | true ↦ tt
        | false ↦ delivers_in at at.packet.mode of_it.0 of_it.1 of_it.2
      ]

  -- the next hop of the packet does nothing or delivers it
  delivers_next : ((a : Standing) → standing k past ≡ Some a → (a.packet.id ≡ k) × (a.packet.mode ≡ Transient) × (transient_hop net a.packet (sight rules net a.node past a.packet.prefix (up_links net a.node past)) ≡ Ended Delivered))
      → IdleOrDelivers k past (step rules net past (Hop k))
  unfolding step does
  delivers_next known = delivers_hopped (standing k past) (ending k past) known

module _ (rules : Rules) (net : Net) (events : List Event) (valid : IsValid net) (deflects : net.scheme ≡ scheme.Deflect) (k : ℕ) (at : Standing) where
  abbrev past : Chronicle
  past = run rules net events

  pub arrives : MayArrive net past k at → Arrives net past k (step rules net past (Hop k))
  arrives may =
      let s = stands k past at may.stands in
      let read = packet_is_read rules net events k at s.before may.stands s.walked in
      let made : moves (walk k past) ≡ moves (visit_of at.node at.packet ∷ s.before) = ap moves s.walked in
      let limit = read.few in
      let left = read.read.budget in
      let goes = all_go rules net valid deflects events k at may.stands may.off may.unchanged in
      let few = few_spent rules net valid past at goes.deflected in
      record {
        few = omega (arith, made, limit, left, few);
        last = λ all. delivers_next rules net past k (λ a is.
            let same : at ≡ a = cc (sym may.stands ∙ is) in
            subst (λ (x : Standing). (x.packet.id ≡ k) × (x.packet.mode ≡ Transient) × (transient_hop net x.packet (sight rules net x.node past x.packet.prefix (up_links net x.node past)) ≡ Ended Delivered)) same (
              s.number,
              may.off,
              ap (λ t. hop_under t net at.packet (sight rules net at.node past at.packet.prefix (up_links net at.node past))) deflects
                  ∙ delivers rules net valid past at goes.deflected (omega (arith, made, limit, left, all)) may.connected,
            ));
        ended = λ end is. goes.ended end is may.enough may.connected;
      }

-- in every run, a deflected packet arrives
pub deflection_delivers : (rules : Rules) (net : Net) (events : List Event) → IsValid net → DeflectionDelivers rules net (run rules net events)
deflection_delivers rules net events valid = record { arrives = λ deflects k at may. arrives rules net events valid deflects k at may }
