-- A hop that does not need the order of the neighbours is the same for every order.
use Rattle.std.proofs.Common.{Bool, true, false, not, ◌&&◌, ◌==◌, List, ℕ, ◌≡◌, refl, sym, ◌∙◌, ap}
use Rattle.std.specs.Prelude.{if◌then◌else◌, nat_lt, length, find, None, Some}
use Rattle.topology.specs.Net.{Net}
use Rattle.topology.specs.declared.names.Scheme.{Scheme}
use Rattle.topology.specs.declared.names.Scheme.TheVariants as scheme
use Rattle.epoch_packet.specs.declared.walks.End.TheVariants.{Delivered, Expired}
use Rattle.epoch_packet.specs.declared.packets.Packet.{Packet}
use Rattle.transient_mode.specs.Sights.{Sight}
use Rattle.transient_mode.specs.TransientHops.{is_new, deflect_by, deflected, follow, set_out, by_scheme, deflects, asks_for_order, unless_ended, hop_under, transient_hop}

module _ (net : Net) (packet : Packet) (view : Sight) (order : List ℕ) where
  -- what the node sees, with this order
  abbrev other : Sight
  other = record view { order = order }

  -- a deflection with a full trail
  same_deflected : nat_lt (length packet.trail) 64 ≡ false → deflected net packet other ≡ deflected net packet view
  unfolding deflected
  same_deflected full =
      ap (λ t. deflect_by net packet other (if t then find (is_new net packet.visited view.up) order else None)) full
      ∙ sym (ap (λ t. deflect_by net packet view (if t then find (is_new net packet.visited view.up) view.order else None)) full)

  -- a detour
  same_detoured : (n : ℕ) (a b : Bool) → (not a && not b && nat_lt (length packet.trail) 64) ≡ false
      → (if a then follow net packet other packet.route else if b then set_out net packet other else deflected net packet other)
      ≡ (if a then follow net packet view packet.route else if b then set_out net packet view else deflected net packet view)
  same_detoured n true b off = refl
  same_detoured n false true off = refl
  same_detoured n false false off = same_deflected off

  -- under each scheme
  same_by_scheme : (s : Scheme) → (deflects s packet view && nat_lt (length packet.trail) 64) ≡ false → by_scheme s net packet other ≡ by_scheme s net packet view
  same_by_scheme scheme.Deflect off = same_deflected off
  same_by_scheme (scheme.Detour n) off = same_detoured n packet.reached (view.at == n) off
  same_by_scheme scheme.Backup off = refl

  -- a hop
  pub same_hop : asks_for_order net packet view ≡ false → transient_hop net packet other ≡ transient_hop net packet view
  unfolding hop_under
  same_hop off =
      (elim view.owns as (λ o. (not o && (not (packet.budget == 0) && (deflects net.scheme packet view && nat_lt (length packet.trail) 64))) ≡ false
      → unless_ended (if o then Some Delivered else if packet.budget == 0 then Some Expired else None) (by_scheme net.scheme net packet other)
      ≡ unless_ended (if o then Some Delivered else if packet.budget == 0 then Some Expired else None) (by_scheme net.scheme net packet view)) [
        | true ↦ λ asks. refl
        | false ↦ λ asks.
            (elim (packet.budget == 0) as (λ t. (not t && (deflects net.scheme packet view && nat_lt (length packet.trail) 64)) ≡ false
            → unless_ended (if t then Some Expired else None) (by_scheme net.scheme net packet other) ≡ unless_ended (if t then Some Expired else None) (by_scheme net.scheme net packet view)) [
              | true ↦ λ none. refl
              | false ↦ λ none. same_by_scheme net.scheme none
            ]) asks
      ]) off
