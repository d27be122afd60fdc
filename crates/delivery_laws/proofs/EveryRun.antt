-- Deflected packets in every run.
use Rattle.std.proofs.Common.{ℕ, ◌+◌, ◌≤◌, ◌*◌, ◌-◌, Bool, true, false, not, ◌&&◌, ◌==◌, Option, Some, None, List, [], ◌∷◌, length, fold, ◌≡◌, ◌⊎◌, inl, inr, ⊎_elim, refl, sym, ◌∙◌, ap, subst, arith}
use Rattle.std.specs.Prelude.{if◌then◌else◌}
use Rattle.std.proofs.lemmas.Bool.Decides.{nat_tests}
use Rattle.topology.specs.Net.{Net, IsValid}
use Rattle.topology.specs.declared.names.Scheme.{Scheme}
use Rattle.topology.specs.declared.names.Scheme.TheVariants as scheme
use Rattle.path_vector.specs.Rules.{Rules}
use Rattle.epoch_packet.specs.declared.packets.Packet.{Packet}
use Rattle.epoch_packet.specs.declared.stable.StableStep.{StableStep}
use Rattle.epoch_packet.specs.declared.stable.StableStep.TheVariants.{Arrived, Next, Turn}
use Rattle.epoch_packet.specs.declared.walks.End.{End as Ending}
use Rattle.epoch_packet.specs.declared.walks.End.TheVariants.{Delivered}
use Rattle.epoch_packet.specs.declared.walks.Mode.{Mode}
use Rattle.epoch_packet.specs.declared.walks.Mode.TheVariants.{Stable, Transient}
use Rattle.epoch_packet.specs.Packets.{stamped, visited_at_turn, turned, moved_to}
use Rattle.epoch_packet.specs.StableHops.{stable_step}
use Rattle.epoch_packet.specs.Visited.{bit}
use Rattle.transient_mode.specs.TransientHops.{Hop, Ended, hop_under, transient_hop}
use Rattle.transient_mode.specs.TransientHops as transient
use Rattle.transient_mode.proofs.EachHop.{is_move}
use Rattle.chronicle.specs.declared.events.Event.{Event}
use Rattle.chronicle.specs.declared.events.Event.TheVariants as event
use Rattle.chronicle.specs.Facts.{Chronicle, Visit, End}
use Rattle.chronicle.specs.Giving.{injects, forwards, hops_on_tables, hops_off_tables, by_mode, on_tables, off_tables, sight}
use Rattle.chronicle.specs.Publications.{kept_path, newest_epoch}
use Rattle.chronicle.specs.Run.{up_links, after, run}
use Rattle.chronicle.specs.Walks.{Standing, standing, ending}
use Rattle.chronicle.proofs.Moves.{IsOfPackets}
use Rattle.chronicle.proofs.Standings.{stands}
use Rattle.chronicle.proofs.Visiting.{SameWalks, ForPackets, for_packets}
use Rattle.walk_laws.specs.Readings.{is_transient}
use Rattle.deflect_delivery.specs.Terrain.{Terrain}
use Rattle.delivery_laws.specs.Unchanged.{is_off, stays, terrain_now}
use Rattle.delivery_laws.proofs.Deflecting.{IsDeflected, EndsSo, stand, begins_at, moves_on, ends_so}
use Rattle.delivery_laws.proofs.Ended.{NoneEnded, after_event}
use Rattle.delivery_laws.proofs.Staying.{one_fact, stayed}

-- packet k is deflected by the rules, over the present links and owners; if its walk has ended, its end is as the rules
-- say
pub record Goes (net : Net) (past : Chronicle) (k : ℕ) (at : Standing) : Type 0 where
  pub deflected : IsDeflected net (terrain_now net at.packet.prefix past) at
  pub ended : (end : Ending) → ending k past ≡ Some end → EndsSo net (terrain_now net at.packet.prefix past) at end

-- `Goes` holds of each packet off the tables while links and owners stay as they were when it left the tables
abbrev pub AllGo : Net → Chronicle → Type 0
AllGo net past = (k : ℕ) (at : Standing) → standing k past ≡ Some at → at.packet.mode ≡ Transient → stays k at.packet.prefix past ≡ true → Goes net past k at

-- a packet that stands there off the tables is off the tables
off_there : (k : ℕ) (past : Chronicle) (at : Standing) → standing k past ≡ Some at → at.packet.mode ≡ Transient → is_off (standing k past) ≡ true
off_there k past at is off = ap is_off is ∙ ap is_transient off

module _ (rules : Rules) (net : Net) (valid : IsValid net) (deflects : net.scheme ≡ scheme.Deflect) where
  module _ (past : Chronicle) (unended : NoneEnded past) (old : AllGo net past) where
    -- `AllGo` is kept by a visit of a packet whose walk had not ended
    on_visit : (w : ℕ) (moved : Packet) → ending moved.id past ≡ None
        → (moved.mode ≡ Transient → stays moved.id moved.prefix (Visit w moved ∷ past) ≡ true → IsDeflected net (terrain_now net moved.prefix past) (stand w moved))
        → AllGo net (Visit w moved ∷ past)
    unfolding up_links
    on_visit w moved none new k at is off same =
        (elim (moved.id == k) as (λ t. (moved.id == k) ≡ t → (if t then Some (stand w moved) else standing k past) ≡ Some at → Goes net (Visit w moved ∷ past) k at) [
          | true ↦ λ e got.
              let number : moved.id ≡ k = grind (arith, nat_tests) in
              let here : stand w moved ≡ at = cc got in
              let mode : moved.mode ≡ Transient = subst (λ (a : Standing). a.packet.mode ≡ Transient) (sym here) off in
              let kept : stays moved.id moved.prefix (Visit w moved ∷ past) ≡ true =
              subst (λ n. stays n moved.prefix (Visit w moved ∷ past) ≡ true) (sym number) (subst (λ (a : Standing). stays k a.packet.prefix (Visit w moved ∷ past) ≡ true) (sym here) same) in
              subst (λ (a : Standing). Goes net (Visit w moved ∷ past) k a) here (record {
                deflected = new mode kept;
                ended = λ end ends.
                    let never : ending k past ≡ None = sym (ap (λ n. ending n past) number) ∙ none in
                    absurd (cc (sym never ∙ ends));
              })
          | false ↦ λ e got.
              let one = one_fact net k at.packet.prefix (Visit w moved) past (off_there k past at got off) same in
              let was = old k at got off one.0 in
              record { deflected = was.deflected; ended = was.ended }
        ]) refl is

    -- `AllGo` is kept by the end of the walk of a packet
    on_end : (number : ℕ) (end : Ending)
        → ((at : Standing) → standing number past ≡ Some at → at.packet.mode ≡ Transient → stays number at.packet.prefix past ≡ true → EndsSo net (terrain_now net at.packet.prefix past) at end)
        → AllGo net (End number end ∷ past)
    unfolding up_links
    on_end number end new k at is off same =
        let one = one_fact net k at.packet.prefix (End number end) past (off_there k past at is off) same in
        let was = old k at is off one.0 in
        record {
          deflected = was.deflected;
          ended = λ x ends.
              (elim (number == k) as (λ t. (number == k) ≡ t → (if t then Some end else ending k past) ≡ Some x → EndsSo net (terrain_now net at.packet.prefix past) at x) [
                | true ↦ λ e got.
                    let it : number ≡ k = grind (arith, nat_tests) in
                    let this : end ≡ x = cc got in
                    subst (λ y. EndsSo net (terrain_now net at.packet.prefix past) at y) this
                    (new at (ap (λ n. standing n past) it ∙ is) off (ap (λ n. stays n at.packet.prefix past) it ∙ one.0))
                | false ↦ λ e got. was.ended x got
              ]) refl ends;
        }

    -- `AllGo` is kept when a packet leaves the tables, or enters off them
    on_start : (u : ℕ) (packet : Packet) → ending packet.id past ≡ None → (packet.mode ≡ Transient → (packet.budget ≡ net.hops) × (packet.visited ≡ bit net u) × (packet.trail ≡ []))
        → AllGo net (Visit u packet ∷ past)
    on_start u packet none fresh =
        on_visit u packet none (λ mode same. let new = fresh mode in begins_at net (terrain_now net packet.prefix past) u packet new.0 new.1 new.2)

    -- a packet that stands somewhere also stands there by the number that it carries
    number_of : (k : ℕ) (at : Standing) → standing k past ≡ Some at → standing at.packet.id past ≡ Some at
    number_of k at is = ap (λ n. standing n past) (stands k past at is).number ∙ is

    -- a packet whose walk has not ended has not ended by the number that it carries
    unended_by : (k : ℕ) (at : Standing) → standing k past ≡ Some at → ending k past ≡ None → ending at.packet.id past ≡ None
    unended_by k at is none = ap (λ n. ending n past) (stands k past at is).number ∙ none

    -- `AllGo` is kept by a hop on the tables
    on_stable : (k : ℕ) (at : Standing) (s : StableStep) → standing k past ≡ Some at → ending k past ≡ None → at.packet.mode ≡ Stable → AllGo net (on_tables net at.node past at.packet s)
    unfolding turned
    on_stable k at Arrived is none on =
        on_end at.packet.id Delivered (λ x there off same enough way. refl)
    on_stable k at (Next w) is none on =
        on_visit w (moved_to net w at.packet) (unended_by k at is none) (λ mode same. let both : Stable ≡ Transient = sym on ∙ mode in cc)
    on_stable k at Turn is none on =
        on_start at.node (turned net at.node at.packet) (unended_by k at is none)
        (λ mode. (refl, ap (λ s. visited_at_turn s net at.node at.packet) deflects, refl))

    -- `AllGo` is kept by a hop off the tables
    on_transient : (k : ℕ) (at : Standing) (h : Hop) → standing k past ≡ Some at → ending k past ≡ None → at.packet.mode ≡ Transient
        → hop_under scheme.Deflect net at.packet (sight rules net at.node past at.packet.prefix (up_links net at.node past)) ≡ h
        → AllGo net (off_tables past at.packet h)
    on_transient k at (transient.Next w moved) is none off does =
        let view = sight rules net at.node past at.packet.prefix (up_links net at.node past) in
        let move = is_move scheme.Deflect net at.packet moved view w does in
        on_visit w moved (ap (λ n. ending n past) move.same_id ∙ unended_by k at is none)
        (λ mode same.
        let there : standing moved.id past ≡ Some at = ap (λ n. standing n past) move.same_id ∙ number_of k at is in
        let one = one_fact net moved.id moved.prefix (Visit w moved) past (off_there moved.id past at there off) same in
        let kept : stays at.packet.id at.packet.prefix past ≡ true = subst (λ q. stays at.packet.id q past ≡ true) move.same_prefix (subst (λ n. stays n moved.prefix past ≡ true) move.same_id one.0) in
        let was = old at.packet.id at (number_of k at is) off kept in
        subst (λ q. IsDeflected net (terrain_now net q past) (stand w moved)) (sym move.same_prefix) (moves_on rules net valid past at was.deflected w moved does))
    on_transient k at (Ended end) is none off does =
        on_end at.packet.id end (λ x there gone same.
        let here : at ≡ x = cc (sym (number_of k at is) ∙ there) in
        let kept : stays at.packet.id at.packet.prefix past ≡ true = subst (λ (a : Standing). stays at.packet.id a.packet.prefix past ≡ true) (sym here) same in
        let was = old at.packet.id at (number_of k at is) off kept in
        subst (λ (a : Standing). EndsSo net (terrain_now net a.packet.prefix past) a end) here (ends_so rules net valid past at was.deflected end does))

    -- `AllGo` is kept by a hop, in the mode of the packet
    on_hop : (k : ℕ) (at : Standing) (m : Mode) → standing k past ≡ Some at → ending k past ≡ None → at.packet.mode ≡ m
        → AllGo net (by_mode m (hops_on_tables net at.node past at.packet (up_links net at.node past)) (hops_off_tables rules net at.node past at.packet (up_links net at.node past)))
    on_hop k at Stable is none mode = on_stable k at (stable_step (kept_path at.node at.packet.epoch at.packet.prefix past) (up_links net at.node past)) is none mode
    on_hop k at Transient is none mode =
        let view = sight rules net at.node past at.packet.prefix (up_links net at.node past) in
        on_transient k at (transient_hop net at.packet view) is none mode (sym (ap (λ s. hop_under s net at.packet view) deflects))

    -- `AllGo` is kept by an event that is of no packet
    unmoved : (e : Event) → (IsOfPackets e → ⊥) → SameWalks past (after rules net past e) → AllGo net (after rules net past e)
    unmoved e apart walks k at is off same =
        let there : standing k past ≡ Some at = sym (walks.same_standing k) ∙ is in
        let back = (stayed rules net k at.packet.prefix past e apart).back (off_there k past at there off) same in
        let was = old k at there off back.0 in
        record {
          deflected = subst (λ (t : Terrain). IsDeflected net t at) (sym back.1) was.deflected;
          ended = λ end ends. subst (λ (t : Terrain). EndsSo net t at end) (sym back.1) (was.ended end (sym (walks.same_ending k) ∙ ends));
        }

    -- `AllGo` is kept by each event
    after_all : (e : Event) → ForPackets rules net past e (after rules net past e) → AllGo net (after rules net past e)
    unfolding injects forwards stamped
    after_all (event.Inject k u p) (inl same) = subst (AllGo net) (sym same) old
    after_all (event.Inject k u p) (inr new) =
        subst (AllGo net) (sym new.is) (on_start u (stamped net k p u (newest_epoch u past)) (unended k new.is_new) (λ mode. (refl, refl, refl)))
    after_all (event.Hop k) (inl same) = subst (AllGo net) (sym same) old
    after_all (event.Hop k) (inr on) = subst (AllGo net) (sym on.is) (on_hop k on.at on.at.packet.mode on.stands on.on_its_way refl)
    after_all (event.Originate u p) same = unmoved (event.Originate u p) (λ t. t) same
    after_all (event.Withdraw u p) same = unmoved (event.Withdraw u p) (λ t. t) same
    after_all (event.Prefer u v value) same = unmoved (event.Prefer u v value) (λ t. t) same
    after_all (event.Deliver v u) same = unmoved (event.Deliver v u) (λ t. t) same
    after_all (event.Fail a b) same = unmoved (event.Fail a b) (λ t. t) same
    after_all (event.Restore a b) same = unmoved (event.Restore a b) (λ t. t) same
    after_all (event.Notice u v) same = unmoved (event.Notice u v) (λ t. t) same
    after_all (event.OpenSession u v) same = unmoved (event.OpenSession u v) (λ t. t) same
    after_all (event.Flush u v) same = unmoved (event.Flush u v) (λ t. t) same
    after_all (event.Snap u) same = unmoved (event.Snap u) (λ t. t) same
    after_all (event.Propose u e) same = unmoved (event.Propose u e) (λ t. t) same
    after_all (event.Control number) same = unmoved (event.Control number) (λ t. t) same
    after_all (event.Crash u) same = unmoved (event.Crash u) (λ t. t) same
    after_all (event.Restart u) same = unmoved (event.Restart u) (λ t. t) same

  -- `AllGo` is kept by a list of events
  along : (events : List Event) (past : Chronicle) → NoneEnded past → AllGo net past → AllGo net (fold (after rules net) past events)
  along [] past unended old = old
  along (e ∷ events) past unended old =
      let does = for_packets rules net past e in
      along events (after rules net past e) (after_event rules net past unended e (after rules net past e) does) (after_all past unended old e does)

  -- `AllGo` holds in every run
  pub all_go : (events : List Event) → AllGo net (run rules net events)
  unfolding run
  all_go events = along events [] (λ k none. refl) (λ k at is. absurd (cc is))
