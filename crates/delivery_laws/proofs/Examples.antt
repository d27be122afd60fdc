-- Packets deflected in a star, and which facts count as a change since they left the tables.
use Rattle.std.specs.Prelude.{ℕ, ◌≡◌, ◌≤◌, ◌*◌, ◌-◌, ◌+◌, Bool, true, false, Option, Some, None, List, [], ◌∷◌, ◌++◌, length, reverse, refl}
use Rattle.std.proofs.Common.{arith}
use Rattle.topology.specs.Lists.{has}
use Rattle.topology.specs.declared.links.Relation.TheVariants.{Any}
use Rattle.topology.specs.Net.{Net}
use Rattle.path_vector.specs.GaoRexford.{gao_rexford}
use Rattle.path_vector.specs.History.{owns}
use Rattle.trigger_log.specs.Entries.{reads}
use Rattle.epoch_packet.specs.declared.packets.Packet.{Packet}
use Rattle.epoch_packet.specs.declared.walks.End.{End as Ending}
use Rattle.epoch_packet.specs.declared.walks.End.TheVariants.{Delivered, Stuck}
use Rattle.epoch_packet.specs.declared.walks.Mode.TheVariants.{Stable, Transient}
use Rattle.chronicle.specs.declared.events.Event.{Event}
use Rattle.chronicle.specs.declared.events.Event.TheVariants.{Originate, Withdraw, Fail, Restore, Crash, Deliver, Notice, Inject, Hop}
use Rattle.chronicle.specs.Facts.{Chronicle}
use Rattle.chronicle.specs.Logs.{log_of}
use Rattle.chronicle.specs.Walks.{Standing, standing, walk, ending}
use Rattle.chronicle.specs.Run.{up_links, run}
use Rattle.chronicle.proofs.Opened.{all}
use Rattle.chronicle.proofs.Shown.{a_link, network}
use Rattle.walk_laws.specs.Readings.{nodes_of}
use Rattle.delivery_laws.specs.Unchanged.{stays, terrain_now}
use Rattle.delivery_laws.specs.Deflected.{MayArrive}

-- a star with centre 1
abbrev star : Net
star = record (network (1 ∷ 2 ∷ 3 ∷ 4 ∷ []) (a_link 1 2 Any ∷ a_link 1 3 Any ∷ a_link 1 4 Any ∷ [])) { hops = 6 }

-- 4 owns the prefix, and a packet enters at 2
abbrev entered : List Event
entered = Originate 4 0 ∷ Inject 1 2 0 ∷ []

abbrev after_these : List Event → Chronicle
after_these events = run gao_rexford star events

-- the packet, as it enters
abbrev packet : Packet
packet = record { id = 1; prefix = 0; epoch = 0; mode = Transient; budget = 6; reached = false; visited = 2; trail = []; route = [] }

abbrev there : Standing
there = record { node = 2; packet = packet }

-- the packet may arrive: links that are up lead by 1 to 4
owns_it : owns (reads (log_of 4 (after_these entered))) 0 ≡ true
unfolding all
owns_it = refl

first_link : has (up_links star 2 (after_these entered)) 1 ≡ true
unfolding all
first_link = refl

second_link : has (up_links star 1 (after_these entered)) 4 ≡ true
unfolding all
second_link = refl

stands_there : standing 1 (after_these entered) ≡ Some there
unfolding all
stands_there = refl

nothing_changed : stays 1 0 (after_these entered) ≡ true
unfolding all
nothing_changed = refl

may_arrive : MayArrive star (after_these entered) 1 there
may_arrive = record {
  stands = stands_there;
  off = refl;
  unchanged = nothing_changed;
  enough = omega arith;
  connected = (4, owns_it, (1 ∷ 4 ∷ [], (first_link, (second_link, refl))));
}

-- the packet arrives
abbrev walked : Chronicle → List ℕ × Option Ending
walked past = (nodes_of (reverse (walk 1 past)), ending 1 past)

arrives : walked (after_these (entered ++ Hop 1 ∷ Hop 1 ∷ Hop 1 ∷ Hop 1 ∷ Hop 1 ∷ [])) ≡ (2 ∷ 1 ∷ 3 ∷ 1 ∷ 4 ∷ [], Some Delivered)
unfolding all
arrives = refl

-- ---- what counts as a change

-- since the packet entered: a link that fails or is restored, and an owner that comes or goes
fails_since : stays 1 0 (after_these (entered ++ Fail 1 3 ∷ [])) ≡ false
unfolding all
fails_since = refl

comes_since : stays 1 0 (after_these (entered ++ Originate 3 0 ∷ [])) ≡ false
unfolding all
comes_since = refl

goes_since : stays 1 0 (after_these (entered ++ Hop 1 ∷ Withdraw 4 0 ∷ Hop 1 ∷ [])) ≡ false
unfolding all
goes_since = refl

-- these are no changes: an owner of another prefix, an update, a crash, and all that came before the packet
others_do_not : stays 1 0 (after_these (entered ++ Originate 3 1 ∷ Deliver 4 1 ∷ Crash 3 ∷ Hop 1 ∷ [])) ≡ true
unfolding all
others_do_not = refl

earlier_does_not : stays 1 0 (after_these (Fail 1 3 ∷ Notice 1 3 ∷ Restore 1 3 ∷ entered)) ≡ true
unfolding all
earlier_does_not = refl
