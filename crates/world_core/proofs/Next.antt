-- The next delivery is over the first open way on which something is.
use Rattle.std.proofs.Common.{ℕ, ◌<◌, ◌≤◌, true, false, ◌&&◌, Option, Some, None, IsSome, IfNone, List, [], ◌∷◌, ◌≡◌, refl, sym, ◌∙◌, ap, ap₂, subst, ⊎_elim, true≢false, length, filter, map, flat_map, slice_get}
use Rattle.std.specs.List.{AllByRecursion}
use Rattle.std.proofs.lemmas.Bool.{cases_lt}
use Rattle.topology.specs.declared.items.Item.{Item as Message}
use Rattle.topology.specs.Lists.{ascending}
use Rattle.topology.specs.Net.{Net, IsValid, linked, neighbours}
use Rattle.trigger_log.specs.Going.{item_of}
use Rattle.link_model.specs.declared.links.Links.{Links}
use Rattle.link_model.specs.declared.way_set.WaySet.{WaySet}
use Rattle.link_model.specs.Acts.{LinkActs}
use Rattle.link_model.specs.Keeping.{IsPlaced}
use Rattle.link_model.specs.Readings.{channel_after}
use Rattle.link_model.specs.Standing.{StandsFor as LinksStandFor}
use Rattle.link_model.specs.Tables.{ends, ways_of}
use Rattle.link_model.specs.Ways.{has_items}
use Rattle.link_model.specs.WaySets.{IsLowest, has_both, has_number}
use Rattle.link_model.proofs.Numbers.{one_number}
use Rattle.topology.specs.declared.ways.Way.{Way}
use Rattle.chronicle.specs.Channels.{channel}
use Rattle.chronicle.specs.Facts.{Chronicle}
use Rattle.chronicle.specs.Deliveries.{arrives, ways, next_delivery}
use Rattle.world_core.specs.Holding.{IsNext, IsOver}
use Rattle.world_core.specs.Matching.{AreLinks}
use Rattle.world_core.specs.OpenWays.{AreOpen, is_open}
use Rattle.world_core.specs.Refreshing.{AreLinked, way}
use Rattle.world_core.specs.WaySets.{has_way}
use Rattle.world_core.proofs.Telling.{filter_passes}
use Rattle.world_core.proofs.Changing.{linked_append}
use Rattle.world_core.proofs.Numbered.{at_number, found_first, found_none, linked_at, ways_numbered}
use Rattle.world_core.proofs.Opened.{arrives_where, both_true, has_item}
use Rattle.world_core.proofs.Places.{same_some, some_at}

-- the ways from one node
linked_from : (net : Net) (v : ℕ) (us : List ℕ) → AllByRecursion (λ u. linked net v u ≡ true) us → AreLinked net (map (λ u. way v u) us)
linked_from net v [] near = tt
linked_from net v (u ∷ us) near = (near.0, linked_from net v us near.1)

-- the ways from these nodes
linked_all : (net : Net) (vs : List ℕ) → AreLinked net (flat_map (λ v. map (λ u. way v u) (filter (linked net v) (ascending net.nodes))) vs)
linked_all net [] = tt
linked_all net (v ∷ vs) =
    linked_append net (map (λ u. way v u) (filter (linked net v) (ascending net.nodes))) (flat_map (λ v. map (λ u. way v u) (filter (linked net v) (ascending net.nodes))) vs)
    (linked_from net v (filter (linked net v) (ascending net.nodes)) (filter_passes (linked net v) (ascending net.nodes))) (linked_all net vs)

-- all ways go over links
ways_near : (net : Net) → AreLinked net (ways net)
unfolding ways neighbours
ways_near net = linked_all net (ascending net.nodes)

-- so do those that have a number
pub numbered_near : (net : Net) → AreLinked net (ways_of net)
numbered_near net = subst (AreLinked net) (ways_numbered net) (ways_near net)

-- both read the same of a list
same_items : (items : List Message) → has_items items ≡ has_item (map item_of items)
same_items [] = refl
same_items (x ∷ items) = refl

-- what the links say of a set of ways: it has the number of each on which something is
abbrev pub AreBusy : Links → LinkActs → WaySet → Type 0
AreBusy links acts busy = (from to number : ℕ) → IsPlaced links from to number → has_number busy number ≡ has_items (channel_after from to acts)

-- what has a number is placed there
pub placed_at : (net : Net) (links : Links) (acts : LinkActs) → LinksStandFor net links acts → (number : ℕ) (e : Way) → slice_get (ways_of net) number ≡ Some e → IsPlaced links e.from e.to number
placed_at net links acts stands number e at = record {
  here = ap (λ l. slice_get l number) stands.numbered ∙ at;
  only = λ other there. one_number net e.from e.to other number stands.valid (sym (ap (λ l. slice_get l other) stands.numbered) ∙ there) at;
}

-- the ends of the way of the next delivery
pub over_ends : (net : Net) (past : Chronicle) (number : ℕ) (o : Option Way) (e : Way) → IsNext net past number → o ≡ slice_get (ways_of net) number → o ≡ Some e → IsOver net past e
over_ends net past number o e next is some = subst (IsOver net past) (same_some next.way e (sym next.here ∙ (sym is ∙ some))) next.over

-- they are there
pub has_ends : (net : Net) (past : Chronicle) (number : ℕ) (o : Option Way) → IsNext net past number → o ≡ slice_get (ways_of net) number → IsSome o
has_ends net past number o next is = subst IsSome (sym (is ∙ next.here)) refl

module _ (net : Net) (past : Chronicle) (links : Links) (ways busy : WaySet) (valid : IsValid net) (was : AreLinks net past links) (opened : AreOpen net past (has_way net ways)) (full : AreBusy links was.acts busy) where
  -- a number is in both sets where a delivery over its way would not be idle
  pub waits_at : (i : ℕ) (e : Way) → slice_get (ways_of net) i ≡ Some e → arrives past e.from e.to ≡ has_both ways busy i
  waits_at i e at =
      let near = linked_at net (ways_of net) i e (numbered_near net) at in
      let set : has_number ways i ≡ is_open past e.from e.to =
      sym (at_number net valid (has_number ways) i e at) ∙ (opened e ∙ ap (λ b. b && is_open past e.from e.to) near) in
      let some : has_number busy i ≡ has_item (channel e.from e.to past) =
      full e.from e.to i (placed_at net links was.acts was.stands i e at) ∙ (same_items (channel_after e.from e.to was.acts) ∙ ap has_item (was.items e.from e.to)) in
      arrives_where past e.from e.to ∙ sym (ap₂ (λ a b. a && b) set some)

  -- no delivery is next where no number is in both
  pub next_none : ((i : ℕ) → has_both ways busy i ≡ false) → next_delivery net past ≡ None
  unfolding next_delivery
  next_none none = found_none net (λ (w : Way). arrives past w.from w.to) (has_both ways busy) waits_at none

  -- the next one is that of the lowest number
  pub next_first : (k : ℕ) (r : Option Way) → r ≡ slice_get (ways_of net) k → IsLowest (has_both ways busy) k → next_delivery net past ≡ r
  unfolding next_delivery
  next_first k r is low = found_first net (λ (w : Way). arrives past w.from w.to) (has_both ways busy) waits_at k r is low.has low.least

  -- a delivery would not be idle over a way whose number is in both
  pub waits_over : (from to number : ℕ) → IsPlaced links from to number → has_number ways number ≡ true → has_number busy number ≡ true → arrives past from to ≡ true
  waits_over from to number placed set some =
      waits_at number (ends from to) (ap (λ l. slice_get l number) (sym was.stands.numbered) ∙ placed.here) ∙ ap₂ (λ a b. a && b) set some

  -- so the next one is that of the lowest number in both
  pub next_at : ((number : ℕ) → length links.table ≤ number → has_number busy number ≡ false) → (number : ℕ) → IsLowest (has_both ways busy) number → IsNext net past number
  next_at within number low = ⊎_elim
      (λ (below : number < length links.table).
      let one = some_at (ways_of net) number (subst (λ (l : List Way). number < length l) was.stands.numbered below) in
      record {
        way = one.0;
        here = one.1;
        over = record {
          near = linked_at net (ways_of net) number one.0 (numbered_near net) one.1;
          waits = waits_at number one.0 one.1 ∙ low.has;
          first = next_first number (Some one.0) (sym one.1) low;
        };
      })
      (λ (beyond : length links.table ≤ number). absurd (true≢false (sym (both_true (has_number ways number) (has_number busy number) low.has).1 ∙ within number beyond)))
      (cases_lt number (length links.table))

-- what follows where there is nothing
pub none_then : {X P Q : Type 0} (o : Option X) → IfNone o P → (P → Q) → IfNone o Q
none_then None none so = so none
none_then (Some x) none so = none
