-- The links after an item was taken.
use Rattle.std.proofs.Common.{ℕ, List, ◌∷◌, ◌≡◌, sym, ◌∙◌, ap, length, get_or, set}
use Rattle.topology.specs.declared.items.Item.{Item}
use Rattle.topology.specs.Net.{Net}
use Rattle.link_model.specs.declared.links.Links.{Links}
use Rattle.link_model.specs.Acts.{LinkActs, Take}
use Rattle.link_model.specs.Keeping.{IsPlaced}
use Rattle.link_model.specs.Readings.{state, channel_after, behind_front}
use Rattle.link_model.specs.Standing.{StandsFor}
use Rattle.link_model.specs.Ways.{OneWay}
use Rattle.link_model.proofs.Keeping.{keeps_with, way_at}
use Rattle.link_model.proofs.Standing.{ways_after, keeps_of, same_way, taken}

pub after_taken : (net : Net) (old new : Links) (acts : LinkActs) (from to way : ℕ) (item : Item) (kept left : OneWay)
    → length old.channels.items ≡ length old.table → IsPlaced old from to way → kept ≡ get_or old.channels.items way kept → kept.items ≡ item ∷ left.items → left.state ≡ kept.state
    → new.table ≡ old.table → new.channels.items ≡ set old.channels.items way left → StandsFor net old acts
    → (rest : List Item) × (channel_after from to acts ≡ item ∷ rest) × StandsFor net new (Take from to ∷ acts)
after_taken net old new acts from to way item kept left sized placed read front same table channels stands =
    let keeps = keeps_of net old acts stands in
    let was = way_at net old (ways_after acts) from to way kept sized keeps placed read in
    let first = sym (ap (λ (k : OneWay). k.items) was) ∙ front in (
      left.items,
      first,
      taken net new acts from to
          (keeps_with net old new (ways_after acts) from to way _ sized placed table
          (channels ∙ ap (λ k. set old.channels.items way k) (same_way left (state from to acts) (behind_front (channel_after from to acts))
          (same ∙ ap (λ (k : OneWay). k.state) was) (sym (ap behind_front first)))) keeps),
    )
