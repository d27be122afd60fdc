-- The links after a push; if the item was queued, something is on the way.
use Rattle.std.proofs.Common.{ℕ, Bool, true, List, [], ◌∷◌, ◌++◌, ◌≡◌, refl, sym, ◌∙◌, ap, length, get_or, set}
use Rattle.topology.specs.declared.items.Item.{Item}
use Rattle.topology.specs.LinkStates.{carries}
use Rattle.topology.specs.Net.{Net}
use Rattle.link_model.specs.declared.links.Links.{Links}
use Rattle.link_model.specs.Acts.{LinkActs, Push}
use Rattle.link_model.specs.Keeping.{IsPlaced}
use Rattle.link_model.specs.Readings.{state}
use Rattle.link_model.specs.Standing.{StandsFor}
use Rattle.link_model.specs.Ways.{OneWay, after_push, has_items}
use Rattle.link_model.proofs.Keeping.{keeps_with, way_at}
use Rattle.link_model.proofs.Standing.{ways_after, keeps_of, pushed}

pub after_pushed : (net : Net) (old new : Links) (acts : LinkActs) (from to way session : ℕ) (item : Item) (kept left : OneWay) (queued : Bool)
    → length old.channels.items ≡ length old.table → IsPlaced old from to way → kept ≡ get_or old.channels.items way kept → queued ≡ carries kept.state session → left ≡ after_push session item kept
    → new.table ≡ old.table → new.channels.items ≡ set old.channels.items way left → StandsFor net old acts
    → (queued ≡ carries (state from to acts) session) × StandsFor net new (Push from to session item ∷ acts)
after_pushed net old new acts from to way session item kept left queued sized placed read answer is table channels stands =
    let keeps = keeps_of net old acts stands in
    let was = way_at net old (ways_after acts) from to way kept sized keeps placed read in (
      answer ∙ ap (λ (k : OneWay). carries k.state session) was,
      pushed net new acts from to session item
          (keeps_with net old new (ways_after acts) from to way _ sized placed table
          (channels ∙ ap (λ k. set old.channels.items way k) (is ∙ ap (after_push session item) was)) keeps),
    )

some_pushed : (items : List Item) (item : Item) → has_items (items ++ item ∷ []) ≡ true
some_pushed [] item = refl
some_pushed (x ∷ xs) item = refl

pub is_busy : (session : ℕ) (item : Item) (kept left : OneWay) (queued : Bool) → left ≡ after_push session item kept → queued ≡ carries kept.state session → queued ≡ true → true ≡ has_items left.items
is_busy session item kept left queued is answer carried =
    sym (ap (λ (k : OneWay). has_items k.items) is ∙ rw (sym answer ∙ carried) (some_pushed kept.items item))
