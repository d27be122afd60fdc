use Rattle.std.proofs.Common.{◌∙◌, sym}
use Rattle.consolidator.specs.Seen.{message_seen}
use Rattle.consolidator.proofs.Keeping.{ok_from_two, place_epoch, hears_at}
use Rattle.consolidator.proofs.consolidators.hear_in.Goals as goal

pub hear-requires : goal.hear-requires
hear-requires c =
    sym (place_epoch c.args.node c.epoch-epoch.result c.in_ok-place.place c.place_for.new.parts.items c.index_mut.result.now c.in_ok-place.ensures.place c.in_ok-place.ensures.within c.index_mut.ensures.value
    ∙ c.epoch-epoch.ensures)

pub returns : goal.returns
returns c =
    ok_from_two c.hear.result _ _ _
    (λ reply epoch heard past here h.
    hears_at c.args.topology.now reply c.args.node c.epoch-epoch.result c.in_ok-place.place c.args.parts.now.items c.place_for.new.parts.items c.index_mut.result.now c.hear.new.self past c.args.from (message_seen c.args.message)
    c.epoch-epoch.ensures c.in_ok-place.ensures.place c.in_ok-place.ensures.within c.in_ok-place.ensures.same c.index_mut.ensures.value epoch h
    (λ is. heard past c.args.node here is))
    c.hear.ensures.epoch c.hear.ensures.heard
