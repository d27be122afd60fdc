use Rattle.std.proofs.Common.{ℕ, List, length, subst}
use Rattle.consolidator.specs.Facts.{agreement}
use Rattle.consolidator.specs.Readings.{reports_held}
use Rattle.consolidator.specs.Parts as part
use Rattle.consolidator.proofs.Keeping.{ok_from_two, proposes_at}
use Rattle.consolidator.proofs.consolidators.propose_in.Goals as goal

pub returns : goal.returns
returns c =
    ok_from_two c.propose.result _ _ _
    (λ reply epoch proposes past here h.
    let held = agreement c.args.epoch past in
    let reports = reports_held c.args.node c.args.epoch past in
    proposes_at c.args.topology.now reply c.args.node c.args.epoch c.in_ok-place.place c.args.parts.now.items c.place_for.new.parts.items c.index_mut.result.now c.propose.new.self past
    c.in_ok-place.ensures.place c.in_ok-place.ensures.within c.in_ok-place.ensures.same c.index_mut.ensures.value epoch h
    (subst (λ (ms : List ℕ). part.StandsFor (length ms) c.index_mut.result.now held reports c.args.node → part.Proposes ms reply c.index_mut.result.now c.propose.new.self (part.epoch_past held reports) c.args.node)
    c.consolidators-members.ensures (proposes held reports)))
    c.propose.ensures.epoch c.propose.ensures.proposes
