use Rattle.std.proofs.Common.{◌≡◌, ◌∙◌, ◌<◌, ◌∷◌, arith, refl, ap, sym, slice_index_or, length}
use Rattle.std.specs.Option.{option_copied}
use Rattle.std.proofs.lemmas.Option.{same_Some, slice_get_read}
use Rattle.path_vector.specs.Selection.{best}
use Rattle.path_vector.specs.Offers.{offered_route}
use Rattle.trigger_log.specs.declared.offers.Offer.{Offer}
use Rattle.trigger_log.specs.Entries.{reads}
use Rattle.trigger_log.specs.Making.{making}
use Rattle.trigger_log.specs.Offered.{differs}
use Rattle.trigger_log.proofs.Flags.{flags_length}
use Rattle.trigger_log.proofs.QuietTurns.{stands_still}
use Rattle.trigger_log.proofs.Updating.{chosen_at, chosen_in, differs_is, same_length, same_prefix_at}
use Rattle.trigger_log.proofs.held_changes.is_moved.Goals as goal

pub bounds-turn-place : goal.bounds-turn-place
bounds-turn-place g c =
    let turn = c.args.turn.now in
    let long = flags_length turn.before.now turn.after.now turn.same.now c.requires.same in
    let inside : c.args.place < length turn.after.now = c.requires.within in
    omega arith

pub returns-then-turn-place : goal.returns-then-turn-place
returns-then-turn-place g c = λ policy net u h k o stands before after near at.
    let turn = c.args.turn.now in
    let l = c.args.listener.now in
    sym (stands_still (g.P.Policy.rules policy) net u h k l.knows l.nbr turn.before.now turn.after.now turn.same.now c.args.place o c.if-listener.true c.if-turn-place.true c.requires.same c.requires.within at before after)

pub returns : goal.returns
unfolding offered_route
returns g c = λ policy net u h k there stands before after near at.
    let rules = g.P.Policy.rules policy in
    let to = c.relation_to-to.ensures policy net u (k.read ∷ reads h) stands near in
    let turn = c.args.turn.now in
    let l = c.args.listener.now in
    let i = c.args.place in
    let inside : i < length turn.after.now = c.requires.within in
    let long = same_length turn.before.now turn.after.now c.requires.same_prefixes in
    let o = c.index-turn-place.result in
    let b = slice_index_or turn.before.now i c.index-turn-place-2.result in
    let is_b : b ≡ slice_index_or turn.before.now i b = ap (slice_index_or turn.before.now i) c.index-turn-place-2.is in
    let offered = c.path_for-offered.ensures policy net u l.nbr (k.read ∷ reads h) (best rules net u (k.read ∷ reads h) o.prefix) stands (chosen_in rules net u (k.read ∷ reads h) turn.after.now i o after inside c.index-turn-place.is) to in
    let knew = c.known.ensures policy net u (reads h) (k.read ∷ reads h) stands (chosen_at rules net u (reads h) turn.before.now i b before (omega arith) is_b) to in
    let same = differs_is rules net u h k l.knows l.nbr o.prefix b.prefix (option_copied c.path_for-offered.result) (option_copied c.known.result) c.same.result c.same.ensures offered knew
    (same_prefix_at turn.before.now turn.after.now i b o c.requires.same_prefixes inside is_b c.index-turn-place.is) in
    let is_o : there ≡ o = same_Some there o (sym at ∙ slice_get_read turn.after.now (length turn.after.now) i o refl inside c.index-turn-place.is) in
    sym (ap (λ (x : Offer). differs (making rules net u h k) l.knows l.nbr x.prefix) is_o ∙ same)
