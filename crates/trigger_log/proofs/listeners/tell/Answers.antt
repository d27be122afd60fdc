use Rattle.std.proofs.Common.{◌≡◌, ◌∙◌, ◌<◌, ◌∷◌, [], ◌++◌, sym, ap, subst, arith, true, false, length, map, take, slice_index_or}
use Rattle.std.proofs.lemmas.List.{take_all, length-map}
use Rattle.std.specs.Option.{option_copied}
use Rattle.path_vector.specs.Selection.{best}
use Rattle.path_vector.specs.Offers.{offer, offered_route}
use Rattle.trigger_log.specs.declared.offers.Offer.{Offer}
use Rattle.trigger_log.specs.Entries.{Update, reads}
use Rattle.trigger_log.specs.Making.{making}
use Rattle.trigger_log.specs.Going.{going_of}
use Rattle.trigger_log.specs.Sending.{update_of}
use Rattle.trigger_log.specs.Offered.{prefixes_of, updates_over}
use Rattle.trigger_log.specs.Telling.{TellsUpdates, speech_of, update_going}
use Rattle.trigger_log.proofs.Updating.{tells_more, over_same, over_other, differs_is, prefix_at, chosen_at, chosen_in, same_length, same_prefix_at, same_update}
use Rattle.trigger_log.proofs.Flags.{flags_length}
use Rattle.trigger_log.proofs.QuietTurns.{stood}
use Rattle.trigger_log.proofs.listeners.tell.Goals as goal

pub bounds-turn-i : goal.bounds-turn-i
bounds-turn-i g c =
    let turn = c.args.turn.now in
    let long = flags_length turn.before.now turn.after.now turn.same.now c.requires.same in
    let inside : c.loop-i.i < length turn.after.now = c.loop-i-test.true in
    omega arith

pub loop-i-preserved-then-turn-i : goal.loop-i-preserved-then-turn-i
loop-i-preserved-then-turn-i g c = λ policy net u h k stands lists before after near.
    let turn = c.args.turn.now in
    let l = c.args.listener.now in
    subst (λ list. TellsUpdates l list (speech_of c.args.said.now) (speech_of c.loop-i.said) c.loop-i.count)
    (sym (stood (g.P.Policy.rules policy) net u h k l.knows l.nbr turn.before.now turn.after.now turn.same.now c.loop-i.i c.if-listener.true c.if-turn-i.true c.requires.same c.loop-i-test.true before after))
    (c.loop-i.invariant policy net u h k stands lists before after near)

pub loop-i-preserved-then-same : goal.loop-i-preserved-then-same
unfolding offered_route
loop-i-preserved-then-same g c = λ policy net u h k stands lists before after near.
    let rules = g.P.Policy.rules policy in
    let to = c.relation_to-to.ensures policy net u (k.read ∷ reads h) stands near in
    let turn = c.args.turn.now in
    let l = c.args.listener.now in
    let i = c.loop-i.i in
    let inside : i < length turn.after.now = c.loop-i-test.true in
    let long = same_length turn.before.now turn.after.now c.requires.same_prefixes in
    let o = c.index-turn-i.result in
    let b = slice_index_or turn.before.now i c.index-turn-i-in-loop-i.result in
    let is_b : b ≡ slice_index_or turn.before.now i b = ap (slice_index_or turn.before.now i) c.index-turn-i-in-loop-i.is in
    let offered = c.path_for-offered.ensures policy net u l.nbr (k.read ∷ reads h) (best rules net u (k.read ∷ reads h) o.prefix) stands (chosen_in rules net u (k.read ∷ reads h) turn.after.now i o after inside c.index-turn-i.is) to in
    let knew = c.known.ensures policy net u (reads h) (k.read ∷ reads h) stands (chosen_at rules net u (reads h) turn.before.now i b before (omega arith) is_b) to in
    let same = differs_is rules net u h k l.knows l.nbr o.prefix b.prefix (option_copied c.path_for-offered.result) (option_copied c.known.result) true c.if-same.ensures offered knew
    (same_prefix_at turn.before.now turn.after.now i b o c.requires.same_prefixes inside is_b c.index-turn-i.is) in
    subst (λ list. TellsUpdates l list (speech_of c.args.said.now) (speech_of c.loop-i.said) c.loop-i.count)
    (sym (over_same rules net u h k l.knows l.nbr (prefixes_of turn.after.now) i o.prefix (prefix_at turn.after.now i o inside c.index-turn-i.is) (omega (arith, length-map turn.after.now (λ (o : Offer). o.prefix))) same))
    (c.loop-i.invariant policy net u h k stands lists before after near)

pub loop-i-preserved : goal.loop-i-preserved
unfolding offered_route
loop-i-preserved g c = λ policy net u h k stands lists before after near.
    let rules = g.P.Policy.rules policy in
    let to = c.relation_to-to.ensures policy net u (k.read ∷ reads h) stands near in
    let turn = c.args.turn.now in
    let l = c.args.listener.now in
    let i = c.loop-i.i in
    let inside : i < length turn.after.now = c.loop-i-test.true in
    let long = same_length turn.before.now turn.after.now c.requires.same_prefixes in
    let o = c.index-turn-i.result in
    let b = slice_index_or turn.before.now i c.index-turn-i-in-loop-i.result in
    let is_b : b ≡ slice_index_or turn.before.now i b = ap (slice_index_or turn.before.now i) c.index-turn-i-in-loop-i.is in
    let offered = c.path_for-offered.ensures policy net u l.nbr (k.read ∷ reads h) (best rules net u (k.read ∷ reads h) o.prefix) stands (chosen_in rules net u (k.read ∷ reads h) turn.after.now i o after inside c.index-turn-i.is) to in
    let knew = c.known.ensures policy net u (reads h) (k.read ∷ reads h) stands (chosen_at rules net u (reads h) turn.before.now i b before (omega arith) is_b) to in
    let other = differs_is rules net u h k l.knows l.nbr o.prefix b.prefix (option_copied c.path_for-offered.result) (option_copied c.known.result) false c.if-same.ensures offered knew
    (same_prefix_at turn.before.now turn.after.now i b o c.requires.same_prefixes inside is_b c.index-turn-i.is) in
    let list = updates_over (making rules net u h k) l.knows l.nbr (take i (prefixes_of turn.after.now)) in
    let more = tells_more l list (update_of (making rules net u h k) l.nbr o.prefix)
    (speech_of c.args.said.now) (speech_of c.loop-i.said) (speech_of c.say.new.said) c.loop-i.count c.in_ok-count.count
    c.in_ok-count.ensures.count
    (c.in_ok-count.ensures.sent ∙ ap (λ ts. c.loop-i.said.sent ++ record { to = l.nbr; session = l.session; seq = c.in_ok-count.count; triggers = ts } ∷ []) (sym lists))
    (c.in_ok-count.ensures.outgoing ∙ ap (λ (x : Update). map going_of c.loop-i.said.outgoing.items ++ update_going l c.in_ok-count.count x ∷ [])
    (same_update (slice_index_or turn.after.now i o).prefix o.prefix turn.triggers.now k.triggers (option_copied c.path_for-offered.result) (offer rules net u (k.read ∷ reads h) o.prefix l.nbr)
    (ap (λ (x : Offer). x.prefix) (sym c.index-turn-i.is)) (sym lists) offered))
    (c.loop-i.invariant policy net u h k stands lists before after near) in
    subst (λ list. TellsUpdates l list (speech_of c.args.said.now) (speech_of c.say.new.said) c.in_ok-count.count)
    (sym (over_other rules net u h k l.knows l.nbr (prefixes_of turn.after.now) i o.prefix (prefix_at turn.after.now i o inside c.index-turn-i.is) (omega (arith, length-map turn.after.now (λ (o : Offer). o.prefix))) other))
    more

pub returns : goal.returns
returns g c = λ policy net u h k stands lists before after near.
    let l = c.args.listener.now in
    let ps = prefixes_of c.args.turn.now.after.now in
    let all : take c.loop-i.i ps ≡ ps = take_all c.loop-i.i ps (omega (arith, length-map c.args.turn.now.after.now (λ (o : Offer). o.prefix))) in
    subst (λ list. TellsUpdates l (updates_over (making (g.P.Policy.rules policy) net u h k) l.knows l.nbr list) (speech_of c.args.said.now) (speech_of c.loop-i.said) c.loop-i.count) all
    (c.loop-i.invariant policy net u h k stands lists before after near)
