use Rattle.std.proofs.Common.{◌≡◌, ◌∙◌, ◌<◌, arith, refl, ap, sym, true, false, length, take, slice_get, option_map, slice_index_or, Some}
use Rattle.std.proofs.lemmas.List.{take_all, length-map}
use Rattle.std.proofs.lemmas.Option.{slice_get_read, slice_get-map}
use Rattle.trigger_log.specs.declared.offers.Offer.{Offer}
use Rattle.trigger_log.specs.Making.{making}
use Rattle.trigger_log.specs.Offered.{differs, prefixes_of, updates_over}
use Rattle.trigger_log.specs.Putting.{put_all}
use Rattle.trigger_log.proofs.Collected.{gathered_more}
use Rattle.trigger_log.proofs.Rounds.{some_at}
use Rattle.trigger_log.proofs.Updating.{over_same}
use Rattle.trigger_log.proofs.held_changes.gather.Goals as goal

pub loop-place-preserved-then-not-is_moved : goal.loop-place-preserved-then-not-is_moved
loop-place-preserved-then-not-is_moved g c = record {
  from = c.loop-place.invariant.from;
  rows = λ policy net u h k stands lists before after near.
      let rules = g.P.Policy.rules policy in
      let turn = c.args.turn.now in
      let l = c.args.listener.now in
      let i = c.loop-place.place in
      let inside : i < length turn.after.now = c.loop-place-test.true in
      let here = some_at turn.after.now i inside in
      let o = here.0 in
      let stays : differs (making rules net u h k) l.knows l.nbr o.prefix ≡ false = sym (c.is_moved.ensures policy net u h k o stands before after near here.1) ∙ c.if-not-is_moved.true in
      c.loop-place.invariant.rows policy net u h k stands lists before after near
      ∙ ap (λ xs. put_all l.nbr l.session xs c.args.held.now.rows)
      (sym (over_same rules net u h k l.knows l.nbr (prefixes_of turn.after.now) i o.prefix (slice_get-map (λ (o : Offer). o.prefix) turn.after.now i ∙ ap (option_map (λ (o : Offer). o.prefix)) here.1)
      (omega (arith, length-map turn.after.now (λ (o : Offer). o.prefix))) stays));
}

pub loop-place-preserved : goal.loop-place-preserved
loop-place-preserved g c = record {
  from = c.put.ensures.from ∙ c.loop-place.invariant.from;
  rows = λ policy net u h k stands lists before after near.
      let rules = g.P.Policy.rules policy in
      let turn = c.args.turn.now in
      let l = c.args.listener.now in
      let i = c.loop-place.place in
      let inside : i < length turn.after.now = c.loop-place-test.true in
      let o = c.index-turn-place.result in
      let at : slice_get turn.after.now i ≡ Some o = slice_get_read turn.after.now (length turn.after.now) i o refl inside c.index-turn-place.is in
      let moved : differs (making rules net u h k) l.knows l.nbr o.prefix ≡ true = sym (c.is_moved.ensures policy net u h k o stands before after near at) ∙ c.if-not-is_moved.false in
      gathered_more rules net u h k l.knows l.nbr l.session i o.prefix (slice_index_or turn.after.now i o).prefix (prefixes_of turn.after.now) turn.triggers.now
      c.args.held.now.rows c.loop-place.held.rows c.put.new.self.rows
      (slice_get-map (λ (o : Offer). o.prefix) turn.after.now i ∙ ap (option_map (λ (o : Offer). o.prefix)) at)
      (omega (arith, length-map turn.after.now (λ (o : Offer). o.prefix))) moved (ap (λ (x : Offer). x.prefix) (sym c.index-turn-place.is)) (sym lists)
      (c.loop-place.invariant.rows policy net u h k stands lists before after near) c.in_ok-put.ensures.rows;
}

pub returns-clause-rows : goal.returns-clause-rows
returns-clause-rows g c = λ policy net u h k stands lists before after near.
    let l = c.args.listener.now in
    let ps = prefixes_of c.args.turn.now.after.now in
    let all : take c.loop-place.place ps ≡ ps = take_all c.loop-place.place ps (omega (arith, length-map c.args.turn.now.after.now (λ (o : Offer). o.prefix))) in
    c.loop-place.invariant.rows policy net u h k stands lists before after near
    ∙ ap (λ qs. put_all l.nbr l.session (updates_over (making (g.P.Policy.rules policy) net u h k) l.knows l.nbr qs) c.args.held.now.rows) all
