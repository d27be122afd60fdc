use Rattle.std.proofs.Common.{◌≡◌, ◌∙◌, sym, subst, arith, true, false, take}
use Rattle.std.proofs.lemmas.List.{take_all}
use Rattle.trigger_log.specs.HoldingBack.{row_update, row_updates}
use Rattle.trigger_log.specs.Putting.{is_to}
use Rattle.trigger_log.specs.Telling.{TellsUpdates, speech_of}
use Rattle.trigger_log.proofs.Collected.{placed_at, rows_other, rows_own}
use Rattle.trigger_log.proofs.Updating.{tells_more}
use Rattle.trigger_log.proofs.listeners.tell_held.Goals as goal

pub loop-place-preserved-then-not-is_to : goal.loop-place-preserved-then-not-is_to
loop-place-preserved-then-not-is_to g c = λ policy net u now stands keeps near placed.
    let rules = g.P.Policy.rules policy in
    let l = c.args.listener.now in
    let rows = c.args.rows.now in
    let i = c.loop-place.place in
    let row = c.index-rows-place.result in
    let test : is_to l.nbr row ≡ false = sym c.is_to.ensures ∙ c.if-not-is_to.true in
    subst (λ list. TellsUpdates l list (speech_of c.args.said.now) (speech_of c.loop-place.said) c.loop-place.count)
    (sym (rows_other rules net u now l.nbr rows i row c.loop-place-test.true c.index-rows-place.is test))
    (c.loop-place.invariant policy net u now stands keeps near placed)

pub loop-place-preserved : goal.loop-place-preserved
loop-place-preserved g c = λ policy net u now stands keeps near placed.
    let rules = g.P.Policy.rules policy in
    let l = c.args.listener.now in
    let rows = c.args.rows.now in
    let i = c.loop-place.place in
    let row = c.index-rows-place.result in
    let test : is_to l.nbr row ≡ true = sym c.is_to.ensures ∙ c.if-not-is_to.false in
    let more = tells_more l (row_updates rules net u now (take i rows) l.nbr) (row_update rules net u now row l.nbr)
    (speech_of c.args.said.now) (speech_of c.loop-place.said) (speech_of c.tell_row.new.said) c.loop-place.count c.in_ok-count.count
    c.in_ok-count.ensures.count c.in_ok-count.ensures.sent
    (c.in_ok-count.ensures.outgoing policy net u now stands keeps near (placed_at net rows i row placed c.loop-place-test.true c.index-rows-place.is))
    (c.loop-place.invariant policy net u now stands keeps near placed) in
    subst (λ list. TellsUpdates l list (speech_of c.args.said.now) (speech_of c.tell_row.new.said) c.in_ok-count.count)
    (sym (rows_own rules net u now l.nbr rows i row c.loop-place-test.true c.index-rows-place.is test)) more

pub returns : goal.returns
returns g c = λ policy net u now stands keeps near placed.
    let l = c.args.listener.now in
    let rows = c.args.rows.now in
    let all : take c.loop-place.place rows ≡ rows = take_all c.loop-place.place rows (omega arith) in
    subst (λ list. TellsUpdates l (row_updates (g.P.Policy.rules policy) net u now list l.nbr) (speech_of c.args.said.now) (speech_of c.loop-place.said) c.loop-place.count) all
    (c.loop-place.invariant policy net u now stands keeps near placed)
