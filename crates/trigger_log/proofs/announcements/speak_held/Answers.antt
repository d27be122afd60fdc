use Rattle.std.proofs.Common.{◌≡◌, ◌∙◌, ◌∷◌, Some, true, false, sym, ap, subst, List}
use Rattle.topology.specs.Lists.{has}
use Rattle.topology.specs.Net.{neighbours}
use Rattle.path_vector.specs.History.{last, held}
use Rattle.trigger_log.specs.declared.listeners.Listener.{Listener}
use Rattle.trigger_log.specs.Entries.{Update, flushes, reads}
use Rattle.trigger_log.specs.Sending.{news}
use Rattle.trigger_log.specs.HoldingBack.{ArePlacedRows, row_updates}
use Rattle.trigger_log.specs.Telling.{TellsUpdates, speech_of}
use Rattle.trigger_log.proofs.Collected.{held_placed, sent_rows}
use Rattle.trigger_log.proofs.Silence.{news_flushed, news_held}
use Rattle.trigger_log.proofs.Speaking.{knew, spoken_silent, spoken_told}
use Rattle.trigger_log.proofs.announcements.speak_held.Goals as goal

pub returns-then-not-flushes : goal.returns-then-not-flushes
returns-then-not-flushes g c = λ policy net u h k w enters back near holds open_still now says.
    let rules = g.P.Policy.rules policy in
    let mark = c.args.mark.now in
    let waits : flushes k.read.cause w ≡ false =
    ap (λ x. flushes x w) enters.cause ∙ (ap (flushes c.args.turn.now.cause.now) (sym says.nbr) ∙ (sym c.flushes.ensures ∙ c.if-not-flushes.true)) in
    spoken_silent rules net u h k w enters.fitting mark.sent (speech_of c.args.said.now) says.sent open_still (news_held rules net u h k w holds waits)

pub returns : goal.returns
returns g c = λ policy net u h k w enters back near holds open_still now says.
    let rules = g.P.Policy.rules policy in
    let mark = c.args.mark.now in
    let s = last (reads (k ∷ h)) w in
    let flush : flushes k.read.cause w ≡ true =
    ap (λ x. flushes x w) enters.cause ∙ (ap (flushes c.args.turn.now.cause.now) (sym says.nbr) ∙ (sym c.flushes.ensures ∙ c.if-not-flushes.false)) in
    let session : held (reads h) w ≡ Some s = (knew k h w s enters.fitting now).0 in
    let listener : Listener = record { nbr = mark.nbr; session = mark.session; sent = mark.sent; knows = true } in
    let placed : ArePlacedRows net c.rows.result.now = subst (ArePlacedRows net) (sym c.rows.ensures) (held_placed rules net u h c.args.held.now back) in
    let told = c.in_ok-tell_held.ensures policy net u (k.read ∷ reads h) enters.stands enters.chosen (subst (λ n. has (neighbours net u) n ≡ true) (sym says.nbr) near) placed in
    let list : row_updates rules net u (k.read ∷ reads h) c.rows.result.now mark.nbr ≡ news rules net u h k w =
    ap (row_updates rules net u (k.read ∷ reads h) c.rows.result.now) says.nbr
    ∙ (ap (λ l. row_updates rules net u (k.read ∷ reads h) l w) c.rows.ensures
    ∙ (sent_rows rules net u h w c.args.held.now back enters.stands.valid near k s enters.fitting flush session ∙ sym (news_flushed rules net u h k w holds flush))) in
    spoken_told rules net u h k w enters.fitting s c.in_ok-tell_held.field-0 listener (speech_of c.args.said.now) (speech_of c.tell_held.new.said)
    says.nbr says.session says.sent open_still now
    (subst (λ (l : List Update). TellsUpdates listener l (speech_of c.args.said.now) (speech_of c.tell_held.new.said) c.in_ok-tell_held.field-0) list told)
