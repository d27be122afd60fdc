use Rattle.std.proofs.Common.{◌≡◌, ◌∙◌, ◌∷◌, Some, None, true, false, not, sym, ap, ap₂, subst, List}
use Rattle.std.specs.Prelude.{if◌then◌else◌, is_some}
use Rattle.topology.specs.Lists.{has}
use Rattle.topology.specs.Triggers.{union}
use Rattle.topology.specs.Net.{holds_back, neighbours}
use Rattle.path_vector.specs.History.{last, ready}
use Rattle.trigger_log.specs.declared.listeners.Listener.{Listener}
use Rattle.trigger_log.specs.Entries.{Update, reads}
use Rattle.trigger_log.specs.Making.{making}
use Rattle.trigger_log.specs.Sending.{close_list, news, sent_count}
use Rattle.trigger_log.specs.Offered.{prefixes_of, updates_over}
use Rattle.trigger_log.specs.Telling.{TellsUpdates, speech_of}
use Rattle.trigger_log.specs.Marked.{ends_with, readies}
use Rattle.trigger_log.specs.Putting.{triggers_to}
use Rattle.trigger_log.proofs.Silence.{news_at_once}
use Rattle.trigger_log.proofs.Collected.{closed_together, holds_is}
use Rattle.trigger_log.proofs.Speaking.{ready_mark, knew, over_asked, spoken_told, spoken_none, spoken_closed}
use Rattle.trigger_log.proofs.announcements.speak.Goals as goal

pub returns-then-ends_with : goal.returns-then-ends_with
returns-then-ends_with g c = λ policy net u h k w enters holds near says.
    let mark = c.args.mark.now in
    let ends : ends_with k.read.cause w ≡ true =
    ap (λ x. ends_with x w) enters.cause ∙ (ap (ends_with c.args.turn.now.cause.now) (sym says.nbr) ∙ (sym c.ends_with.ensures ∙ c.if-ends_with.true)) in
    let rules = g.P.Policy.rules policy in
    let all = union c.args.turn.now.triggers.now (triggers_to mark.nbr c.args.held.now.rows) in
    let joined : all ≡ close_list rules net u h k w =
    ap₂ (λ ts v. union ts (triggers_to v c.args.held.now.rows)) (sym enters.lists) says.nbr ∙ closed_together rules net u h w c.args.held.now holds enters.stands.valid near k enters.fitting ends in
    spoken_closed rules net u h k w c.in_ok-close.field-0 mark (speech_of c.args.said.now) c.close.new.sent all
    enters.fitting ends joined says c.in_ok-close.ensures.count c.in_ok-close.ensures.sent

pub returns-then-not-is_ready : goal.returns-then-not-is_ready
returns-then-not-is_ready g c = λ policy net u h k w enters holds near says.
    let rules = g.P.Policy.rules policy in
    let mark = c.args.mark.now in
    let s = last (reads (k ∷ h)) w in
    let open_still : ends_with k.read.cause w ≡ false =
    ap (λ x. ends_with x w) enters.cause ∙ (ap (ends_with c.args.turn.now.cause.now) (sym says.nbr) ∙ (sym c.ends_with.ensures ∙ c.if-ends_with.false)) in
    let unready : ready (k.read ∷ reads h) w ≡ None =
    ready_mark (k ∷ h) w (sent_count rules net u h w s) mark enters.fitting says ∙ ap (λ b. if b then Some s else None) (sym c.is_ready.ensures ∙ c.if-not-is_ready.true) in
    spoken_none rules net u h k w enters.fitting mark.sent (speech_of c.args.said.now) says.sent open_still unready

pub returns-then-holds : goal.returns-then-holds
returns-then-holds g c = λ policy net u h k w enters holds near says.
    let rules = g.P.Policy.rules policy in
    let mark = c.args.mark.now in
    let s = last (reads (k ∷ h)) w in
    let open_still : ends_with k.read.cause w ≡ false =
    ap (λ x. ends_with x w) enters.cause ∙ (ap (ends_with c.args.turn.now.cause.now) (sym says.nbr) ∙ (sym c.ends_with.ensures ∙ c.if-ends_with.false)) in
    let now : ready (k.read ∷ reads h) w ≡ Some s =
    ready_mark (k ∷ h) w (sent_count rules net u h w s) mark enters.fitting says ∙ ap (λ b. if b then Some s else None) (sym c.is_ready.ensures ∙ c.if-not-is_ready.false) in
    let waits : holds_back net u w ≡ true = holds_is rules net u h w c.args.held.now holds near c.holds.result (c.holds.ensures ∙ ap (has c.args.held.now.from.items) says.nbr) ∙ c.if-holds.true in
    c.in_ok-speak_held.ensures policy net u h k w enters holds near waits open_still now says

pub returns : goal.returns
returns g c = λ policy net u h k w enters holds near says.
    let rules = g.P.Policy.rules policy in
    let mark = c.args.mark.now in
    let turn = c.args.turn.now in
    let s = last (reads (k ∷ h)) w in
    let open_still : ends_with k.read.cause w ≡ false =
    ap (λ x. ends_with x w) enters.cause ∙ (ap (ends_with turn.cause.now) (sym says.nbr) ∙ (sym c.ends_with.ensures ∙ c.if-ends_with.false)) in
    let now : ready (k.read ∷ reads h) w ≡ Some s =
    ready_mark (k ∷ h) w (sent_count rules net u h w s) mark enters.fitting says ∙ ap (λ b. if b then Some s else None) (sym c.is_ready.ensures ∙ c.if-not-is_ready.false) in
    let free : holds_back net u w ≡ false = holds_is rules net u h w c.args.held.now holds near c.holds.result (c.holds.ensures ∙ ap (has c.args.held.now.from.items) says.nbr) ∙ c.if-holds.false in
    let listener : Listener = record { nbr = mark.nbr; session = mark.session; sent = mark.sent; knows = not c.readies.result } in
    let told = c.in_ok-tell.ensures policy net u h k enters.stands enters.lists enters.before enters.after (subst (λ n. has (neighbours net u) n ≡ true) (sym says.nbr) near) in
    let knows : listener.knows ≡ is_some (ready (reads h) w) =
    ap not (c.readies.ensures ∙ (ap (readies turn.cause.now) says.nbr ∙ ap (λ x. readies x w) (sym enters.cause))) ∙ sym (knew k h w s enters.fitting now).1 in
    let list : updates_over (making rules net u h k) listener.knows mark.nbr (prefixes_of turn.after.now) ≡ news rules net u h k w =
    ap (λ b. updates_over (making rules net u h k) b mark.nbr (prefixes_of turn.after.now)) knows
    ∙ (ap (λ n. updates_over (making rules net u h k) (is_some (ready (reads h) w)) n (prefixes_of turn.after.now)) says.nbr
    ∙ (enters.covers w s now
    ∙ (over_asked rules net u h k w s enters.fitting now enters.placed ∙ sym (news_at_once rules net u h k w free)))) in
    spoken_told rules net u h k w enters.fitting s c.in_ok-tell.field-0 listener (speech_of c.args.said.now) (speech_of c.tell.new.said)
    says.nbr says.session says.sent open_still now
    (subst (λ (l : List Update). TellsUpdates listener l (speech_of c.args.said.now) (speech_of c.tell.new.said) c.in_ok-tell.field-0) list told)
