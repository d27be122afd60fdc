use Rattle.std.proofs.Common.{◌≡◌, ◌∙◌, ◌+◌, ◌∷◌, suc, arith, Some, None, true, false, not, sym, ap, subst}
use Rattle.std.specs.Prelude.{if◌then◌else◌, is_some}
use Rattle.topology.specs.Lists.{has}
use Rattle.topology.specs.Triggers.{Ascend}
use Rattle.topology.specs.Net.{holds_back, neighbours}
use Rattle.topology.proofs.Neighbours.{rises-neighbours}
use Rattle.topology.proofs.Places.{has_placed}
use Rattle.path_vector.specs.History.{last, ready}
use Rattle.trigger_log.specs.Entries.{reads}
use Rattle.trigger_log.specs.Making.{making}
use Rattle.trigger_log.specs.Sending.{sent_count}
use Rattle.trigger_log.specs.Offered.{prefixes_of, updates_over}
use Rattle.trigger_log.specs.Marked.{readies}
use Rattle.trigger_log.specs.HoldingBack.{HoldsPart}
use Rattle.trigger_log.specs.Putting.{put_all}
use Rattle.trigger_log.proofs.Collected.{holds_in, step_free, step_ready, step_unready}
use Rattle.trigger_log.proofs.Reading.{newest_mark}
use Rattle.trigger_log.proofs.Rounds.{some_at}
use Rattle.trigger_log.proofs.Speaking.{knew, moved_to, over_asked, ready_mark}
use Rattle.trigger_log.proofs.held_changes.gather_at.Goals as goal

pub returns-then-not-holds : goal.returns-then-not-holds
returns-then-not-holds g c = record {
  part = λ policy net u h k enters lists rows inside part.
      let rules = g.P.Policy.rules policy in
      let m = making rules net u h k in
      let n = c.args.place in
      let mark = c.newest-mark.result.now in
      let at = some_at (neighbours net u) n inside in
      let w = at.0 in
      let says = newest_mark rules net u (k ∷ h) c.args.sessions.now.rows enters.fitting rows w n mark at.1 c.newest-mark.ensures in
      let free : holds_back net u w ≡ false = holds_in m n w c.args.held.now part (has_placed (neighbours net u) n w at.1) c.holds.result (c.holds.ensures ∙ ap (has c.args.held.now.from.items) says.nbr) ∙ c.if-not-holds.true in
      let next : suc n ≡ n + 1 = omega arith in
      subst (λ i. HoldsPart m i c.args.held.now) next (step_free rules net u k h enters.fitting n w c.args.held.now at.1 free part);
}

pub returns-then-not-is_ready : goal.returns-then-not-is_ready
returns-then-not-is_ready g c = record {
  part = λ policy net u h k enters lists rows inside part.
      let rules = g.P.Policy.rules policy in
      let m = making rules net u h k in
      let n = c.args.place in
      let mark = c.newest-mark.result.now in
      let at = some_at (neighbours net u) n inside in
      let w = at.0 in
      let s = last (reads (k ∷ h)) w in
      let says = newest_mark rules net u (k ∷ h) c.args.sessions.now.rows enters.fitting rows w n mark at.1 c.newest-mark.ensures in
      let none : ready (k.read ∷ reads h) w ≡ None =
      ready_mark (k ∷ h) w (sent_count rules net u (k ∷ h) w s) mark enters.fitting says ∙ ap (λ b. if b then Some s else None) (sym c.is_ready.ensures ∙ c.if-not-is_ready.true) in
      let next : suc n ≡ n + 1 = omega arith in
      subst (λ i. HoldsPart m i c.args.held.now) next (step_unready rules net u k h enters.fitting n w c.args.held.now at.1 none part);
}

pub returns : goal.returns
returns g c = record {
  part = λ policy net u h k enters lists rows inside part.
      let rules = g.P.Policy.rules policy in
      let m = making rules net u h k in
      let n = c.args.place in
      let turn = c.args.turn.now in
      let mark = c.newest-mark.result.now in
      let back = c.args.held.now in
      let at = some_at (neighbours net u) n inside in
      let w = at.0 in
      let s = last (reads (k ∷ h)) w in
      let near = has_placed (neighbours net u) n w at.1 in
      let says = newest_mark rules net u (k ∷ h) c.args.sessions.now.rows enters.fitting rows w n mark at.1 c.newest-mark.ensures in
      let holds : holds_back net u w ≡ true = holds_in m n w back part near c.holds.result (c.holds.ensures ∙ ap (has back.from.items) says.nbr) ∙ c.if-not-holds.false in
      let now : ready (k.read ∷ reads h) w ≡ Some s =
      ready_mark (k ∷ h) w (sent_count rules net u (k ∷ h) w s) mark enters.fitting says ∙ ap (λ b. if b then Some s else None) (sym c.is_ready.ensures ∙ c.if-not-is_ready.false) in
      let knows : not c.readies.result ≡ is_some (ready (reads h) w) =
      ap not (c.readies.ensures ∙ (ap (readies turn.cause.now) says.nbr ∙ ap (λ x. readies x w) (sym enters.cause))) ∙ sym (knew k h w s enters.fitting now).1 in
      let list : updates_over m (not c.readies.result) mark.nbr (prefixes_of turn.after.now) ≡ moved_to m w =
      ap (λ b. updates_over m b mark.nbr (prefixes_of turn.after.now)) knows
      ∙ (ap (λ v. updates_over m (is_some (ready (reads h) w)) v (prefixes_of turn.after.now)) says.nbr
      ∙ (enters.covers w s now ∙ over_asked rules net u h k w s enters.fitting now enters.placed)) in
      let gathered = c.in_ok-gather.ensures.rows policy net u h k enters.stands enters.lists enters.before enters.after (subst (λ v. has (neighbours net u) v ≡ true) (sym says.nbr) near) in
      let new = c.gather.new.held in
      let is : new.rows ≡ put_all w s (moved_to m w) back.rows =
      gathered
      ∙ (ap (λ xs. put_all mark.nbr mark.session xs back.rows) list
      ∙ (ap (λ v. put_all v mark.session (moved_to m w) back.rows) says.nbr ∙ ap (λ t. put_all w t (moved_to m w) back.rows) says.session)) in
      let next : suc n ≡ n + 1 = omega arith in
      subst (λ i. HoldsPart m i new) next
      (step_ready rules net u k h enters.fitting n w s back new (rises-neighbours net u enters.stands.valid) at.1 holds now lists (subst Ascend (sym enters.lists) c.as_slice-rising.ensures.ascend)
      (ap (λ v. v.items) c.gather.ensures.from) is part);
}
