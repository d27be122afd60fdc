use Rattle.std.proofs.Common.{◌≡◌, ◌∙◌, ◌∷◌, ◌++◌, [], Some, ap, subst, slice_get}
use Rattle.topology.proofs.Places.{has_placed}
use Rattle.topology.specs.Net.{neighbours}
use Rattle.trigger_log.specs.Making.{making}
use Rattle.trigger_log.specs.Telling.{speech_of}
use Rattle.trigger_log.specs.Marked.{AreMarked}
use Rattle.trigger_log.proofs.Rounds.{next_row, newest_says, told_more}
use Rattle.trigger_log.proofs.announcements.tell_at.Goals as goal

pub returns-clause-told : goal.returns-clause-told
returns-clause-told g c = λ policy net u h k w first enters holds at was.
    let rules = g.P.Policy.rules policy in
    let n = c.args.place in
    let rows = c.args.sessions.now.rows in
    let mark = c.newest.result.now in
    let found = next_row rules net u h k enters.fitting n w rows first (speech_of c.args.said.now) at was in
    let ends = c.newest.ensures found.0 found.1 in
    let here : slice_get rows n ≡ Some (ends.0 ++ mark ∷ []) = found.1 ∙ ap (λ r. Some r) ends.1 in
    let marked = subst (AreMarked (making rules net u h k) w) ends.1 found.2 in
    let spoken = c.in_ok-count.ensures policy net u h k w enters holds (has_placed (neighbours net u) n w at) (newest_says rules net u h k w enters.fitting ends.0 mark marked) in
    told_more rules net u h k enters.fitting n w c.in_ok-count.count rows c.count.new.self.rows ends.0 mark
    first (speech_of c.args.said.now) (speech_of c.speak.new.said)
    at was here marked (c.count.ensures.count ends.0 mark here) spoken
