use Rattle.std.proofs.Common.{◌≡◌, ◌∙◌, subst, arith, length}
use Rattle.topology.specs.Net.{neighbours}
use Rattle.trigger_log.specs.Making.{making}
use Rattle.trigger_log.specs.Telling.{speech_of}
use Rattle.trigger_log.specs.Marked.{ToldTo}
use Rattle.trigger_log.proofs.Rounds.{some_at}
use Rattle.trigger_log.proofs.announcements.tell_each.Goals as goal

pub loop-place-preserved : goal.loop-place-preserved
loop-place-preserved g c = record {
  width = c.tell_at.ensures.width ∙ c.loop-place.invariant.width;
  near = c.tell_at.ensures.near ∙ c.loop-place.invariant.near;
  told = λ policy net u h k first enters holds was.
      let so_far = c.loop-place.invariant.told policy net u h k first enters holds was in
      let long : length c.loop-place.sessions.rows ≡ length (neighbours net u) = so_far.width in
      let wide : length c.loop-place.sessions.rows ≡ length c.args.sessions.now.rows = c.loop-place.invariant.width in
      let next = some_at (neighbours net u) c.loop-place.place (omega arith) in
      c.in_ok-tell_at.ensures.told policy net u h k next.0 first enters holds next.1 so_far;
}

pub returns-clause-told : goal.returns-clause-told
returns-clause-told g c = λ policy net u h k first enters holds was.
    let whole : c.loop-place.place ≡ length c.args.sessions.now.rows = omega arith in
    subst (λ n. ToldTo (making (g.P.Policy.rules policy) net u h k) n c.loop-place.sessions.rows first (speech_of c.loop-place.said)) whole
    (c.loop-place.invariant.told policy net u h k first enters holds was)
