use Rattle.std.proofs.Common.{◌≡◌, ◌≤◌, ◌<◌, ◌∷◌, arith, length}
use Rattle.std.proofs.lemmas.Slice.Zip.{AllZip-long}
use Rattle.topology.specs.Net.{neighbours}
use Rattle.trigger_log.specs.Sessions.{AreMarks}
use Rattle.trigger_log.proofs.Collected.{part_all}
use Rattle.trigger_log.proofs.held_changes.gather_all.Goals as goal

pub loop-place-preserved : goal.loop-place-preserved
loop-place-preserved g c = λ policy net u h k enters lists rows first.
    let wide : length c.args.sessions.now.rows ≡ length (neighbours net u) = AllZip-long (AreMarks (g.P.Policy.rules policy) net u (k ∷ h)) (neighbours net u) c.args.sessions.now.rows rows in
    let test : c.loop-place.place < length c.args.sessions.now.rows = omega (arith, c.loop-place-test.true, c.len-place-end.ensures) in
    c.in_ok-gather_at.ensures.part policy net u h k enters lists rows (omega arith) (c.loop-place.invariant policy net u h k enters lists rows first)

pub returns : goal.returns
returns g c = record {
  kept = λ policy net u h k enters lists rows first.
      let rules = g.P.Policy.rules policy in
      let wide : length c.args.sessions.now.rows ≡ length (neighbours net u) = AllZip-long (AreMarks rules net u (k ∷ h)) (neighbours net u) c.args.sessions.now.rows rows in
      let whole : length (neighbours net u) ≤ c.loop-place.place = omega (arith, c.len-place-end.ensures) in
      part_all rules net u k h enters.fitting c.loop-place.place c.loop-place.held whole (c.loop-place.invariant policy net u h k enters lists rows first);
}
