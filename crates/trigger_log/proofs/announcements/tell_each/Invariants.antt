use Rattle.std.proofs.Common.{ℕ, ◌≡◌, List, length}
use Rattle.topology.specs.Net.{Net}
use Rattle.trigger_log.specs.Entries.{Entry}
use Rattle.trigger_log.specs.Making.{making}
use Rattle.trigger_log.specs.HoldingBack.{HoldsBack}
use Rattle.trigger_log.specs.Telling.{Speech, speech_of}
use Rattle.trigger_log.specs.Marked.{Enters, ToldTo}
use Rattle.trigger_log.proofs.announcements.tell_each.Given as goal

abbrev pub invariant-loop-place : goal.invariant-loop-place
invariant-loop-place g l = record {
  width : length l.sessions.rows ≡ length l.initial.sessions.rows;
  near : l.sessions.near ≡ l.initial.sessions.near;
  told : (policy : _) (net : Net) (u : ℕ) (h : List Entry) (k : Entry) (first : Speech) → Enters policy (making (g.P.Policy.rules policy) net u h k) l.routes l.turn → HoldsBack (g.P.Policy.rules policy) net u h l.held
      → ToldTo (making (g.P.Policy.rules policy) net u h k) 0 l.initial.sessions.rows first (speech_of l.initial.said)
      → ToldTo (making (g.P.Policy.rules policy) net u h k) l.place l.sessions.rows first (speech_of l.said);
}
