use Rattle.std.proofs.Common.{◌≡◌, map, take}
use Rattle.trigger_log.specs.Rows.{joined, last_places}
use Rattle.trigger_log.proofs.Rows.{first}
use Rattle.trigger_log.proofs.sessions.Sessions.new.Given as goal

-- a row for each neighbour so far
abbrev pub invariant-loop-nbr : goal.invariant-loop-nbr
invariant-loop-nbr l = record {
  marks : l.marks.items ≡ joined (map first (take l.nbr-index l.near));
  newest : l.newest.items ≡ last_places 0 (map first (take l.nbr-index l.near));
}
