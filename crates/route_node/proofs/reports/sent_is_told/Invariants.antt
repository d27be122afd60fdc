use Rattle.std.proofs.Common.{◌≡◌, map, drop}
use Rattle.route_node.specs.Frames.{item_told}
use Rattle.route_node.proofs.reports.sent_is_told.Given as goal

-- all are told as they are, if those that are left are
abbrev pub invariant-loop-place : goal.invariant-loop-place
invariant-loop-place l = map item_told (drop l.place l.sent) ≡ drop l.place l.sent → map item_told l.sent ≡ l.sent
