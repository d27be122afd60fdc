use Rattle.std.proofs.Common.{◌∷◌, refl, length}
use Rattle.node_core.proofs.Listed.{has_newest, shows_newest}
use Rattle.node_core.proofs.steps.count_newest.Goals as goal

pub returns-in-None : goal.returns-in-None
returns-in-None g c policy net u k h stands few was =
    absurd (has_newest c.len.result (length h) _ (c.len.ensures policy net u (k ∷ h) stands) few ((c.in-None.ensures.none policy net u (k ∷ h) stands).0 refl))

pub returns-in_ok-add-in-Some : goal.returns-in_ok-add-in-Some
returns-in_ok-add-in-Some g c policy net u k h stands few was =
    let rules = g.P.Policy.rules policy in
    let found = c.in-Some.ensures.some policy net u (k ∷ h) stands in
    c.in_ok-add-in-Some.ensures rules net u k h was
    (shows_newest rules net u k h c.len.result found.0 c.in-Some.entry.now (c.len.ensures policy net u (k ∷ h) stands) found.1 found.2)
