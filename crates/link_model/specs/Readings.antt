-- The state of a link, and what is on its way over it, after a list of acts.
use Rattle.std.specs.Prelude.{ℕ, ◌==◌, ◌&&◌, List, [], ◌∷◌, ◌++◌, if◌then◌else◌}
use Rattle.topology.specs.declared.items.Item.{Item}
use Rattle.topology.specs.declared.links.LinkState.{LinkState}
use Rattle.topology.specs.declared.links.LinkState.TheVariants.{Up}
use Rattle.topology.specs.LinkStates.{are_ends, failed, restored, carries}
use Rattle.link_model.specs.Acts.{LinkAct, LinkActs, Push, Take, Fail, Restore}

-- a failure takes the link down, and a restore brings it up in the next session
abbrev pub state_by : ℕ → ℕ → LinkAct → LinkState → LinkState
state_by a b (Push from to session item) before = before
state_by a b (Take from to) before = before
state_by a b (Fail c d) before = if are_ends a b c d then failed before else before
state_by a b (Restore c d) before = if are_ends a b c d then restored before else before

-- the state of the link of a and b; at the start it is up in session 1
abbrev pub state : ℕ → ℕ → LinkActs → LinkState
state a b [] = Up 1
state a b (act ∷ acts) = state_by a b act (state a b acts)

-- the list without its first item
abbrev pub behind_front : List Item → List Item
behind_front [] = []
behind_front (x ∷ xs) = xs

-- one step of `channel_after`: an item pushed in the session that the link carries goes to the end, a take removes the
-- front item, and a failure empties both directions
abbrev pub channel_after_by : ℕ → ℕ → LinkState → LinkAct → List Item → List Item
channel_after_by a b link (Push from to session item) before =
    if (from == a && to == b) && carries link session then before ++ item ∷ [] else before
channel_after_by a b link (Take from to) before = if from == a && to == b then behind_front before else before
channel_after_by a b link (Fail c d) before = if are_ends a b c d then [] else before
channel_after_by a b link (Restore c d) before = before

-- the items on their way from a to b, the oldest first: those that were pushed in the session that the link carries,
-- and not taken
abbrev pub channel_after : ℕ → ℕ → LinkActs → List Item
channel_after a b [] = []
channel_after a b (act ∷ acts) = channel_after_by a b (state a b acts) act (channel_after a b acts)
