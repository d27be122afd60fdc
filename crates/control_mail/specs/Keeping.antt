-- When inboxes show which nodes are crashed, and which numbers wait for each node.
use Rattle.std.specs.Prelude.{ℕ, ◌≡◌, ◌≢◌, ◌≤◌, ◌==◌, ◌&&◌, Bool, true, false, not, Option, None, Some, List, min, slice_get, if◌then◌else◌}
use Rattle.std.specs.List.{list_any}
use Rattle.std.specs.Ordering.{nat_cmp}
use Rattle.std.specs.BTreeSet.{contains}
use Rattle.control_mail.specs.declared.inbox.Inbox.{Inbox}

-- which nodes are crashed
abbrev pub Stopped : Type 0
Stopped = ℕ → Bool

-- which numbers wait for each node
abbrev pub Waiting : Type 0
Waiting = ℕ → ℕ → Bool

-- none of the inboxes is that of the node
abbrev pub IsAbsent : List Inbox → ℕ → Type 0
IsAbsent boxes u = (i : ℕ) (b : Inbox) → slice_get boxes i ≡ Some b → b.node ≢ u

-- the node has an inbox at this place
pub record IsAt (boxes : List Inbox) (u place : ℕ) : Type 0 where
  pub inbox : Inbox
  pub here : slice_get boxes place ≡ Some inbox
  pub is_of : inbox.node ≡ u

-- the node has an inbox
pub record HasInbox (boxes : List Inbox) (u : ℕ) : Type 0 where
  pub place : ℕ
  pub at : IsAt boxes u place

-- the inbox shows the state of its node
pub record IsInbox (stopped : Stopped) (waiting : Waiting) (b : Inbox) : Type 0 where
  pub crashed : b.crashed ≡ stopped b.node
  pub holds : (k : ℕ) → contains nat_cmp b.waiting k ≡ waiting b.node k

-- no node has two inboxes; a node without one is not crashed, and nothing waits for it
pub record Keeps (boxes : List Inbox) (stopped : Stopped) (waiting : Waiting) : Type 0 where
  pub apart : (i j : ℕ) (a b : Inbox) → slice_get boxes i ≡ Some a → slice_get boxes j ≡ Some b → a.node ≡ b.node → i ≡ j
  pub each : (i : ℕ) (b : Inbox) → slice_get boxes i ≡ Some b → IsInbox stopped waiting b
  pub runs : (u : ℕ) → IsAbsent boxes u → stopped u ≡ false
  pub idle : (u k : ℕ) → IsAbsent boxes u → waiting u k ≡ false

-- no node is crashed
abbrev pub none_stopped : Stopped
none_stopped u = false

-- nothing waits
abbrev pub none_waiting : Waiting
none_waiting u k = false

-- the node is crashed or not, as `new` says; the others are as before
abbrev pub with_stopped : ℕ → Bool → Stopped → Stopped
with_stopped node new stopped u = if node == u then new else stopped u

-- the number waits for the node or not, as `new` says; all else is as before
abbrev pub with_waiting : ℕ → ℕ → Bool → Waiting → Waiting
with_waiting node number new waiting u k = if node == u && number == k then new else waiting u k

-- the number waits for the inbox's node, which is running
abbrev pub is_ready : ℕ → Inbox → Bool
is_ready k b = not b.crashed && contains nat_cmp b.waiting k

-- the number waits in the inbox of a running node
abbrev pub offers : List Inbox → ℕ → Bool
offers boxes k = list_any (is_ready k) boxes

-- there is a number, and it is at most k
abbrev pub IsUpTo : Option ℕ → ℕ → Type 0
IsUpTo None k = ⊥
IsUpTo (Some lowest) k = lowest ≤ k

-- the lower of two numbers, if both are there
abbrev pub lower : Option ℕ → Option ℕ → Option ℕ
lower None b = b
lower (Some x) None = Some x
lower (Some x) (Some y) = Some (min x y)

-- `lowest` is the lowest number with the property; None if there is none
pub record IsLowest (has_it : ℕ → Bool) (lowest : Option ℕ) : Type 0 where
  pub some : (k : ℕ) → lowest ≡ Some k → has_it k ≡ true
  pub least : (k : ℕ) → has_it k ≡ true → IsUpTo lowest k
