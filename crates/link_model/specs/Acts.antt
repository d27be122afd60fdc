-- What was done to the links. The newest act is the head of the list.
use Rattle.std.specs.Prelude.{ℕ, List}
use Rattle.topology.specs.declared.items.Item.{Item}

-- an item was pushed on the way from one node to another, in a session; the front item of a way was taken; a link
-- failed, or was restored
pub data LinkAct : Type 0 where
  Push : (from to session : ℕ) → (item : Item) → LinkAct
  Take : (from to : ℕ) → LinkAct
  Fail : (a b : ℕ) → LinkAct
  Restore : (a b : ℕ) → LinkAct

abbrev pub LinkActs : Type 0
LinkActs = List LinkAct
