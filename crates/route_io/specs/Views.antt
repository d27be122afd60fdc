-- A source, a sink and a link, as contracts see them. A part that is None is not told.
use Rattle.std.specs.Prelude.{ℕ, Bool, Option, List}

-- a source: the bytes still to come, and how many of its calls have failed
pub record SourceView : Type 0 where
  pub left : Option (List ℕ)
  pub faults : ℕ

-- a read of a link, with what it brought, or a write of a link or a sink, with its piece and how many bytes of it were
-- taken; None where the call failed
pub data StreamAct : Type 0 where
  Read : (brought : Option (List ℕ)) → StreamAct
  Write : (piece : List ℕ) → (took : Option ℕ) → StreamAct

-- a sink: the bytes that it took, how many it can hold in all, the writes that were made, the newest first, and how
-- many of its calls have failed
pub record SinkView : Type 0 where
  pub held : Option (List ℕ)
  pub room : Option ℕ
  pub writes : Option (List StreamAct)
  pub faults : ℕ

-- a link to a peer: the bytes still to come from it, the bytes taken for it, how many can be taken in all, the reads
-- and writes that were made and the addresses that were dialled, both newest first; whether it is sure, so that a call
-- fails only if there is no room; and how many of its calls have failed
pub record LinkView : Type 0 where
  pub incoming : Option (List ℕ)
  pub outgoing : Option (List ℕ)
  pub room : Option ℕ
  pub acts : Option (List StreamAct)
  pub dialled : Option (List (List ℕ))
  pub sure : Bool
  pub faults : ℕ
