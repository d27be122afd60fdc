-- What the calls of an acceptor return.
use Rattle.std.specs.Prelude.{ℕ, Option, Some, None, ◌∷◌, ◌≡◌}
use Rattle.topology.specs.declared.ballots.Ballot.{Ballot}
use Rattle.paxos_core.specs.declared.acceptor.Prepared.{Prepared}
use Rattle.paxos_core.specs.declared.acceptor.Prepared.TheVariants.{Promise, Refused}
use Rattle.paxos_core.specs.declared.acceptor.Took.{Took}
use Rattle.paxos_core.specs.declared.acceptor.Took.TheVariants as took
use Rattle.paxos_core.specs.Facts.{Heard, Fact, Message, Delivery, Chronicle}
use Rattle.paxos_core.specs.Answers.{Refusal, Promised, Duplicate, refusal}
use Rattle.paxos_core.specs.Accepting.{Accepting, StandsFor}

-- the answer to a Prepare says whether it is refused, and why
abbrev pub SaysPrepared : Prepared → Option Refusal → Type 0
SaysPrepared Promise why = why ≡ None
SaysPrepared (Refused c) why = why ≡ Some (Promised c)

-- the answer to an Accept says whether it is refused, and why
abbrev pub SaysTook : Took → Option Refusal → Type 0
SaysTook took.Accepted why = why ≡ None
SaysTook (took.Refused c) why = why ≡ Some (Promised c)
SaysTook took.Again why = why ≡ Some Duplicate

-- after an accepted message the acceptor stands for one more fact; after a refused message it is as before
abbrev pub AcceptorAfter : {V : Type 0} → Option Refusal → (old new : Accepting V) → Chronicle V → ℕ →
    Fact V → Type 0
AcceptorAfter None old new past u f = StandsFor new (f ∷ past) u
AcceptorAfter (Some why) old new past u f = new ≡ old

-- a Prepare that was delivered to a node is answered by the rules, and the acceptor goes on as they say
pub record AnswersPrepare {V : Type 0} (said : Prepared) (old new : Accepting V)
    (past : Chronicle V) (d : Delivery (Message V)) : Type 0 where
  pub answer : SaysPrepared said (refusal past d.node d.from d.message)
  pub state : AcceptorAfter (refusal past d.node d.from d.message) old new past d.node
      (Heard d.node d.from d.message)

-- an Accept that was delivered to a node is answered by the rules, and the acceptor goes on as they say
pub record AnswersAccept {V : Type 0} (said : Took) (old new : Accepting V)
    (past : Chronicle V) (d : Delivery (Message V)) : Type 0 where
  pub answer : SaysTook said (refusal past d.node d.from d.message)
  pub state : AcceptorAfter (refusal past d.node d.from d.message) old new past d.node
      (Heard d.node d.from d.message)

-- the old state if the message is refused, else the new one
abbrev pub unless_refused : {V : Type 0} → Option Refusal → (old new : Accepting V) → Accepting V
unless_refused None old new = new
unless_refused (Some why) old new = old

-- the state after an Accept that is not refused
abbrev pub accepting : {V : Type 0} → Ballot → V → Accepting V
accepting b v = record { promised = Some b; accepted = Some (b, v) }
