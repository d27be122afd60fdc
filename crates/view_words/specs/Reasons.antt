-- The words of reasons.
use Rattle.std.specs.Prelude.{ℕ, List, ◌++◌, codes}
use Rattle.std.specs.Fmt.{decimal}
use Rattle.topology.specs.declared.ballots.Ballot.{Ballot}
use Rattle.topology.specs.declared.status.Reason.{Reason}
use Rattle.topology.specs.declared.status.Reason.TheVariants.{Crashed, AlreadyOrigin, NotOrigin, LinkDown, EmptyChannel, WrongSession, AlreadyDown, AlreadyUp, NotOpen, StillUp, AlreadyOpen, WrongSeq, OldSession, NotConsolidator, Decided, NoReport, NoSuchMessage, Duplicate, Promised, StaleBallot, NoRound, NotCrashed, PacketKnown, NoSuchPacket, PacketEnded, NothingPending}

-- a ballot
abbrev pub ballot_text : Ballot → List ℕ
ballot_text ballot = decimal ballot.round ++ codes "/" ++ decimal ballot.node

-- the words of a reason
abbrev pub reason_words : Reason → List ℕ
reason_words Crashed = codes "crashed"
reason_words AlreadyOrigin = codes "already origin"
reason_words NotOrigin = codes "not origin"
reason_words LinkDown = codes "link down"
reason_words EmptyChannel = codes "empty channel"
reason_words WrongSession = codes "wrong session"
reason_words AlreadyDown = codes "already down"
reason_words AlreadyUp = codes "already up"
reason_words NotOpen = codes "not open"
reason_words StillUp = codes "still up"
reason_words AlreadyOpen = codes "already open"
reason_words (WrongSeq expected got) = codes "wrong sequence"
reason_words OldSession = codes "old session"
reason_words NotConsolidator = codes "not consolidator"
reason_words Decided = codes "decided"
reason_words NoReport = codes "no report"
reason_words NoSuchMessage = codes "no such message"
reason_words Duplicate = codes "duplicate"
reason_words (Promised ballot) = codes "promised " ++ ballot_text ballot
reason_words StaleBallot = codes "stale ballot"
reason_words (NoRound ballot) = codes "no round"
reason_words NotCrashed = codes "not crashed"
reason_words PacketKnown = codes "packet known"
reason_words NoSuchPacket = codes "no such packet"
reason_words PacketEnded = codes "packet ended"
reason_words NothingPending = codes "nothing pending"
