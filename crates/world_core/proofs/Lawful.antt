-- What the laws of runs give an event.
use Rattle.std.proofs.Common.{ℕ, suc, ◌<◌, ◌≤◌, ◌-◌, ◌^◌, ◌≡◌, ◌≢◌, ◌∙◌, List, ◌∷◌, ap, sym, arith}
use Rattle.topology.specs.declared.ballots.Ballot.{Ballot}
use Rattle.topology.specs.declared.links.LinkState.TheVariants.{Up}
use Rattle.consolidator.specs.Answers.{last_round}
use Rattle.topology.specs.declared.status.Reason.TheVariants.{WrongSeq, OldSession, NoRound}
use Rattle.topology.specs.LinkStates.{number_of}
use Rattle.topology.specs.Net.{Net}
use Rattle.chronicle.specs.Facts.{Chronicle}
use Rattle.trigger_log.specs.Going.{Item}
use Rattle.chronicle.specs.Channels.{channel}
use Rattle.chronicle.specs.Links.{link}
use Rattle.chronicle.specs.Steps.{Step, Idle, Goes}
use Rattle.cut_laws.specs.Own.{MayHear}
use Rattle.run_record.specs.declared.outcomes.Outcome.{Outcome}
use Rattle.run_record.specs.declared.outcomes.Outcome.TheVariants as outcome
use Rattle.run_record.specs.Effects.{Tells}
use Rattle.world_core.specs.Sound.{IsNoStray}
use Rattle.cut_laws.specs.Joined.{Joined, FrontFits}
use Rattle.world_core.specs.Happening.{IsRegular}
use Rattle.topology.specs.declared.limits.TheConstants.{MOST_EVENTS}

few_sessions : (sessions n : ℕ) → sessions ≤ suc n → n < MOST_EVENTS → sessions < 2 ^ 32 - 1
few_sessions sessions n most short = omega (arith, most, short)

pub regular_of : (net : Net) (past : Chronicle) (n : ℕ) → n < MOST_EVENTS → ((v u : ℕ) → FrontFits net past v u)
    → ((v u s : ℕ) (x : Item) (rest : List Item) → link v u past ≡ Up s → channel v u past ≡ x ∷ rest → MayHear net v x) → ((v u : ℕ) → Joined past v u)
    → ((a b : ℕ) → number_of (link a b past) ≤ suc n) → IsRegular net past
regular_of net past n short fronts heard joined most = record {
  fronts = fronts;
  heard = heard;
  joined = joined;
  few = λ a b. few_sessions (number_of (link a b past)) n (most a b) short;
}

-- there are more rounds than events
pub rounds_left : (n : ℕ) → n < MOST_EVENTS → n < last_round
rounds_left n short = omega (arith, short)

-- a step that is not idle for one of three reasons answers none of them
pub no_stray : (past : Chronicle) (s : Step) (what : Outcome) → Tells past s what → (s ≢ Idle OldSession) → ((expected got : ℕ) → s ≢ Idle (WrongSeq expected got)) → ((b : Ballot) → s ≢ Idle (NoRound b)) → IsNoStray what
no_stray past (Idle why) (outcome.Idle told) tells not_old not_wrong not_last =
    (λ same. not_old (ap Idle (sym tells ∙ same)), λ expected got same. not_wrong expected got (ap Idle (sym tells ∙ same)), λ b same. not_last b (ap Idle (sym tells ∙ same)))
no_stray past (Idle why) (outcome.Did list) tells not_old not_wrong not_last = tt
no_stray past (Goes now) (outcome.Idle told) tells not_old not_wrong not_last = absurd tells
no_stray past (Goes now) (outcome.Did list) tells not_old not_wrong not_last = tt
