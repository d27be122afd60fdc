use Rattle.std.proofs.Common.{rules, ℕ, List, [], ◌∷◌, None, inl, inr, arith}
use Rattle.topology.specs.Lists.{Among}
use Rattle.topology.specs.declared.ballots.Ballot.{Ballot}
use Rattle.paxos_core.specs.Facts.{Chronicle, Prepare, Promise, Accept, Heard, Message}
use Rattle.paxos_core.specs.Readings.{Has}
use Rattle.paxos_core.specs.Rules.{Obeys}
use Rattle.paxos_core.specs.Chosen.{Differ}
use Rattle.paxos_core.specs.Answers.{opened, ballot_setup, received, refusal, answers}
use Rattle.paxos_core.proofs.Following.{opened_obeys, received_obeys}
use Rattle.paxos_core.proofs.laws.some_choice.Goals as goal

abbrev first : Ballot
first = record { round = 1; node = 1 }

abbrev members : List ℕ
members = 1 ∷ 2 ∷ 3 ∷ []

-- the chronicle after this message was received, with v as the fresh value
abbrev after : ℕ → Chronicle ℕ → ℕ → ℕ → Message ℕ → Chronicle ℕ
after v past u from m = received (ballot_setup members members v) past u from m

-- node 1 prepares its ballot; nodes 1 and 3 promise it; node 1 proposes, and nodes 1 and 3 accept
abbrev asked : Chronicle ℕ
asked = opened members [] 1

abbrev one : ℕ → Chronicle ℕ
one v = after v asked 1 1 (Prepare first)

abbrev two : ℕ → Chronicle ℕ
two v = after v (one v) 3 1 (Prepare first)

abbrev three : ℕ → Chronicle ℕ
three v = after v (two v) 1 1 (Promise first None)

abbrev four : ℕ → Chronicle ℕ
four v = after v (three v) 1 3 (Promise first None)

abbrev five : ℕ → Chronicle ℕ
five v = after v (four v) 1 1 (Accept first v)

abbrev six : ℕ → Chronicle ℕ
six v = after v (five v) 3 1 (Accept first v)

obeys : (v : ℕ) → Obeys members (six v)
unfolding opened received refusal answers
obeys v =
    let a : Obeys members asked = opened_obeys members [] 1 tt in
    let b : Obeys members (one v) = received_obeys members members v asked 1 1 (Prepare first) a (search rules) in
    let c : Obeys members (two v) = received_obeys members members v (one v) 3 1 (Prepare first) b (search rules) in
    let d : Obeys members (three v) = received_obeys members members v (two v) 1 1 (Promise first None) c (search rules) in
    let e : Obeys members (four v) = received_obeys members members v (three v) 1 3 (Promise first None) d (search rules) in
    let f : Obeys members (five v) = received_obeys members members v (four v) 1 1 (Accept first v) e (search rules) in
    received_obeys members members v (five v) 3 1 (Accept first v) f (search rules)

took : (v a : ℕ) → Among a (1 ∷ 3 ∷ []) → (from : ℕ) × Has (six v) (Heard a from (Accept first v))
unfolding opened received refusal answers
took v a (inl e) = rw (← e) (1, search rules)
took v a (inr (inl e)) = rw (← e) (1, search rules)
took v a (inr (inr h)) = absurd h

within : (x : ℕ) → Among x (1 ∷ 3 ∷ []) → Among x members
within x (inl e) = inl e
within x (inr (inl e)) = inr (inr (inl e))
within x (inr (inr h)) = absurd h

apart : Differ (1 ∷ 3 ∷ [])
apart = (λ h. grind arith, (λ h. h, tt))

pub returns : goal.returns
returns c = λ v. (six v, obeys v, record { ballot = first; who = 1 ∷ 3 ∷ []; majority = record { differ = apart; within = within; most = omega arith }; accepted = took v })
