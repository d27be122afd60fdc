-- Two nodes whose link fails and is restored: the logs of both ends, and what each entry lists.
use Rattle.std.specs.Prelude.{ℕ, List, [], ◌∷◌, ◌++◌, Some, ◌≡◌, refl, reverse}
use Rattle.topology.specs.declared.items.Sent.{Sent}
use Rattle.topology.specs.declared.links.Relation.TheVariants.{Any}
use Rattle.topology.specs.declared.names.Scheme.TheVariants.{Deflect}
use Rattle.topology.specs.declared.names.Scope.TheVariants.{One, All}
use Rattle.topology.specs.declared.names.Trigger.{Trigger}
use Rattle.topology.specs.Lists.{ascending}
use Rattle.topology.specs.Triggers.{union}
use Rattle.topology.specs.Net.{Net, neighbours, relation, file_preference, places, holds_back}
use Rattle.path_vector.specs.declared.causes.Cause.TheVariants.{Originate, Recv, Down, Up, Ready}
use Rattle.path_vector.specs.GaoRexford.{gao_rexford}
use Rattle.path_vector.specs.Selection.{beyond, choices, best}
use Rattle.path_vector.specs.Offers.{offered_route, offered, changed}
use Rattle.trigger_log.specs.Entries.{Entry, entry}
use Rattle.trigger_log.specs.Pending.{gathered, all_pending}
use Rattle.trigger_log.specs.Sending.{news, outbox, sent_by}

-- opens all definitions
unfoldable all : ℕ
unfolding ascending neighbours relation file_preference places holds_back union beyond choices best offered_route offered changed gathered all_pending news outbox sent_by
all = 0

-- 1 - 2, with one prefix
abbrev pair : Net
pair = record {
  nodes = 1 ∷ 2 ∷ [];
  consolidators = [];
  links = record { a = 1; b = 2; relation = Any } ∷ [];
  preferences = [];
  prefixes = record { bits = 167772160; len = 8 } ∷ [];
  holds = [];
  hops = 128;
  scheme = Deflect;
}

abbrev of : ℕ → ℕ → List Trigger
of node count = record { node = node; count = count } ∷ []

-- node 1 originates, closes session 1, opens session 2, hears that node 2 has opened it too, and receives its update
abbrev first_end : List Entry
first_end = reverse (
    entry (of 1 1) (One 0) Originate
    ∷ entry (of 1 2) All (Down 2 1)
    ∷ entry (of 1 3) All (Up 2 2)
    ∷ entry (of 1 4) All (Ready 2 2)
    ∷ entry (of 1 4) (One 0) (Recv 2 2 1 (Some (2 ∷ 1 ∷ [])))
    ∷ [])

-- node 2 does the same, and first receives the path of node 1 in session 2
abbrev second_end : List Entry
second_end = reverse (
    entry (of 2 1) All (Down 1 1)
    ∷ entry (of 2 2) All (Up 1 2)
    ∷ entry (of 2 3) All (Ready 1 2)
    ∷ entry (of 1 4) (One 0) (Recv 1 2 1 (Some (1 ∷ [])))
    ∷ [])

-- what each entry lists, the oldest first
abbrev lists : ℕ → List Entry → List (List Sent)
lists u [] = []
lists u (k ∷ h) = lists u h ++ sent_by gao_rexford pair u h k ∷ []

abbrev to : ℕ → ℕ → ℕ → List Trigger → Sent
to w s n triggers = record { to = w; session = s; seq = n; triggers = triggers }

-- an update, then the close, nothing at the opening, and a new count in the new session
listed_first : lists 1 first_end ≡ (to 2 1 1 (of 1 1) ∷ []) ∷ (to 2 1 2 (of 1 2) ∷ []) ∷ [] ∷ (to 2 2 1 (of 1 4) ∷ []) ∷ [] ∷ []
unfolding all
listed_first = refl

-- a close where nothing was told before, and no offer when the session is ready
listed_second : lists 2 second_end ≡ (to 1 1 1 (of 2 1) ∷ []) ∷ [] ∷ [] ∷ (to 1 2 1 (of 1 4) ∷ []) ∷ []
unfolding all
listed_second = refl

-- a session that was not ready ends without a close
unready : lists 1 (entry (of 1 3) All (Down 2 2) ∷ entry (of 1 2) All (Up 2 2) ∷ entry (of 1 1) All (Down 2 1) ∷ []) ≡ (to 2 1 1 (of 1 1) ∷ []) ∷ [] ∷ [] ∷ []
unfolding all
unready = refl
