-- What a node remembers of its neighbours, and how an entry changes it.
use Rattle.std.specs.Prelude.{IfSome, ℕ, suc, ◌≢◌, Bool, true, false, ◌==◌, max, length, slice_set, ◌≡◌, ◌<◌, Option, Some, None, List, [], ◌∷◌, map, fold, slice_get, option_map, option_and_then, if◌then◌else◌}
use Rattle.std.specs.List.{AllByRecursion}
use Rattle.topology.specs.Lists.{has, Among}
use Rattle.topology.specs.Net.{Net, IsValid, neighbours}
use Rattle.path_vector.specs.declared.causes.Cause.{Cause}
use Rattle.path_vector.specs.declared.causes.Cause.TheVariants.{Originate, Withdraw, Recv, Down, Up, Ready, Prefer, Flush}
use Rattle.path_vector.specs.declared.neighbours.Neighbour.{Neighbour}
use Rattle.path_vector.specs.declared.neighbours.Found.{Found}
use Rattle.path_vector.specs.declared.neighbours.Rival.{Rival}
use Rattle.path_vector.specs.declared.policy.Ranked.{Ranked}
use Rattle.path_vector.specs.History.{History, held_by, highest_by, preference_by}
use Rattle.path_vector.specs.Selection.{Choice, ranked, consider}
use Rattle.path_vector.specs.Standing.{Remembers}

-- the neighbour that an entry names
abbrev pub names : Cause → Option ℕ
names Originate = None
names Withdraw = None
names (Recv from session seq path) = Some from
names (Down v s) = Some v
names (Up v s) = Some v
names (Ready v s) = Some v
names (Prefer v x) = Some v
names (Flush v) = Some v

-- the neighbour that an entry names, if any, is a neighbour of u
abbrev pub IsOfNeighbour : Net → ℕ → Cause → Type 0
IsOfNeighbour net u cause = IfSome (names cause) (λ v. has (neighbours net u) v ≡ true)

-- u in front of the path of an update; none for a withdrawal, and where u is on the path
abbrev pub led_by : ℕ → Cause → Option (List ℕ)
led_by u Originate = None
led_by u Withdraw = None
led_by u (Recv from session seq path) =
    option_and_then (λ nodes. if has nodes u then None else Some (u ∷ nodes)) path
led_by u (Down v s) = None
led_by u (Up v s) = None
led_by u (Ready v s) = None
led_by u (Prefer v x) = None
led_by u (Flush v) = None

-- both remember the same of the same neighbour
pub record IsCopy (old new : Neighbour) : Type 0 where
  pub id : new.id ≡ old.id
  pub relation : new.relation ≡ old.relation
  pub held : new.held ≡ old.held
  pub highest : new.highest ≡ old.highest
  pub preference : new.preference ≡ old.preference
  pub told : new.told.items ≡ old.told.items

-- the session is the held one
abbrev pub is_held : Option ℕ → ℕ → Bool
is_held None s = false
is_held (Some t) s = t == s

-- after an update of p in session s: the path counts if the session is held
pub record Hears (p s : ℕ) (led : Option (List ℕ)) (old new : Neighbour) : Type 0 where
  pub id : new.id ≡ old.id
  pub relation : new.relation ≡ old.relation
  pub held : new.held ≡ old.held
  pub highest : new.highest ≡ max old.highest s
  pub preference : new.preference ≡ old.preference
  pub told :
      new.told.items ≡ (if is_held old.held s then slice_set old.told.items p led else old.told.items)

-- the cause begins or ends a session
abbrev pub ends : Cause → Bool
ends Originate = false
ends Withdraw = false
ends (Recv from session seq path) = false
ends (Down v s) = true
ends (Up v s) = true
ends (Ready v s) = false
ends (Prefer v x) = false
ends (Flush v) = false

-- after an entry that concerns all prefixes: the row is empty where a session begins or ends
pub record Turns (cause : Cause) (old new : Neighbour) : Type 0 where
  pub id : new.id ≡ old.id
  pub relation : new.relation ≡ old.relation
  pub held : new.held ≡ held_by cause old.id old.held
  pub highest : new.highest ≡ highest_by cause old.id old.highest
  pub preference : new.preference ≡ preference_by cause old.id old.preference
  pub places : length new.told.items ≡ length old.told.items
  pub told : (p : ℕ) → p < length old.told.items →
      slice_get new.told.items p ≡ (if ends cause then Some None else slice_get old.told.items p)

-- the numbers of the neighbours
abbrev pub ids : List Neighbour → List ℕ
ids ns = map (λ (n : Neighbour). n.id) ns

-- each number is below all that follow it
abbrev pub Rises : List ℕ → Type 0
Rises [] = Unit {0}
Rises (x ∷ xs) = AllByRecursion (λ y. x < y) xs × Rises xs

-- these are the neighbours of u, and each is remembered as the list says
pub record Keeps (net : Net) (u : ℕ) (h : History) (ns : List Neighbour) : Type 0 where
  pub valid : IsValid net
  pub same : ids ns ≡ neighbours net u
  pub each : AllByRecursion (Remembers net u h) ns

-- the stored candidate of a neighbour for p
abbrev pub kept_path : ℕ → Neighbour → Option (List ℕ)
kept_path p n = option_and_then (λ path. path) (slice_get n.told.items p)

-- the stored candidate with its preference
abbrev pub kept_choice : ℕ → Neighbour → Option Choice
kept_choice p n =
    option_map (λ path. record { nbr = n.id; preference = n.preference; path = path }) (kept_path p n)

-- the stored candidate that ranks first
abbrev pub first_kept : (Ranked → Ranked → Bool) → ℕ → List Neighbour → Option Choice
first_kept before p ns = fold (λ found n. consider before found (kept_choice p n)) None ns

-- the rank of the candidate that v has by telling this path
abbrev pub told_rank : ℕ → ℕ → List ℕ → Ranked
told_rank v preference path = record { nbr = v; preference = preference; length = suc (length path) }

-- the rank is before the other, or there is no other
abbrev pub IsAhead : (Ranked → Ranked → Bool) → Ranked → Option Ranked → Type 0
IsAhead before rank other = IfSome other (λ r. before rank r ≡ true)

-- the neighbour is not the rival, and its candidate for p is before both of the rival's
pub record Outranks (before : Ranked → Ranked → Bool) (p : ℕ) (rival : Rival) (n : Neighbour) : Type 0 where
  pub apart : n.id ≢ rival.nbr
  pub choice : Choice
  pub is_one : kept_choice p n ≡ Some choice
  pub old : IsAhead before (ranked choice) rival.old
  pub new : IsAhead before (ranked choice) rival.new

-- another neighbour has a candidate for p before that of v, and before the one that v would have by this path
pub record IsOutranked (before : Ranked → Ranked → Bool) (p v : ℕ) (path : Option (List ℕ)) (ns : List Neighbour) : Type 0 where
  pub teller : Neighbour
  pub is_one : Among teller ns
  pub is_sender : teller.id ≡ v
  pub rival : Rival
  pub nbr : rival.nbr ≡ v
  pub old : rival.old ≡ option_map ranked (kept_choice p teller)
  pub new : rival.new ≡ option_map (told_rank v teller.preference) path
  pub other : Neighbour
  pub is_other : Among other ns
  pub outranks : Outranks before p rival other

-- the update is a withdrawal, and its neighbour v has no candidate for p
pub record WithdrawsNothing (p v : ℕ) (path : Option (List ℕ)) (ns : List Neighbour) : Type 0 where
  pub withdrawal : path ≡ None
  pub teller : Neighbour
  pub is_one : Among teller ns
  pub is_sender : teller.id ≡ v
  pub without : kept_path p teller ≡ None

-- nothing was found so far, or this rank is before what was found
abbrev pub is_sooner : (Ranked → Ranked → Bool) → Option Found → Ranked → Bool
is_sooner before None rank = true
is_sooner before (Some found) rank = before rank found.rank

-- the place and the rank are those of this choice
abbrev pub IsFound : List Neighbour → ℕ → Option Found → Option Choice → Type 0
IsFound ns p None None = Unit {0}
IsFound ns p None (Some c) = ⊥
IsFound ns p (Some found) None = ⊥
IsFound ns p (Some found) (Some c) =
    (option_and_then (kept_choice p) (slice_get ns found.place) ≡ Some c) × (found.rank ≡ ranked c)
