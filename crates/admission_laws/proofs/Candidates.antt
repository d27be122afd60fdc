-- The candidates of a log that fits, and the backups among them.
use Rattle.std.proofs.Common.{ℕ, Bool, true, false, cond, not, ◌&&◌, ◌==◌, Option, Some, None, List, [], ◌∷◌, ◌≡◌, ⊎_elim, refl, ◌∙◌, ap, subst, arith, length, map, filter, filter_map, IfSome, option_map, option_and_then}
use Rattle.std.specs.Prelude.{nat_le, if◌then◌else◌}
use Rattle.std.specs.List.{cons_option, list_all}
use Rattle.topology.specs.Lists.{has, Among}
use Rattle.topology.specs.Paths.{differ}
use Rattle.topology.specs.Net.{Net, IsValid, neighbours}
use Rattle.topology.specs.declared.names.Trigger.{Trigger}
use Rattle.topology.specs.Triggers.{lists}
use Rattle.topology.proofs.Few.{no_more}
use Rattle.topology.proofs.Tests.{and_left, and_right, and_both, or_cases, not_false, same_is}
use Rattle.path_vector.specs.declared.causes.Cause.{Cause}
use Rattle.path_vector.specs.declared.causes.Cause.TheVariants.{Originate, Withdraw, Recv, Down, Up, Ready, Prefer, Flush}
use Rattle.path_vector.specs.Rules.{Rules}
use Rattle.path_vector.specs.History.{concerns, held, heard, heard_by}
use Rattle.path_vector.specs.Selection.{Choice, usable, learnt, beyond, candidate, choice, choices}
use Rattle.path_vector.specs.Ranking.{by_rank}
use Rattle.path_vector.proofs.Ranking.{by_rank_is}
use Rattle.trigger_log.specs.Dropping.{Trimmed, may_go}
use Rattle.trigger_log.specs.Entries.{Entry, reads}
use Rattle.incomplete_closure.specs.declared.values.Value.{Value}
use Rattle.stable_table.specs.Tables.{all_responded}
use Rattle.stable_table.specs.Trimming.{complete_after, trimmed_complete, trimmed_backups}
use Rattle.node_core.specs.Fits.{begins_with, path_fits}
use Rattle.message_fitting.specs.Names.{are_nodes, is_number}
use Rattle.message_fitting.specs.PacketFits.{carried_fits}
use Rattle.topology.specs.declared.limits.TheConstants.{MOST_TRAIL}
use Rattle.admission_laws.proofs.Facts.{cause_fits, entry_fits}
use Rattle.admission_laws.proofs.Each.{each_map, each_filter}
use Rattle.admission_laws.proofs.Bounds.{most_is}
use Rattle.admission_laws.proofs.Sessions.{AllFit, first_fits, rest_fits, cause_of}

-- ---- a path has few nodes

-- each of a list of nodes is a node of the network
node_of : (net : Net) (ns : List ℕ) (x : ℕ) → are_nodes net ns ≡ true → has ns x ≡ true → has net.nodes x ≡ true
node_of net [] x all there = absurd (cc there)
node_of net (n ∷ ns) x all there =
    ⊎_elim (λ (same : (n == x) ≡ true). subst (λ z. has net.nodes z ≡ true) (same_is n x same) (and_left (has net.nodes n) (are_nodes net ns) all))
    (λ (later : has ns x ≡ true). node_of net ns x (and_right (has net.nodes n) (are_nodes net ns) all) later) (or_cases (n == x) (has ns x) there)

-- the nodes of a path differ, and are of the network
abbrev simple_fits : Net → List ℕ → Bool
simple_fits net path = differ path && are_nodes net path

-- such a path can be carried
simple_carried : (net : Net) (path : List ℕ) → IsValid net → simple_fits net path ≡ true → carried_fits net path ≡ true
simple_carried net path valid fits =
    let inside = and_right (differ path) (are_nodes net path) fits in
    let few = no_more path net.nodes (and_left (differ path) (are_nodes net path) fits) (λ x there. node_of net path x inside there) in
    and_both (nat_le (length path) MOST_TRAIL) (are_nodes net path) (most_is (length path) MOST_TRAIL (let nodes = valid.few_nodes in omega arith)) inside

-- a path that fits can be carried
pub path_carried : (net : Net) (u : ℕ) (path : List ℕ) → IsValid net → path_fits net u (Some path) ≡ true → carried_fits net path ≡ true
path_carried net u path valid fits = simple_carried net path valid (and_right (begins_with u path) (differ path && are_nodes net path) fits)

-- ---- candidates

-- what was heard last is a path of different nodes of the network, or none
abbrev IsHeard : Net → Option (Option (List ℕ)) → Type 0
IsHeard net None = Unit {0}
IsHeard net (Some path) = IfSome path (λ l. simple_fits net l ≡ true)

-- a path that fits has different nodes, all of the network
path_simple : (net : Net) (v : ℕ) (path : Option (List ℕ)) → path_fits net v path ≡ true → IfSome path (λ l. simple_fits net l ≡ true)
path_simple net v None fits = tt
path_simple net v (Some path) fits = and_right (begins_with v path) (differ path && are_nodes net path) fits

module _ (net : Net) (u : ℕ) where
  -- after one more cause that fits, what was heard last is such a path, or none
  heard_then : (cause : Cause) (v s : ℕ) (before : Option (Option (List ℕ))) → cause_fits net u cause ≡ true → IsHeard net before → IsHeard net (heard_by cause v s before)
  heard_then Originate v s before fits is = is
  heard_then Withdraw v s before fits is = is
  heard_then (Down w t) v s before fits is = is
  heard_then (Up w t) v s before fits is = is
  heard_then (Ready w t) v s before fits is = is
  heard_then (Prefer w x) v s before fits is = is
  heard_then (Flush w) v s before fits is = is
  heard_then (Recv w t seq path) v s before fits is =
      let whole = and_right (is_number t) (path_fits net w path) (and_right (has (neighbours net u) w) (is_number t && path_fits net w path) fits) in
      elim (w == v && t == s) as (λ c. IsHeard net (cond c (Some path) before)) [ true ↦ path_simple net w path whole | false ↦ is ]

  -- what a fitting log heard last is such a path, or none
  heard_is : (h : List Entry) (p v s : ℕ) → AllFit net u h → IsHeard net (heard (reads h) p v s)
  heard_is [] p v s all = tt
  heard_is (k ∷ h) p v s all =
      let before = heard_is h p v s (rest_fits net u k h all) in
      elim (concerns p k.read.scope) as (λ c. IsHeard net (cond c (heard_by k.read.cause v s (heard (reads h) p v s)) (heard (reads h) p v s))) [
        | true ↦ heard_then k.read.cause v s (heard (reads h) p v s) (cause_of net u k (first_fits net u k h all)) before
        | false ↦ before
      ]

  -- what was learnt in the session that is held is such a path
  learnt_in : (session : Option ℕ) (paths : ℕ → Option (Option (List ℕ))) → ((s : ℕ) → IsHeard net (paths s))
      → IfSome (option_and_then (λ s. option_and_then (λ path. path) (paths s)) session) (λ l. simple_fits net l ≡ true)
  learnt_in None paths all = tt
  learnt_in (Some s) paths all = inner (paths s) (all s)
    where
      -- what was heard in a session is such a path, where a path was heard
      inner : (o : Option (Option (List ℕ))) → IsHeard net o → IfSome (option_and_then (λ path. path) o) (λ l. simple_fits net l ≡ true)
      inner None is = tt
      inner (Some path) is = is

  -- u in front of such a path, which u is not on, is such a path
  led : has net.nodes u ≡ true → (o : Option (List ℕ)) → IfSome o (λ l. simple_fits net l ≡ true)
      → IfSome (option_map (λ path. u ∷ path) (option_and_then (usable u) o)) (λ l. simple_fits net l ≡ true)
  led own None is = tt
  led own (Some path) is =
      (elim (has path u) as (λ b. has path u ≡ b → IfSome (option_map (λ l. u ∷ l) (cond b None (Some path))) (λ l. simple_fits net l ≡ true)) [
        | true ↦ λ e. tt
        | false ↦ λ e.
            and_both (not (has path u) && differ path) (has net.nodes u && are_nodes net path)
            (and_both (not (has path u)) (differ path) (not_false (has path u) e) (and_left (differ path) (are_nodes net path) is))
            (and_both (has net.nodes u) (are_nodes net path) own (and_right (differ path) (are_nodes net path) is))
      ]) refl

  -- the candidate of a neighbour is such a path
  candidate_is : (h : List Entry) (p v : ℕ) → has net.nodes u ≡ true → AllFit net u h → IfSome (candidate u (reads h) p v) (λ l. simple_fits net l ≡ true)
  unfolding beyond
  candidate_is h p v own all = led own (learnt (reads h) p v) (learnt_in (held (reads h) v) (heard (reads h) p v) (λ s. heard_is h p v s all))

-- ---- backups

-- the path of a choice is such a path, if the candidate is
choice_is : (net : Net) (v value : ℕ) (o : Option (List ℕ)) (c : Choice) → IfSome o (λ l. simple_fits net l ≡ true)
    → option_map (λ path. record { nbr = v; preference = value; path = path }) o ≡ Some c → simple_fits net c.path ≡ true
choice_is net v value None c is e = cc
choice_is net v value (Some path) c is e =
    let made : Choice = record { nbr = v; preference = value; path = path } in
    let same : made ≡ c = cc in
    subst (λ (d : Choice). simple_fits net d.path ≡ true) same is

-- the path of each choice of a list is such a path
chosen_is : (net : Net) (choose : ℕ → Option Choice) → ((v : ℕ) (c : Choice) → choose v ≡ Some c → simple_fits net c.path ≡ true) → (vs : List ℕ) (c : Choice) → Among c (filter_map choose vs)
    → simple_fits net c.path ≡ true
chosen_is net choose each [] c there = absurd there
chosen_is net choose each (v ∷ vs) c there =
    (elim (choose v) as (λ o. choose v ≡ o → Among c (cons_option o (filter_map choose vs)) → simple_fits net c.path ≡ true) [
      | None ↦ λ e a. chosen_is net choose each vs c a
      | Some d ↦ λ e a. ⊎_elim (λ (same : d ≡ c). each v c (e ∙ ap (λ (z : Choice). Some z) same)) (λ (later : Among c (filter_map choose vs)). chosen_is net choose each vs c later) a
    ]) refl there

-- if all entries of a log fit, its complete entries do
each_complete : (net : Net) (u n : ℕ) (incomplete : Trigger → Bool) (p : ℕ) (h : List Entry) → AllFit net u h → AllFit net u (complete_after n incomplete p h)
each_complete net u n incomplete p [] all = all
each_complete net u n incomplete p (k ∷ h) all =
    let others = complete_after n incomplete p h in
    let fit = each_complete net u n incomplete p h (rest_fits net u k h all) in
    elim (concerns p k.read.scope && may_go incomplete n h k) as (λ b. AllFit net u (if b then k ∷ others else others)) [
      | true ↦ and_both (entry_fits net u k) (list_all (entry_fits net u) others) (first_fits net u k h all) fit
      | false ↦ fit
    ]

module _ (rules : Rules) (net : Net) (u : ℕ) (valid : IsValid net) (own : has net.nodes u ≡ true) where
  -- the path of each candidate by rank is such a path
  ranked_is : (h : List Entry) (p : ℕ) (c : Choice) → AllFit net u h → Among c (by_rank rules net u (reads h) p) → simple_fits net c.path ≡ true
  unfolding choices
  ranked_is h p c all there =
      chosen_is net (choice net u (reads h) p) (λ v d is. choice_is net v _ (candidate u (reads h) p v) d (candidate_is net u h p v own all) is) (neighbours net u) c
      (by_rank_is rules net u (reads h) p c there)

  -- each backup can be carried
  pub backups_carried : (value : Value) (c : Trimmed) (p : ℕ) → AllFit net u c.entries → list_all (carried_fits net) (trimmed_backups rules net u value c p) ≡ true
  unfolding trimmed_backups
  backups_carried value c p all =
      let some = trimmed_complete value p c in
      let ranked = by_rank rules net u (reads some) p in
      let paths = map (λ (d : Choice). d.path) ranked in
      let fits = each_complete net u c.dropped (lists value.incomplete) p c.entries all in
      let each = each_map (carried_fits net) (λ (d : Choice). d.path) ranked (λ d there. simple_carried net d.path valid (ranked_is some p d fits there)) in
      elim (has value.responding u) as (λ t. list_all (carried_fits net) (cond t (filter (all_responded value) paths) []) ≡ true) [
        | true ↦ each_filter (carried_fits net) (all_responded value) paths each
        | false ↦ refl
      ]
