-- How many pieces the text of a node has, and what is found in a list.
use Rattle.std.proofs.Common.{◌≡◌, ℕ, zero, suc, ◌-◌, ◌<◌, true, Option, Some, None, List, [], ◌∷◌, length, get_or, refl, sym, ap, ◌∙◌, slice_get, arith}
use Rattle.std.specs.Prelude.{IsSome, IsNone}
use Rattle.std.proofs.lemmas.List.{length-map, length-drop, get_or_read}
use Rattle.std.proofs.lemmas.List.FromFn.{length-enumerate_from}
use Rattle.topology.specs.Lists.{has, ascending}
use Rattle.topology.specs.Net.{Net, neighbours}
use Rattle.topology.proofs.Ascending.{has-ascending}
use Rattle.topology.proofs.Sets.{has_at}
use Rattle.path_vector.specs.Rules.{Rules}
use Rattle.chronicle.specs.declared.events.Event.{Event}
use Rattle.chronicle.specs.Control.{mailed}
use Rattle.chronicle.specs.Facts.{Chronicle}
use Rattle.chronicle.specs.Drops.{dropped}
use Rattle.trigger_log.specs.Entered.{all_entered}
use Rattle.chronicle.specs.Logs.{log_of}
use Rattle.chronicle.specs.Publications.{Publication}
use Rattle.chronicle.specs.Run.{run}
use Rattle.route_replay.specs.RibText.{rib_lines}
use Rattle.route_replay.specs.LogText.{log_lines}
use Rattle.route_replay.specs.CutText.{cut_lines}
use Rattle.route_replay.specs.ControlText.{mail_lines}
use Rattle.route_replay.specs.TablesText.{table_lines}
use Rattle.route_replay.proofs.Logs.{length-steps}

-- a route to each prefix
pub length-rib_lines : (rules : Rules) (net : Net) (past : Chronicle) (node : ℕ) → length (rib_lines rules net past node) ≡ length net.prefixes
unfolding rib_lines
length-rib_lines rules net past node = length-map _ _ ∙ length-enumerate_from 0 net.prefixes

-- a line for each entry that is kept
pub length-log_lines : (rules : Rules) (net : Net) (past : Chronicle) (node : ℕ) → length (log_lines rules net past node) ≡ length (log_of node past) - dropped net node past
unfolding log_lines
length-log_lines rules net past node = length-map _ _ ∙ (length-drop (dropped net node past) (all_entered (log_of node past)) ∙ ap (λ n. n - dropped net node past) (length-steps (log_of node past)))

-- that of the cut, and one of each neighbour
pub length-cut_lines : (net : Net) (past : Chronicle) (e node : ℕ) → length (cut_lines net past e node) ≡ suc (length (neighbours net node))
unfolding cut_lines
length-cut_lines net past e node = ap suc (length-map _ _)

-- one for each control message
pub length-mail_lines : (rules : Rules) (net : Net) (events : List Event) → length (mail_lines rules net events) ≡ length (mailed (run rules net events))
unfolding mail_lines
length-mail_lines rules net events = length-map _ _ ∙ length-enumerate_from 1 (mailed (run rules net events))

-- one for each prefix
pub length-table_lines : (net : Net) (u e : ℕ) (t : Publication) → length (table_lines net u e (Some t)) ≡ length net.prefixes
length-table_lines net u e t = length-map _ _ ∙ length-enumerate_from 0 net.prefixes

pub some_at : {X : Type 0} (xs : List X) (i : ℕ) → i < length xs → IsSome (slice_get xs i)
some_at [] i inside = absurd (omega (arith, inside))
some_at (x ∷ xs) zero inside = refl
some_at (x ∷ xs) (suc i) inside = some_at xs i (omega (arith, inside))

pub some_unless : {X : Type 0} (o : Option X) → ¬ (IsNone o) → IsSome o
some_unless None never = absurd (never refl)
some_unless (Some x) never = refl

-- a node at a place among all nodes, ascending, is one of the network
pub node_at : (net told : Net) (nodes : List ℕ) (i n : ℕ) → told ≡ net → nodes ≡ ascending told.nodes → i < length nodes → n ≡ get_or nodes i n → has net.nodes n ≡ true
node_at net told nodes i n same all inside is =
    ap (λ (t : Net). has t.nodes n) (sym same)
    ∙ sym (has-ascending told.nodes n)
    ∙ ap (λ (ns : List ℕ). has ns n) (sym all)
    ∙ has_at nodes n i inside (sym (get_or_read nodes i n inside is 0))
