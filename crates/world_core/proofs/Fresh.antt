-- A world in which nothing has happened.
use Rattle.std.proofs.Common.{ℕ, zero, suc, Bool, true, false, Some, List, [], ◌∷◌, ◌++◌, ◌≡◌, ◌+◌, ◌⊎◌, inl, inr, ⊎_elim, refl, sym, ◌∙◌, ap, arith, length, nat_lt, slice_get, ◌&&◌}
use Rattle.std.specs.List.{sum_by}
use Rattle.std.proofs.lemmas.List.Sums.{sum_by-cons}
use Rattle.topology.specs.Net.{Net}
use Rattle.trigger_log.specs.Entries.{locals}
use Rattle.trigger_log.specs.Sending.{sent_of}
use Rattle.trigger_log.proofs.Collected.{none_at_first}
use Rattle.topology.specs.declared.limits.TheConstants.{MOST_MARKS}
use Rattle.node_core.specs.Counted.{entry_marks}
use Rattle.message_fitting.specs.Marks.{item_marks, row_marks}
use Rattle.node_core.specs.NodeLimits.{marks_of}
use Rattle.world_core.proofs.Counts.{any_none}
use Rattle.chronicle.specs.Logs.{log_of}
use Rattle.world_core.specs.Limits.{triggers_of, has_more_marks}
use Rattle.path_vector.specs.Rules.{Rules}
use Rattle.link_model.specs.declared.links.Links.{Links}
use Rattle.link_model.specs.Standing.{StandsFor as LinksStandFor}
use Rattle.topology.specs.declared.ways.Way.{Way}
use Rattle.node_core.specs.declared.node.Node.{Node}
use Rattle.node_core.specs.Standing.{StandsFor}
use Rattle.world_core.specs.Matching.{AreLinks, IsCounted}
use Rattle.world_core.specs.OpenWays.{AreOpen}
use Rattle.topology.specs.Net.{linked}
use Rattle.world_core.proofs.Places.{same_some}

-- a place of a list with one more at its end is one of the list, or the end
pushed_at : {A : Type 0} (xs : List A) (y : A) (i : ℕ) (x : A) → slice_get (xs ++ y ∷ []) i ≡ Some x → (slice_get xs i ≡ Some x) ⊎ ((i ≡ length xs) × (x ≡ y))
pushed_at [] y zero x e = inr (refl, same_some x y (sym e))
pushed_at [] y (suc i) x e = absurd (cc e)
pushed_at (z ∷ zs) y zero x e = inl e
pushed_at (z ∷ zs) y (suc i) x e = ⊎_elim (λ here. inl here) (λ (last : (i ≡ length zs) × (x ≡ y)). inr (ap suc last.0, last.1)) (pushed_at zs y i x e)

-- the first nodes have done nothing
abbrev pub AllFresh : {P : Type 0} → P → Rules → Net → List ℕ → List (Node P) → Type 0
AllFresh {P} policy rules net ids nodes = (i u : ℕ) (node : Node P) → slice_get ids i ≡ Some u → slice_get nodes i ≡ Some node → StandsFor policy rules net u node []

-- one node more has done nothing
pub fresh_push : {P : Type 0} (policy : P) (rules : Rules) (net : Net) (ids : List ℕ) (nodes : List (Node P)) (n u : ℕ) (node : Node P) → AllFresh policy rules net ids nodes
    → length nodes ≡ n → slice_get ids n ≡ Some u → StandsFor policy rules net u node [] → AllFresh policy rules net ids (nodes ++ node ∷ [])
fresh_push policy rules net ids nodes n u node was count at new i v one id here = ⊎_elim
    (λ before. was i v one id before)
    (λ (last : (i ≡ length nodes) × (one ≡ node)).
    let same : v ≡ u = same_some v u (sym id ∙ (ap (slice_get ids) (last.0 ∙ count) ∙ at)) in
    rw (same, last.1) new)
    (pushed_at nodes node i one here)

-- the links at the start
pub fresh_links : (net : Net) (links : Links) → LinksStandFor net links [] → AreLinks net [] links
fresh_links net links stands = record { acts = []; stands = stands; states = λ a b. refl; items = λ a b. refl }

-- no trigger was given
no_sum : (xs : List ℕ) → sum_by (λ u. locals (log_of u [])) xs ≡ 0
no_sum [] = refl
no_sum (x ∷ xs) =
    let all = sum_by-cons (λ u. locals (log_of u [])) x xs in
    let first : locals (log_of x []) ≡ 0 = refl in
    let rest = no_sum xs in
    omega (arith, all, first, rest)

-- no node has marks
no_marks : (rules : Rules) (net : Net) → has_more_marks rules net [] ≡ false
unfolding has_more_marks marks_of sent_of
no_marks rules net =
    any_none (λ u. nat_lt MOST_MARKS (marks_of rules net u (log_of u []))) net.nodes
    (λ u node. ap (λ rows. nat_lt MOST_MARKS (entry_marks [] + item_marks (sent_of rules net u []) + row_marks rows)) (none_at_first rules net u))

-- the count at the start
pub fresh_counted : (rules : Rules) (net : Net) → IsCounted rules net [] 0
unfolding triggers_of
fresh_counted rules net = record { total = sym (no_sum net.nodes); few = omega arith; few_mails = omega arith; few_packets = omega arith; few_marks = no_marks rules net }

-- each way over a link is open
pub fresh_open : (net : Net) (has : Way → Bool) → ((way : Way) → has way ≡ linked net way.from way.to) → AreOpen net [] has
fresh_open net has all way = all way ∙ and_true (linked net way.from way.to)
  where
    and_true : (b : Bool) → b ≡ (b && true)
    and_true true = refl
    and_true false = refl
