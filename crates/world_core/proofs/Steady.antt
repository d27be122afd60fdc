-- What a node does with an input stops no node, and starts none again.
use Rattle.std.proofs.Common.{ℕ, Bool, Some, List, ◌≡◌, refl, sym, ◌∙◌, ap, length-set, set, slice_get, ⊎_elim}
use Rattle.std.specs.Prelude.{if◌then◌else◌}
use Rattle.std.proofs.lemmas.Bool.{cases_eq}
use Rattle.std.proofs.lemmas.Option.{slice_get_within}
use Rattle.topology.specs.Lists.{ascending}
use Rattle.topology.specs.Net.{Net, IsValid}
use Rattle.topology.proofs.Ascending.{differ-ascending}
use Rattle.path_vector.specs.Rules.{Rules}
use Rattle.chronicle.specs.Crashes.{crashed, crashed_by}
use Rattle.chronicle.specs.Facts.{Fact, Chronicle, Crash, Restart}
use Rattle.chronicle.specs.Giving.{give}
use Rattle.chronicle.specs.Inputs.{Input}
use Rattle.chronicle.specs.Run.{carried_by, chronicle_of, given}
use Rattle.chronicle.specs.Steps.{Carried}
use Rattle.chronicle.proofs.OwnFacts.{IsOf, given_by_facts}
use Rattle.world_core.specs.Happening.{Turns}
use Rattle.world_core.specs.Matching.{AreCrashed}
use Rattle.world_core.proofs.Nodes.{other_place, same_number}
use Rattle.world_core.proofs.Places.{slice_get-set_same, slice_get-set_other, same_some}

-- the same nodes are crashed
abbrev pub Steady : Chronicle → Chronicle → Type 0
Steady past now = (v : ℕ) → crashed v now ≡ crashed v past

-- what a node adds where it gets an input stops no node, and starts none again
own_steady : (u v : ℕ) (f : Fact) (before : Bool) → IsOf u f → crashed_by v f before ≡ before
own_steady u v (Crash node) before of = absurd of
own_steady u v (Restart node) before of = absurd of
own_steady u v other before of = refl

-- so it is with all that it does with an input
pub give_steady : (rules : Rules) (net : Net) (carried : Carried) (u : ℕ) (past : Chronicle) (i : Input) → Steady past (chronicle_of past (give rules net carried u past i))
give_steady rules net carried u past i =
    given_by_facts rules net u (Steady past) (λ f now of before v. own_steady u v f (crashed v now) of ∙ before v) carried past i (λ v. refl)

-- the flags stay right
pub steady_flags : (net : Net) (past now : Chronicle) (flags : List Bool) → Steady past now → AreCrashed net past flags → AreCrashed net now flags
steady_flags net past now flags steady was = record {
  flag_count = was.flag_count;
  flag_is = λ i u flag at here. was.flag_is i u flag at here ∙ sym (steady u);
}

-- so after an input, in a run
pub given_flags : (rules : Rules) (net : Net) (past : Chronicle) (u : ℕ) (i : Input) (flags : List Bool) → AreCrashed net past flags → AreCrashed net (chronicle_of past (given rules net past u i)) flags
given_flags rules net past u i flags was = steady_flags net past (chronicle_of past (given rules net past u i)) flags (give_steady rules net (carried_by u past) u past i) was

-- one flag is another
pub turned_flags : (net : Net) (past now : Chronicle) (flags : List Bool) (i u : ℕ) (is : Bool) → IsValid net → slice_get (ascending net.nodes) i ≡ Some u → Turns u is past now → AreCrashed net past flags
    → AreCrashed net now (set flags i is)
turned_flags net past now flags i u is valid at turns was = record {
  flag_count = length-set flags i is ∙ was.flag_count;
  flag_is = λ j v flag at_v here. ⊎_elim
      (λ (e : j ≡ i).
      let is_new : flag ≡ is = same_some flag is (sym here ∙ (ap (slice_get (set flags i is)) e ∙ slice_get-set_same flags i is (rw was.flag_count (slice_get_within (ascending net.nodes) i u at)))) in
      let is_u : v ≡ u = same_some v u (sym at_v ∙ (ap (slice_get (ascending net.nodes)) e ∙ at)) in
      is_new ∙ sym (turns v ∙ rw (is_u, same_number u) refl))
      (λ ne.
      let off = other_place (ascending net.nodes) i j u v (differ-ascending net.nodes valid.nodes_differ) at at_v ne in
      was.flag_is j v flag at_v (sym (slice_get-set_other flags i j is (λ e. ne (sym e))) ∙ here) ∙ sym (turns v ∙ ap (λ t. if t then is else crashed v past) off))
      (cases_eq j i);
}
