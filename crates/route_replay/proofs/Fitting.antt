-- What a file directs fits the network that it describes.
use Rattle.std.proofs.Common.{◌≡◌, ℕ, suc, ◌≤◌, Bool, true, false, not, ◌==◌, Some, None, List, [], ◌∷◌, length, refl, sym, subst, arith, nat_lt, nat_le, if◌then◌else◌}
use Rattle.std.specs.Prelude.{◌&&◌, IsTrue}
use Rattle.std.specs.List.{list_any}
use Rattle.std.proofs.lemmas.Bool.Decides.{nat_tests}
use Rattle.topology.specs.declared.prefixes.Prefix.{Prefix as Range}
use Rattle.topology.specs.Lists.{has}
use Rattle.topology.specs.Net.{Net, linked, has_prefix, same_prefix}
use Rattle.topology.specs.declared.building.BuildError.TheVariants as building
use Rattle.topology.specs.declared.status.BadKind.TheVariants as bad
use Rattle.topology.proofs.Tests.{and_both}
use Rattle.schedule_file.specs.declared.directives.Directive.{Directive}
use Rattle.schedule_file.specs.declared.directives.Directive.TheVariants.{Originate, Withdraw, Probe, Prefer, Deliver, Fail, Restore, Notice, OpenSession, Flush, Snap, Crash, Restart, Propose, Control, Inject, Hop}
use Rattle.schedule_file.specs.declared.lines.Numbered.{Numbered}
use Rattle.schedule_file.specs.Lines.{DirectsInRange}
use Rattle.schedule_file.specs.Grammar.{place_in, fault_from, origin_fault, pair_fault, directed_fault, directive_of, IsDirected, AreDirected}
use Rattle.route_replay.specs.Text.{task_of}
use Rattle.route_replay.specs.Running.{Fitting, AllFitting}

-- a prefix that was declared has a place
inside : (p : Range) (ps : List Range) → list_any (same_prefix p) ps ≡ true → nat_lt (place_in p ps) (length ps) ≡ true
inside p [] e = cc
inside p (q ∷ qs) e =
    (elim (same_prefix p q) as (λ t. same_prefix p q ≡ t → nat_lt (if t then 0 else suc (place_in p qs)) (suc (length qs)) ≡ true) [
      | true ↦ λ here. grind (arith, nat_tests)
      | false ↦ λ other. let later = inside p qs (rw other at e) in grind (arith, nat_tests)
    ]) refl

-- the node and the prefix are there
origin_named : (known_node known_prefix : Bool) → (if not known_node then Some bad.UnknownNode else if not known_prefix then Some bad.UnknownPrefix else None) ≡ None
    → (known_node ≡ true) × (known_prefix ≡ true)
origin_named true true e = (refl, refl)
origin_named true false e = absurd (cc e)
origin_named false q e = absurd (cc e)

-- the node is there
node_named : (known : Bool) → (if not known then Some bad.UnknownNode else None) ≡ None → known ≡ true
node_named true e = refl
node_named false e = absurd (cc e)

-- the two ends have a link
ends_linked : (a b : ℕ) (known_a known_b same joined : Bool)
    → fault_from (if not known_a then Some (building.UnknownNode a) else if not known_b then Some (building.UnknownNode b) else if same then Some building.SelfLink else if not joined then Some building.NoLink else None) ≡ None
    → joined ≡ true
ends_linked a b true true false true e = refl
ends_linked a b true true false false e = absurd (cc e)
ends_linked a b true true true j e = absurd (cc e)
ends_linked a b true false s j e = absurd (cc e)
ends_linked a b false kb s j e = absurd (cc e)

-- the two nodes have a link
near_linked : (known_a known_b joined : Bool) → (if not known_a then Some bad.UnknownNode else if not known_b then Some bad.UnknownNode else if not joined then Some bad.NoLink else None) ≡ None → joined ≡ true
near_linked true true true e = refl
near_linked true true false e = absurd (cc e)
near_linked true false j e = absurd (cc e)
near_linked false kb j e = absurd (cc e)

-- a number is as much as it may be
small : (value most : ℕ) → value ≤ most → nat_le value most ≡ true
small value most below = grind (arith, nat_tests, below)

module _ (net : Net) where
  origin_fits : (node : ℕ) (p : Range) → origin_fault net node p ≡ None → IsTrue (has net.nodes node && nat_lt (place_in p net.prefixes) (length net.prefixes))
  origin_fits node p fine =
      let named = origin_named (has net.nodes node) (has_prefix net p) fine in
      and_both _ _ named.0 (inside p net.prefixes named.1)

  joined : (a b : ℕ) → pair_fault net a b ≡ None → linked net a b ≡ true
  joined a b fine = ends_linked a b (has net.nodes a) (has net.nodes b) (a == b) (linked net a b) fine

  line_fits : (line : Directive Range) → DirectsInRange line → directed_fault net line ≡ None → Fitting net (task_of (directive_of net line))
  line_fits (Originate node p) r fine = origin_fits node p fine
  line_fits (Withdraw node p) r fine = origin_fits node p fine
  line_fits (Probe node p) r fine = origin_fits node p fine
  line_fits (Snap node) r fine = node_named (has net.nodes node) fine
  line_fits (Crash node) r fine = node_named (has net.nodes node) fine
  line_fits (Restart node) r fine = node_named (has net.nodes node) fine
  line_fits (Deliver a b) r fine = joined a b fine
  line_fits (Fail a b) r fine = joined a b fine
  line_fits (Restore a b) r fine = joined a b fine
  line_fits (Notice a b) r fine = joined a b fine
  line_fits (OpenSession a b) r fine = joined a b fine
  line_fits (Flush a b) r fine = joined a b fine
  line_fits (Prefer node nbr value) r fine =
      and_both _ _ (near_linked (has net.nodes node) (has net.nodes nbr) (linked net node nbr) fine) (small value _ r.2)
  line_fits (Propose node epoch) r fine =
      and_both _ _ (node_named (has net.nodes node) fine) (and_both _ _ (small 1 epoch r.1) (small epoch _ r.2))
  line_fits (Control number) r fine = and_both _ _ (small 1 number r.0) (small number _ r.1)
  line_fits (Inject packet node p) r fine = and_both _ _ (small 1 packet r.0) (origin_fits node p fine)
  line_fits (Hop packet None) r fine = small 1 packet r.0
  line_fits (Hop packet (Some times)) r fine = small 1 packet r.0
  line_fits line r fine = tt

  directive_fits : (d : Directive ℕ) → IsDirected net d → Fitting net (task_of d)
  directive_fits d f = subst (λ (one : Directive ℕ). Fitting net (task_of one)) (sym f.same) (line_fits f.line f.in_range f.named)

  -- each directive of a line fits
  pub all_fit : (ds : List Numbered) → AreDirected net ds → AllFitting net ds
  all_fit ds all = λ k d at. directive_fits _ (all k d at)
