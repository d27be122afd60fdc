-- What others do, and a crash, leave a node as it is.
use Rattle.std.proofs.Common.{ℕ, false, ◌==◌, ◌∷◌, ◌≡◌, refl, sym, ◌∙◌, subst, arith}
use Rattle.topology.specs.Net.{Net}
use Rattle.path_vector.specs.Rules.{Rules}
use Rattle.consolidator.specs.Beside as agreeing
use Rattle.consolidator.specs.Keeping.{Kept as Part}
use Rattle.consolidator.specs.Standing.{StandsFor as PartStandsFor}
use Rattle.consolidator.proofs.Beside.{stands_beside}
use Rattle.chronicle.specs.Facts.{Fact, Chronicle, Log, Sent, Took, Fail, Restore, Raise, Start, Mail, Heard, Crash, Restart, Publish, Visit, End}
use Rattle.chronicle.specs.Control.{control, control_by}
use Rattle.chronicle.specs.Inputs.{Input}
use Rattle.chronicle.specs.Steps.{Carried}
use Rattle.chronicle.specs.Giving.{give}
use Rattle.chronicle.specs.Run.{chronicle_of}
use Rattle.chronicle.proofs.OwnFacts.{IsOf, given_by_facts}
use Rattle.cut_laws.specs.Own as cuts
use Rattle.cut_laws.specs.Own.{SameNode}
use Rattle.cut_laws.proofs.Beside.{same_by_fact, give_same}
use Rattle.cut_laws.proofs.Owning.{own_same}
use Rattle.node_core.specs.declared.node.Node.{Node}
use Rattle.node_core.specs.Beside.{IsBeside}
use Rattle.node_core.specs.Keeping.{Keeps}
use Rattle.node_core.specs.NodeLimits.{has_large_value, has_long_list, node_above}
use Rattle.node_core.specs.Standing.{StandsFor}
use Rattle.node_core.proofs.Agreements.{agrees_on}
use Rattle.node_core.proofs.Entering.{same_keeps}
use Rattle.node_core.proofs.Undropped.{drops_of_same, table_cuts_of_same}
use Rattle.node_core.proofs.Proposing.{small_on, beside_small, given_small}

-- a fact of others is none of what a node says and hears over its links
cut_beside : (u : ℕ) (f : Fact) → IsBeside u f → cuts.IsBeside u f
cut_beside u (Log node entry) q = q
cut_beside u (Sent from to session item queued) q = q
cut_beside u (Took from to session item) q = q
cut_beside u (Raise node e) q = q
cut_beside u (Publish node e value paths) q = q
cut_beside u (Fail a b) q = tt
cut_beside u (Restore a b) q = tt
cut_beside u (Start node e ballot) q = tt
cut_beside u (Mail from to message) q = tt
cut_beside u (Heard node from message) q = tt
cut_beside u (Crash node) q = tt
cut_beside u (Restart node) q = tt
cut_beside u (Visit node packet) q = tt
cut_beside u (End packet ending) q = tt

-- nor of what it keeps of agreements
control_beside : (u : ℕ) (f : Fact) → IsBeside u f → agreeing.IsBeside u (control_by f)
control_beside u (Start node e ballot) q = q
control_beside u (Mail from to message) q = q
control_beside u (Heard node from message) q = q
control_beside u (Crash node) q = q
control_beside u (Log node entry) q = tt
control_beside u (Sent from to session item queued) q = tt
control_beside u (Took from to session item) q = tt
control_beside u (Raise node e) q = tt
control_beside u (Publish node e value paths) q = tt
control_beside u (Fail a b) q = tt
control_beside u (Restore a b) q = tt
control_beside u (Restart node) q = tt
control_beside u (Visit node packet) q = tt
control_beside u (End packet ending) q = tt

-- the number of another node is another number
another : (u v node : ℕ) → (v == u) ≡ false → node ≡ v → (node == u) ≡ false
another u v node off is = subst (λ n. (n == u) ≡ false) (sym is) off

-- nor is a fact of another node
of_another : (u v : ℕ) (f : Fact) → (v == u) ≡ false → IsOf v f → agreeing.IsBeside u (control_by f)
of_another u v (Start node e ballot) off of = another u v node off of
of_another u v (Mail from to message) off of = another u v from off of
of_another u v (Heard node from message) off of = another u v node off of
of_another u v (Crash node) off of = absurd of
of_another u v other off of = tt

-- all that another node does with an input leaves what u keeps of agreements
give_agreeing : (rules : Rules) (net : Net) (u v : ℕ) → (v == u) ≡ false → (past : Chronicle) (kept : Part) (carried : Carried) (i : Input) → PartStandsFor net kept (control past) u
    → PartStandsFor net kept (control (chronicle_of past (give rules net carried v past i))) u
give_agreeing rules net u v off past kept carried i before =
    given_by_facts rules net v (λ now. PartStandsFor net kept (control now) u)
    (λ f now of stands. stands_beside net kept (control now) u (control_by f) (of_another u v f off of) stands) carried past i before

-- the counts
same_above : (rules : Rules) (net : Net) (u : ℕ) (past now : Chronicle) → SameNode u past now → has_large_value u now ≡ has_large_value u past → node_above rules net u now ≡ node_above rules net u past
unfolding node_above has_long_list
same_above rules net u past now same large = rw (same.same_epoch, large, same.same_log) refl

module _ {P : Type 0} (policy : P) (rules : Rules) (net : Net) (u : ℕ) (past : Chronicle) where
  -- a node keeps what it has where all that is read of it stays as it was
  same_stands : (node : Node P) (now : Chronicle) → SameNode u past now → has_large_value u now ≡ has_large_value u past → PartStandsFor net node.parts.value.agreement.consolidator (control now) u → StandsFor policy rules net u node past
      → StandsFor policy rules net u node now
  same_stands node now same large part was = record {
    own = own_same rules net past now u was.own same;
    keeps = same_keeps policy rules net u node past now same.same_log same.same_epoch same.same_cut (λ v s. same.same_took v s) (drops_of_same net u past now same) was.keeps;
    agrees = agrees_on rules net u past now node.parts.value.agreement node.parts.value.agreement refl part same.same_publications (let still = same.same_epoch in omega (arith, still)) (λ e low. table_cuts_of_same net u past now same e) was.agrees;
    within = same_above rules net u past now same large ∙ was.within;
  }

  -- what others do, and links
  pub beside_stands : (node : Node P) (f : Fact) → IsBeside u f → StandsFor policy rules net u node past → StandsFor policy rules net u node (f ∷ past)
  beside_stands node f beside was =
      same_stands node (f ∷ past) (same_by_fact u f past (cut_beside u f beside)) (small_on u f past (beside_small u f beside))
      (stands_beside net node.parts.value.agreement.consolidator (control past) u (control_by f) (control_beside u f beside) was.agrees.part) was

  -- where another node gets an input
  pub given_stands : (v : ℕ) (node : Node P) (carried : Carried) (i : Input) → (v == u) ≡ false → StandsFor policy rules net u node past
      → StandsFor policy rules net u node (chronicle_of past (give rules net carried v past i))
  given_stands v node carried i off was =
      same_stands node (chronicle_of past (give rules net carried v past i)) (give_same rules net u v off past carried i) (given_small rules net u v off carried past i)
      (give_agreeing rules net u v off past node.parts.value.agreement.consolidator carried i was.agrees.part) was

  -- where it crashes itself: its part in the agreements forgets
  pub crash_stands : (old new : Node P) → Keeps policy rules net u new past → new.parts.value.agreement.tables ≡ old.parts.value.agreement.tables → PartStandsFor net new.parts.value.agreement.consolidator (control (Crash u ∷ past)) u
      → StandsFor policy rules net u old past → StandsFor policy rules net u new (Crash u ∷ past)
  crash_stands old new keeps tables part was =
      let same = same_by_fact u (Crash u) past tt in
      record {
        own = own_same rules net past (Crash u ∷ past) u was.own same;
        keeps = same_keeps policy rules net u new past (Crash u ∷ past) refl refl (λ e. refl) (λ v s. refl) (record { same_count = refl; same_reported = λ d. refl }) keeps;
        agrees = agrees_on rules net u past (Crash u ∷ past) old.parts.value.agreement new.parts.value.agreement tables part refl (omega arith) (λ e low. refl) was.agrees;
        within = same_above rules net u past (Crash u ∷ past) same refl ∙ was.within;
      }
