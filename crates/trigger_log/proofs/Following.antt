-- Which entry may follow a log: its cause fits, and a flush finds something held back.
use Rattle.std.proofs.Common.{ℕ, true, Bool, List, ◌≡◌, sym, ◌∙◌, subst}
use Rattle.std.specs.Prelude.{◌↔◌, IsTrue}
use Rattle.topology.specs.Net.{Net}
use Rattle.topology.specs.declared.names.Scope.{Scope}
use Rattle.topology.specs.declared.names.Scope.TheVariants.{One, All, Nothing}
use Rattle.path_vector.specs.declared.causes.Cause.{Cause}
use Rattle.path_vector.specs.declared.causes.Cause.TheVariants.{Originate, Withdraw, Recv, Down, Up, Ready, Prefer, Flush}
use Rattle.path_vector.specs.Rules.{Rules}
use Rattle.trigger_log.specs.Entries.{Entry}
use Rattle.trigger_log.specs.Pending.{holds_some}
use Rattle.trigger_log.specs.Fits.{CauseFits, Fits, FlushFits, MayFollow}
use Rattle.trigger_log.proofs.Collected.{held_where}

module _ (rules : Rules) (net : Net) (u : ℕ) (h : List Entry) where
  one_flushes : (p : ℕ) (cause : Cause) → CauseFits h (One p) cause → FlushFits rules net u h cause
  one_flushes p Originate f = tt
  one_flushes p Withdraw f = tt
  one_flushes p (Recv v s seq path) f = tt
  one_flushes p (Down v s) f = tt
  one_flushes p (Up v s) f = tt
  one_flushes p (Ready v s) f = tt
  one_flushes p (Prefer v x) f = tt
  one_flushes p (Flush v) f = absurd f

  all_flushes : (cause : Cause) → CauseFits h All cause → FlushFits rules net u h cause
  all_flushes Originate f = tt
  all_flushes Withdraw f = tt
  all_flushes (Recv v s seq path) f = tt
  all_flushes (Down v s) f = tt
  all_flushes (Up v s) f = tt
  all_flushes (Ready v s) f = tt
  all_flushes (Prefer v x) f = tt
  all_flushes (Flush v) f = absurd f

  pub one_follows : (p : ℕ) (cause : Cause) (r : Bool) → IsTrue r ↔ CauseFits h (One p) cause → IsTrue r ↔ MayFollow rules net u h (One p) cause
  one_follows p cause r both = (λ t. record { fits = both.0 t; flushes = one_flushes p cause (both.0 t) }, λ m. both.1 m.fits)

  pub all_follows : (cause : Cause) (r : Bool) → IsTrue r ↔ CauseFits h All cause → IsTrue r ↔ MayFollow rules net u h All cause
  all_follows cause r both = (λ t. record { fits = both.0 t; flushes = all_flushes cause (both.0 t) }, λ m. both.1 m.fits)

  pub flush_follows : (cause : Cause) (v : ℕ) (r : Bool) → cause ≡ Flush v → Fits h → r ≡ holds_some rules net u h v → IsTrue r ↔ MayFollow rules net u h Nothing cause
  flush_follows cause v r is fits some =
      subst (λ c. IsTrue r ↔ MayFollow rules net u h Nothing c) (sym is)
      (λ t. let holds : holds_some rules net u h v ≡ true = sym some ∙ t in record { fits = held_where rules net u h v fits holds; flushes = holds }, λ m. some ∙ m.flushes)

  pub follows_scope : (cause : Cause) (scope same : Scope) (r : Bool) → scope ≡ same → IsTrue r ↔ MayFollow rules net u h same cause → IsTrue r ↔ MayFollow rules net u h scope cause
  follows_scope cause scope same r is both = subst (λ x. IsTrue r ↔ MayFollow rules net u h x cause) (sym is) both
