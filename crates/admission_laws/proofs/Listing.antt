-- The triggers listed by entries, by their items and by held-back updates are of the network.
use Rattle.std.proofs.Common.{ℕ, true, ⊎_elim, inl, inr, List, [], ◌∷◌, ◌≡◌, ◌≢◌, refl}
use Rattle.topology.specs.declared.names.Scope.{Scope}
use Rattle.topology.specs.declared.names.Scope.TheVariants.{One, All, Nothing}
use Rattle.topology.specs.declared.names.Trigger.{Trigger}
use Rattle.topology.specs.Lists.{Among}
use Rattle.topology.specs.Triggers.{union}
use Rattle.topology.specs.Net.{Net}
use Rattle.topology.proofs.Tests.{and_both}
use Rattle.topology.proofs.Unions.{of_union, union_none}
use Rattle.path_vector.specs.Rules.{Rules}
use Rattle.path_vector.specs.History.{concerns}
use Rattle.path_vector.specs.Offers.{changed}
use Rattle.trigger_log.specs.Entries.{Entry, closes, reads}
use Rattle.trigger_log.specs.Fits.{Fits}
use Rattle.trigger_log.specs.Pending.{all_pending, is_pending, is_some_trigger, pending}
use Rattle.trigger_log.specs.Sending.{Lists, close_list}
use Rattle.trigger_log.proofs.Gathering.{changed_about}
use Rattle.trigger_log.proofs.Listed.{all_pending_listed, any_lists, pending_listed}
use Rattle.message_fitting.specs.ControlFits.{row_lists_fit}
use Rattle.message_fitting.specs.Names.{list_fits, trigger_fits, triggers_fit}
use Rattle.admission_laws.proofs.Values.{of_list, of_row, trigger_of}
use Rattle.admission_laws.proofs.Sessions.{AllFit, close_lists, first_fits, rest_fits, triggers_of}

-- ---- lists

module _ (net : Net) where
  -- a list of triggers that is not empty fits, if each of them fits
  pub all_known : (ts : List Trigger) → ts ≢ [] → ((t : Trigger) → Among t ts → trigger_fits net t ≡ true) → triggers_fit net ts ≡ true
  all_known [] some each = absurd (some refl)
  all_known (t ∷ []) some each = each t (inl refl)
  all_known (t ∷ s ∷ ts) some each =
      and_both (trigger_fits net t) (triggers_fit net (s ∷ ts)) (each t (inl refl)) (all_known (s ∷ ts) (λ none. absurd (cc none)) (λ r a. each r (inr a)))

  -- a list of an entry that concerns a prefix is not empty, and its triggers fit
  pub of_prefix : (p : ℕ) (scope : Scope) (ts : List Trigger) → concerns p scope ≡ true → row_lists_fit net scope ts ≡ true → list_fits net ts ≡ true
  of_prefix p (One q) ts about fit = fit
  of_prefix p All ts about fit = fit
  of_prefix p Nothing ts about fit = absurd (cc about)

-- ---- what a log lists

module _ (rules : Rules) (net : Net) (u : ℕ) where
  lists_known : (h : List Entry) (t : Trigger) → AllFit net u h → Lists h t → trigger_fits net t ≡ true
  lists_known [] t all a = absurd a
  lists_known (k ∷ h) t all (inl here) = of_row net t k.read.scope k.triggers (triggers_of net u k (first_fits net u k h all)) here
  lists_known (k ∷ h) t all (inr there) = lists_known h t (rest_fits net u k h all) there

  some_pending : (ts : List Trigger) → is_some_trigger ts ≡ true → ts ≢ []
  some_pending [] some = absurd (cc some)
  some_pending (t ∷ ts) some = λ none. absurd (cc none)

  -- the triggers for which an update is held back fit
  pub pending_known : (h : List Entry) (w p : ℕ) → AllFit net u h → Fits h → is_pending rules net u h w p ≡ true → triggers_fit net (pending rules net u h w p) ≡ true
  pending_known h w p all fits some =
      all_known net (pending rules net u h w p) (some_pending (pending rules net u h w p) some)
      (λ t a. lists_known h t all (any_lists p h t (pending_listed rules net u h w p t fits a)))

  -- the triggers of an entry that changes an offer fit
  pub changed_known : (k : Entry) (h : List Entry) (w p : ℕ) → AllFit net u (k ∷ h) → Fits (k ∷ h) → changed rules net u (k.read ∷ reads h) w p ≡ true → triggers_fit net k.triggers ≡ true
  changed_known k h w p all fits moved =
      of_list net k.triggers (of_prefix net p k.read.scope k.triggers (changed_about rules net u k h w p fits moved) (triggers_of net u k (first_fits net u k h all)))

  some_union : (net : Net) (ts us : List Trigger) → triggers_fit net ts ≡ true → union ts us ≢ []
  some_union net [] us fit = absurd (cc fit)
  some_union net (t ∷ ts) us fit = λ none. absurd (cc (union_none (t ∷ ts) us none).0)

  -- the triggers that a close lists fit
  pub close_known : (k : Entry) (h : List Entry) (w s : ℕ) → AllFit net u (k ∷ h) → Fits (k ∷ h) → closes k.read.cause w s ≡ true → triggers_fit net (close_list rules net u h k w) ≡ true
  close_known k h w s all fits ends =
      let own = close_lists net h k.read.scope k.read.cause w s k.triggers fits.0 ends (triggers_of net u k (first_fits net u k h all)) in
      all_known net (union k.triggers (all_pending rules net u h w)) (some_union net k.triggers (all_pending rules net u h w) own)
      (λ t a. ⊎_elim (λ (here : Among t k.triggers). trigger_of net t k.triggers own here)
      (λ (there : Among t (all_pending rules net u h w)). lists_known h t (rest_fits net u k h all) (all_pending_listed rules net u h w t fits.1 there))
      (of_union t k.triggers (all_pending rules net u h w) a))
