-- Entries, openings and cuts of a node keep that every fact fits.
use Rattle.std.proofs.Common.{ℕ, suc, ◌≤◌, true, false, cond, ◌&&◌, ◌==◌, List, [], ◌∷◌, ◌≡◌, refl, arith, length}
use Rattle.std.specs.Prelude.{nat_le}
use Rattle.std.specs.List.{list_all}
use Rattle.topology.specs.declared.names.Scope.{Scope}
use Rattle.topology.specs.declared.names.Scope.TheVariants.{One, All, Nothing}
use Rattle.topology.specs.Lists.{has, ascending}
use Rattle.topology.specs.Net.{Net, IsValid, neighbours}
use Rattle.topology.proofs.Tests.{and_left, and_right, and_both, same_refl}
use Rattle.path_vector.specs.declared.causes.Cause.{Cause}
use Rattle.path_vector.specs.declared.causes.Cause.TheVariants as cause
use Rattle.path_vector.specs.Rules.{Rules}
use Rattle.path_vector.specs.History.{held}
use Rattle.trigger_log.specs.Entries.{Entry, reads, local, locals, is_local, next_trigger}
use Rattle.trigger_log.specs.Fits.{Fits, ListsFor}
use Rattle.trigger_log.specs.Going.{Marker, Hello, Going, going_by}
use Rattle.consolidator.specs.Messages.{Reports}
use Rattle.epoch_report.specs.Trimming.{trimmed_report}
use Rattle.chronicle.specs.Facts.{Chronicle, Log, Sent, Raise, happen}
use Rattle.chronicle.specs.Logs.{log_of}
use Rattle.chronicle.specs.Drops.{dropped, kept_log}
use Rattle.chronicle.specs.Epochs.{epoch}
use Rattle.chronicle.specs.Steps.{Carried, sends, write, open_session, markers, take_cut, reporting, raise}
use Rattle.message_fitting.specs.ControlFits.{epoch_fits, row_lists_fit, scope_fits, message_fits}
use Rattle.message_fitting.specs.Names.{is_number, trigger_fits}
use Rattle.topology.specs.declared.limits.TheConstants.{MOST_ENTRIES, MOST_EPOCHS}
use Rattle.admission_laws.specs.Handing.{is_short}
use Rattle.admission_laws.proofs.Facts.{cause_fits, entry_fits, AllFacts}
use Rattle.admission_laws.proofs.Each.{each_map}
use Rattle.admission_laws.proofs.Bounds.{number_is, most_is, Within, Reportable}
use Rattle.admission_laws.proofs.Sessions.{held_number}
use Rattle.admission_laws.proofs.Items.{going_fits, spread_fits, entry_goes}
use Rattle.admission_laws.proofs.ReportsFit.{report_is, report_short}
use Rattle.admission_laws.proofs.Logs.{log_fits, epoch_low}
use Rattle.admission_laws.proofs.Replying.{one_more, mails_more}
use Rattle.admission_laws.proofs.Saying.{mail_fits, consolidators_known}
use Rattle.admission_laws.proofs.Values.{one_of}

-- a log has no more local entries than entries
locals_few : (h : List Entry) → locals h ≤ length h
locals_few [] = omega arith
locals_few (k ∷ h) =
    let before = locals_few h in
    elim (is_local k.read.cause) as (λ b. cond b (suc (locals h)) (locals h) ≤ suc (length h)) [ true ↦ omega arith | false ↦ omega arith ]

-- a local entry fits, if its cause fits
pub local_is : (net : Net) (u : ℕ) (h : List Entry) (scope : Scope) (cause : Cause) → has net.nodes u ≡ true → length h ≤ MOST_ENTRIES → ListsFor scope (next_trigger u h ∷ []) → scope_fits net scope ≡ true → cause_fits net u cause ≡ true
    → entry_fits net u (local u h scope cause) ≡ true
local_is net u h scope cause own few concerning scoped fits =
    and_both (row_lists_fit net scope (next_trigger u h ∷ [])) (scope_fits net scope && cause_fits net u cause)
    (own_list scope concerning (and_both (has net.nodes u) (is_number (suc (locals h))) own (number_is (suc (locals h)) (omega arith) (let less = locals_few h in omega arith))))
    (and_both (scope_fits net scope) (cause_fits net u cause) scoped fits)
  where
    own_list : (scope : Scope) → ListsFor scope (next_trigger u h ∷ []) → trigger_fits net (next_trigger u h) ≡ true → row_lists_fit net scope (next_trigger u h ∷ []) ≡ true
    own_list (One p) lists fit = fit
    own_list All lists fit = fit
    own_list Nothing lists fit = absurd (cc lists)

module _ (net : Net) (u : ℕ) where
  -- all facts fit after items that fit are sent
  sends_fit : (carried : Carried) (gs : List Going) (now : Chronicle) → list_all (going_fits net u) gs ≡ true → AllFacts net u now → AllFacts net u (happen now (sends carried u gs))
  sends_fit carried [] now fits all = all
  sends_fit carried (g ∷ gs) now fits all =
      let f = Sent u g.to g.session g.item (carried g.to g.session) in
      sends_fit carried gs (f ∷ now) (and_right (going_fits net u g) (list_all (going_fits net u) gs) fits)
      (one_more net u f now (and_both (u == u) (going_fits net u g) (same_refl u) (and_left (going_fits net u g) (list_all (going_fits net u) gs) fits)) all)

module _ (rules : Rules) (net : Net) (u : ℕ) (valid : IsValid net) (own : has net.nodes u ≡ true) (carried : Carried) where
  -- all facts fit after an entry that fits, with what goes out
  pub write_fits : (k : Entry) (past : Chronicle) → AllFacts net u past → entry_fits net u k ≡ true → Fits (k ∷ log_of u past)
      → Within rules net u (k ∷ log_of u past) → AllFacts net u (write rules net carried u k past)
  unfolding write
  write_fits k past all fits fitting few =
      let h = log_of u past in
      let log = and_both (entry_fits net u k) (list_all (entry_fits net u) h) fits (log_fits net u past all) in
      sends_fit net u carried (going_by rules net u h k) (Log u k ∷ past) (entry_goes rules net u valid own k h log fitting few)
      (one_more net u (Log u k) past (and_both (u == u) (entry_fits net u k) (same_refl u) fits) all)

  -- all facts fit after a session is opened
  pub open_fits : (v s : ℕ) (past : Chronicle) → AllFacts net u past → has (neighbours net u) v ≡ true → is_number s ≡ true
      → length (log_of u past) ≤ MOST_ENTRIES → AllFacts net u (open_session carried u v s past)
  unfolding open_session
  open_fits v s past all near number few =
      let k = local u (log_of u past) All (cause.Up v s) in
      let g : Going = record { to = v; session = s; item = Hello (epoch u past) } in
      let entry = local_is net u (log_of u past) All (cause.Up v s) own few (λ none. absurd (cc none)) refl (and_both (has (neighbours net u) v) (is_number s) near number) in
      let greeting =
      and_both (has (neighbours net u) v) (is_number s && nat_le (epoch u past) MOST_EPOCHS) near
      (and_both (is_number s) (nat_le (epoch u past) MOST_EPOCHS) number (most_is (epoch u past) MOST_EPOCHS (epoch_low net u past all))) in
      sends_fit net u carried (g ∷ []) (Log u k ∷ past) (and_both (going_fits net u g) true greeting refl)
      (one_more net u (Log u k) past (and_both (u == u) (entry_fits net u k) (same_refl u) entry) all)

  -- all facts fit after an epoch rises and the cut is reported
  pub raise_fits : (e : ℕ) (past : Chronicle) → AllFacts net u past → epoch_fits e ≡ true → Fits (log_of u past)
      → Within rules net u (log_of u past) → Reportable rules net u (log_of u past) → AllFacts net u (raise rules net carried u e past)
  unfolding raise take_cut
  raise_fits e past all fits fitting few listed =
      let h = log_of u past in
      let log = log_fits net u past all in
      let marks = spread_fits net u (held (reads h)) (λ w s. Marker e ∷ []) (λ w s near holds. (held_number net u h w s log holds, and_both (epoch_fits e) true fits refl)) in
      let cut = sends_fit net u carried (markers net u e h) (Raise u e ∷ past) marks (one_more net u (Raise u e) past (and_both (u == u) (epoch_fits e) (same_refl u) fits) all) in
      let report = trimmed_report rules net u e (kept_log net u past) in
      let n = dropped net u past in
      mails_more net u (reporting rules net u e (kept_log net u past)) (take_cut net carried u e past)
      (each_map (mail_fits net u) (λ c. (c, Reports report)) (ascending net.consolidators)
      (λ c there. and_both (has net.nodes c) (message_fits net u (Reports report) && is_short (Reports report))
      (one_of (has net.nodes) (ascending net.consolidators) c (consolidators_known net valid) there)
      (and_both (message_fits net u (Reports report)) (is_short (Reports report))
      (report_is rules net u valid own e n h fits log fitting few listed) (report_short rules net u valid own e n h few)))) cut
