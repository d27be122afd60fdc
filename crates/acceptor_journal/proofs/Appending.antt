-- Appending a record, call by call.
use Rattle.std.proofs.Common.{ℕ, ◌+◌, ◌≤◌, ◌<◌, ◌≡◌, inl, List, [], ◌∷◌, ◌++◌, length, take, Some, option_map, Result, Ok, Err, IsErr, IsErrAnd, refl, sym, ap, ◌∙◌, subst, arith}
use Rattle.std.specs.Result.{IsErrOf}
use Rattle.route_io.specs.Causes.{RoseIf}
use Rattle.acceptor_journal.specs.Views.{DiskView}
use Rattle.acceptor_journal.specs.Images.{LeavesNow, LeavesOnly, IsDurable}
use Rattle.acceptor_journal.specs.Disks.{synced, written, overlaid}
use Rattle.acceptor_journal.specs.Ends.{end_of}
use Rattle.acceptor_journal.specs.Records.{body}
use Rattle.acceptor_journal.specs.Journals.{KeepsTelling, Appends, IsMidway, with_record}
use Rattle.acceptor_journal.specs.Parts.{ActsWithin, Rewrites}
use Rattle.acceptor_journal.specs.declared.disk.DiskEnd.{DiskEnd}
use Rattle.acceptor_journal.specs.declared.disk.DiskEnd.TheVariants as disk
use Rattle.acceptor_journal.specs.declared.journal.JournalEnd.{JournalEnd}
use Rattle.acceptor_journal.specs.declared.journal.JournalEnd.TheVariants.{NoMemory, Fault, Full}
use Rattle.acceptor_journal.specs.declared.journal.TheConstants.{MOST_JOURNAL_BYTES}
use Rattle.acceptor_journal.proofs.Closing.{durable_reads, durable_left, durable_rewritten, torn_from, front_stays, rest_stays, opened_is}
use Rattle.acceptor_journal.proofs.DiskCalls.{rose_after, quiet_rose}
use Rattle.acceptor_journal.proofs.Moments.{started, weaker, goes_on}
use Rattle.acceptor_journal.proofs.Opening.{end_is, end_rose, never_full, rose_so}
use Rattle.acceptor_journal.proofs.Telling.{keeps_same, keeps_both}

module _ (at : ℕ) (bytes : List ℕ) (old : DiskView) where
  nothing_done : (file : List ℕ) → IsDurable old file → at < length file → LeavesOnly old old (IsMidway at bytes file)
  nothing_done file durable within = started old (IsMidway at bytes file) (λ image left. inl (ap (take (at + 1)) (durable_left old file image durable left)))

  pub appends_full : MOST_JOURNAL_BYTES < at + (6 + length bytes) → Appends at bytes old (Err Full) old
  appends_full beyond = record {
    place = λ gate is. absurd (cc is);
    does = λ gate is. absurd (cc is);
    content = λ gate is. absurd (cc is);
    ok = λ gate is. absurd (cc is);
    moments = nothing_done;
    full = (λ e. beyond, λ e. refl);
    full_same = λ e. refl;
    telling = keeps_same old old refl;
    fault = quiet_rose (IsErrOf {T = ℕ} (Err Full) Fault) old.faults old.faults refl (λ e. absurd (cc e));
  }

  pub appends_unmade : at + (6 + length bytes) ≤ MOST_JOURNAL_BYTES → Appends at bytes old (Err NoMemory) old
  appends_unmade fits = record {
    place = λ gate is. absurd (cc is);
    does = λ gate is. absurd (cc is);
    content = λ gate is. absurd (cc is);
    ok = λ gate is. absurd (cc is);
    moments = nothing_done;
    full = (λ e. absurd (cc e), λ beyond. absurd (omega (arith, beyond, fits)));
    full_same = λ e. refl;
    telling = keeps_same old old refl;
    fault = quiet_rose (IsErrOf {T = ℕ} (Err NoMemory) Fault) old.faults old.faults refl (λ e. absurd (cc e));
  }

  appends_failed : {T : Type 0} (new : DiskView) (why : DiskEnd) (r : Result ℕ JournalEnd) → at + (6 + length bytes) ≤ MOST_JOURNAL_BYTES → IsErr r × IsErrAnd r (λ end. end ≡ end_of why)
      → ((file : List ℕ) → IsDurable old file → at < length file → LeavesOnly old new (IsMidway at bytes file)) → KeepsTelling old new → RoseIf (IsErrOf {T = T} (Err why) disk.Failed) old.faults new.faults
      → Appends at bytes old r new
  appends_failed {T = T} new why r fits h moments telling fault =
      subst (λ (x : Result ℕ JournalEnd). Appends at bytes old x new) (sym (end_is r why h)) (record {
        place = λ gate is. absurd (cc is);
        does = λ gate is. absurd (cc is);
        content = λ gate is. absurd (cc is);
        ok = λ gate is. absurd (cc is);
        moments = moments;
        full = (λ e. absurd (never_full why (end_of why) refl e), λ beyond. absurd (omega (arith, beyond, fits)));
        full_same = λ e. absurd (never_full why (end_of why) refl e);
        telling = telling;
        fault = end_rose {T = T} {S = ℕ} why old.faults new.faults fault;
      })

  staging_moments : (new : DiskView) (F : Type 0) → ActsWithin old new (written (at + 1) (body bytes ++ 0 ∷ []) old) F → (file : List ℕ) → IsDurable old file → at < length file → LeavesOnly old new (IsMidway at bytes file)
  staging_moments new F goes file durable within =
      weaker old new (LeavesNow (written (at + 1) (body bytes ++ 0 ∷ []) old)) (IsMidway at bytes file)
      (λ image left. front_stays at bytes file within image (torn_from old file (at + 1) (body bytes ++ 0 ∷ []) image durable left)) (goes.moments (durable_reads old file durable))

  -- the record was not written
  pub appends_unstaged : {T : Type 0} (new : DiskView) (why : DiskEnd) (r : Result ℕ JournalEnd) → at + (6 + length bytes) ≤ MOST_JOURNAL_BYTES → IsErr r × IsErrAnd r (λ end. end ≡ end_of why)
      → Rewrites {T = T} (at + 1) (body bytes ++ 0 ∷ []) old (Err why) new → Appends at bytes old r new
  appends_unstaged {T = T} new why r fits h wrote =
      appends_failed {T = T} new why r fits h (staging_moments new (IsErrOf {T = T} (Err why) disk.Failed) wrote.effect) wrote.effect.telling wrote.effect.fault

  module _ {T : Type 0} (x : T) (mid : DiskView) (staged : Rewrites {T = T} (at + 1) (body bytes ++ 0 ∷ []) old (Ok x) mid) where
    staged_content : (file : List ℕ) → old.content ≡ Some file → mid.content ≡ Some (overlaid file (at + 1) (body bytes ++ 0 ∷ []))
    staged_content file told = ap (λ (v : DiskView). v.content) (staged.ok refl) ∙ ap (option_map (λ before. overlaid before (at + 1) (body bytes ++ 0 ∷ []))) told

    staged_durable : (file : List ℕ) → IsDurable old file → IsDurable mid (overlaid file (at + 1) (body bytes ++ 0 ∷ []))
    staged_durable file durable = subst (λ v. IsDurable v (overlaid file (at + 1) (body bytes ++ 0 ∷ []))) (sym (staged.ok refl)) (durable_rewritten old file (at + 1) (body bytes ++ 0 ∷ []) durable)

    opening_moments : (new : DiskView) (F : Type 0) → ActsWithin mid new (written at (1 ∷ []) mid) F → (file : List ℕ) → IsDurable old file → at < length file → LeavesOnly old new (IsMidway at bytes file)
    opening_moments new F goes file durable within =
        let then_durable = staged_durable file durable in
        goes_on old mid new (IsMidway at bytes file) (staging_moments mid (IsErrOf {T = T} (Ok x) disk.Failed) staged.effect file durable within)
        (weaker mid new (LeavesNow (written at (1 ∷ []) mid)) (IsMidway at bytes file)
        (λ image left. rest_stays at bytes file within image (torn_from mid (overlaid file (at + 1) (body bytes ++ 0 ∷ [])) at (1 ∷ []) image then_durable left))
        (goes.moments (durable_reads mid (overlaid file (at + 1) (body bytes ++ 0 ∷ [])) then_durable)))

    quiet : mid.faults ≡ old.faults
    quiet = ap (λ (v : DiskView). v.faults) (staged.ok refl)

    -- the gate was not opened
    pub appends_unopened : {S : Type 0} (new : DiskView) (why : DiskEnd) (r : Result ℕ JournalEnd) → at + (6 + length bytes) ≤ MOST_JOURNAL_BYTES → IsErr r × IsErrAnd r (λ end. end ≡ end_of why)
        → Rewrites {T = S} at (1 ∷ []) mid (Err why) new → Appends at bytes old r new
    appends_unopened {S = S} new why r fits h wrote =
        appends_failed {T = S} new why r fits h (opening_moments new (IsErrOf {T = S} (Err why) disk.Failed) wrote.effect) (keeps_both old mid new staged.effect.telling wrote.effect.telling)
        (rose_after (IsErrOf {T = S} (Err why) disk.Failed) old.faults mid.faults new.faults quiet wrote.effect.fault)

    pub appends : {S : Type 0} (y : S) (new : DiskView) → at + (6 + length bytes) ≤ MOST_JOURNAL_BYTES → Rewrites {T = S} at (1 ∷ []) mid (Ok y) new → Appends at bytes old (Ok (at + (5 + length bytes))) new
    appends {S = S} y new fits wrote = record {
      place = λ gate is. cc (sym is);
      does = λ gate is. wrote.ok refl ∙ ap (λ v. synced (written at (1 ∷ []) v)) (staged.ok refl);
      content = λ gate is file told within.
          ap (λ (v : DiskView). v.content) (wrote.ok refl) ∙ (ap (option_map (λ before. overlaid before at (1 ∷ []))) (staged_content file told) ∙ ap (λ (l : List ℕ). Some l) (opened_is at bytes file within));
      ok = λ gate is file durable within.
          subst (λ v. IsDurable v (with_record 1 at bytes file)) (sym (wrote.ok refl)) (subst (IsDurable (synced (written at (1 ∷ []) mid))) (opened_is at bytes file within)
          (durable_rewritten mid (overlaid file (at + 1) (body bytes ++ 0 ∷ [])) at (1 ∷ []) (staged_durable file durable)));
      moments = opening_moments new (IsErrOf {T = S} (Ok y) disk.Failed) wrote.effect;
      full = (λ e. absurd (cc e), λ beyond. absurd (omega (arith, beyond, fits)));
      full_same = λ e. absurd (cc e);
      telling = keeps_both old mid new staged.effect.telling wrote.effect.telling;
      fault = rose_so (IsErrOf {T = S} (Ok y) disk.Failed) (IsErrOf {T = ℕ} (Ok (at + (5 + length bytes))) Fault) old.faults new.faults (λ e. absurd (cc e)) (λ e. absurd (cc e))
          (rose_after (IsErrOf {T = S} (Ok y) disk.Failed) old.faults mid.faults new.faults quiet wrote.effect.fault);
    }

-- the same piece by another name
pub rewrites_as : {T : Type 0} (at : ℕ) (piece other : List ℕ) (old : DiskView) (r : Result T DiskEnd) (new : DiskView) → piece ≡ other → Rewrites at piece old r new → Rewrites at other old r new
rewrites_as at piece other old r new same was = subst (λ (l : List ℕ). Rewrites at l old r new) same was
