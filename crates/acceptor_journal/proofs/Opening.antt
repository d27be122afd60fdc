-- Opening a file.
use Rattle.std.proofs.Common.{ℕ, ◌≡◌, List, [], ◌∷◌, Result, Ok, Err, IsErr, IsErrAnd, refl, sym, ap, ◌∙◌, subst}
use Rattle.std.specs.Result.{IsErrOf}
use Rattle.route_io.specs.Causes.{RoseIf}
use Rattle.acceptor_journal.specs.Views.{Opened, DiskView}
use Rattle.acceptor_journal.specs.Images.{LeavesNow}
use Rattle.acceptor_journal.specs.Disks.{Fails, opened, synced}
use Rattle.acceptor_journal.specs.Ends.{end_of}
use Rattle.acceptor_journal.specs.Journals.{Opens, at_start}
use Rattle.acceptor_journal.specs.Parts.{ActsWithin, Looks, LooksUp}
use Rattle.acceptor_journal.specs.Places.{Place}
use Rattle.acceptor_journal.specs.declared.disk.DiskEnd.{DiskEnd}
use Rattle.acceptor_journal.specs.declared.disk.DiskEnd.TheVariants as disk
use Rattle.acceptor_journal.specs.declared.journal.JournalEnd.{JournalEnd}
use Rattle.acceptor_journal.specs.declared.journal.JournalEnd.TheVariants.{Fault, Full}
use Rattle.acceptor_journal.proofs.DiskCalls.{goes_wrong, goes_wrong_at, goes_then, goes_synced, looks, opened_leaves, opened_moments}
use Rattle.acceptor_journal.proofs.Telling.{keeps_opened}

-- ---- how an end is passed on

pub is_fault : {T : Type 0} (why : DiskEnd) (end : JournalEnd) → end ≡ end_of why → IsErrOf {T = T} (Err end) Fault → why ≡ disk.Failed
is_fault disk.Failed end is e = refl
is_fault disk.NoMemory end is e = absurd (cc (is, e))

pub fault_is : {T : Type 0} (why : DiskEnd) (end : JournalEnd) → end ≡ end_of why → why ≡ disk.Failed → IsErrOf {T = T} (Err end) Fault
fault_is disk.Failed end is e = ap Err is
fault_is disk.NoMemory end is e = absurd (cc e)

pub never_full : {T : Type 0} (why : DiskEnd) (end : JournalEnd) → end ≡ end_of why → ¬ IsErrOf {T = T} (Err end) Full
never_full disk.Failed end is e = absurd (cc (is, e))
never_full disk.NoMemory end is e = absurd (cc (is, e))

pub rose_so : (F G : Type 0) (before now : ℕ) → (F → G) → (G → F) → RoseIf F before now → RoseIf G before now
rose_so F G before now so back rose = record { later = rose.later; rose = λ g. rose.rose (back g); quiet = λ not. rose.quiet (λ f. not (so f)) }

-- ---- the call

opens_wrong : (name : List ℕ) (why : DiskEnd) (end : JournalEnd) (old new : DiskView) → end ≡ end_of why → ActsWithin old new old (why ≡ disk.Failed) → Opens name old (Err end) new
opens_wrong name why end old new is effect = record {
  ok = λ reader e. absurd (cc e);
  moments = effect.moments;
  telling = effect.telling;
  not_full = never_full why end is;
  fault = rose_so (why ≡ disk.Failed) (IsErrOf {T = Place} (Err end) Fault) old.faults new.faults (fault_is why end is) (is_fault why end is) effect.fault;
}

pub opens_not_opened : (name : List ℕ) (why : DiskEnd) (end : JournalEnd) (old new : DiskView) → end ≡ end_of why → (IsErrOf {T = Unit {0}} (Err why) disk.Failed → Fails (Opened name ∷ []) old new)
    → (IsErrOf {T = Unit {0}} (Err why) disk.NoMemory → new ≡ old) → Opens name old (Err end) new
opens_not_opened name why end old new is failed none =
    opens_wrong name why end old new is (goes_wrong_at why (Opened name) old new old (why ≡ disk.Failed) (λ e. e) (λ is e. absurd (cc (is, e))) (λ image left. left)
    (λ image behind left. opened_leaves name old image (left.0, sym behind ∙ left.1, left.2)) (λ e. failed (ap Err e)) (λ e. none (ap Err e)))

pub opens_not_synced : (name : List ℕ) (why : DiskEnd) (end : JournalEnd) (old mid new : DiskView) → end ≡ end_of why → mid ≡ opened name old → (IsErrOf {T = Unit {0}} (Err why) disk.Failed → Fails [] mid new)
    → (IsErrOf {T = Unit {0}} (Err why) disk.NoMemory → new ≡ mid) → Opens name old (Err end) new
opens_not_synced name why end old mid new is was failed none =
    opens_wrong name why end old new is (goes_then old mid new old (why ≡ disk.Failed) (λ reads. rw was (opened_moments name old)) (rw was (keeps_opened name old)) (ap (λ (v : DiskView). v.faults) was)
    (goes_wrong why mid new old (why ≡ disk.Failed) (λ e. e) (λ is e. absurd (cc (is, e))) (λ image left. opened_leaves name old image (subst (λ v. LeavesNow v image) was left)) (λ e. failed (ap Err e)) (λ e. none (ap Err e))))

pub opens : (name : List ℕ) (old mid new : DiskView) → mid ≡ opened name old → new ≡ synced mid → Opens name old (Ok at_start) new
opens name old mid new was done =
    let goes : ActsWithin old new old ⊥ = goes_then old mid new old ⊥ (λ reads. rw was (opened_moments name old)) (rw was (keeps_opened name old)) (ap (λ (v : DiskView). v.faults) was)
    (goes_synced mid new old ⊥ done (λ none. none) (λ image left. opened_leaves name old image (subst (λ v. LeavesNow v image) was left))) in
    record {
      ok = λ reader e. (cc e, done ∙ ap synced was);
      moments = goes.moments;
      telling = goes.telling;
      not_full = λ e. absurd (cc e);
      fault = rose_so ⊥ (IsErrOf {T = Place} (Ok at_start) Fault) old.faults new.faults (λ none. absurd none) (λ e. absurd (cc e)) goes.fault;
    }

-- ---- calls that only look, as calls of a journal

pub end_is : {T : Type 0} (r : Result T JournalEnd) (why : DiskEnd) → IsErr r × IsErrAnd r (λ end. end ≡ end_of why) → r ≡ Err (end_of why)
end_is (Ok x) why h = absurd (cc h.0)
end_is (Err y) why h = ap Err h.1

pub looks_up_on : {T S : Type 0} (r : Result T JournalEnd) (why : DiskEnd) (old mid new : DiskView) → mid ≡ old → IsErr r × IsErrAnd r (λ end. end ≡ end_of why) → Looks {T = S} mid (Err why) new → LooksUp old r new
looks_up_on {T = T} {S = S} r why old mid new same h was =
    subst (λ (x : Result T JournalEnd). LooksUp old x new) (sym (end_is r why h)) (subst (λ (v : DiskView). LooksUp {T = T} v (Err (end_of why)) new) same (record {
      ok = λ is. absurd (cc is);
      not_full = never_full why (end_of why) refl;
      effect = record {
        moments = was.effect.moments;
        telling = was.effect.telling;
        fault = rose_so (IsErrOf {T = S} (Err why) disk.Failed) (IsErrOf {T = T} (Err (end_of why)) Fault) mid.faults new.faults (λ e. fault_is why (end_of why) refl (failed_is e))
            (λ e. ap Err (is_fault why (end_of why) refl e)) was.effect.fault;
      };
    }))
  where
    failed_is : IsErrOf {T = S} (Err why) disk.Failed → why ≡ disk.Failed
    failed_is e = cc e

pub end_rose : {T S : Type 0} (why : DiskEnd) (before now : ℕ) → RoseIf (IsErrOf {T = T} (Err why) disk.Failed) before now → RoseIf (IsErrOf {T = S} (Err (end_of why)) Fault) before now
end_rose {T = T} {S = S} why before now rose =
    rose_so (IsErrOf {T = T} (Err why) disk.Failed) (IsErrOf {T = S} (Err (end_of why)) Fault) before now (λ e. fault_is why (end_of why) refl (failed_is e)) (λ e. ap Err (is_fault why (end_of why) refl e)) rose
  where
    failed_is : IsErrOf {T = T} (Err why) disk.Failed → why ≡ disk.Failed
    failed_is e = cc e

-- a disk call that failed after one that only looked
pub looks_up_from : {T S : Type 0} (r : Result T JournalEnd) (why : DiskEnd) (old mid new : DiskView) → mid ≡ old → IsErr r × IsErrAnd r (λ end. end ≡ end_of why)
    → (IsErrOf {T = S} (Err why) disk.Failed → Fails [] mid new) → (IsErrOf {T = S} (Err why) disk.NoMemory → new ≡ mid) → LooksUp old r new
looks_up_from {S = S} r why old mid new same h failed none = looks_up_on {S = S} r why old mid new same h (looks (Err why) mid new tt failed none)

-- what holds of the end that is passed on holds of the answer
pub opens_err : (name : List ℕ) (r : Result Place JournalEnd) (why : DiskEnd) (old new : DiskView) → IsErr r × IsErrAnd r (λ end. end ≡ end_of why) → Opens name old (Err (end_of why)) new → Opens name old r new
opens_err name r why old new h was = subst (λ (x : Result Place JournalEnd). Opens name old x new) (sym (end_is r why h)) was
