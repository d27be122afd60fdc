-- The effects of a disk's calls, as parts of longer calls.
use Rattle.std.proofs.Common.{ℕ, ◌≡◌, Option, Some, None, List, [], ◌∷◌, Result, Ok, Err, IsErr, IsErrAnd, OnOk, refl, sym, ap, ◌∙◌, subst, arith, option_map}
use Rattle.std.specs.Result.{IsErrOf}
use Rattle.route_io.specs.Causes.{RoseIf}
use Rattle.acceptor_journal.specs.Views.{DiskAct, Opened, Wrote, Settled, DiskView}
use Rattle.acceptor_journal.specs.Images.{MayLeave, LeavesNow, LeavesOnly, ReadsAnImage}
use Rattle.acceptor_journal.specs.Disks.{Fails, opened, synced, written}
use Rattle.acceptor_journal.specs.Journals.{KeepsTelling}
use Rattle.acceptor_journal.specs.Parts.{ActsWithin, Looks, Rewrites}
use Rattle.acceptor_journal.specs.declared.disk.DiskEnd.{DiskEnd}
use Rattle.acceptor_journal.specs.declared.disk.DiskEnd.TheVariants.{Failed, NoMemory}
use Rattle.acceptor_journal.proofs.Images.{opened_left, settled_left, wrote_may}
use Rattle.acceptor_journal.proofs.Moments.{goes_on, one_act, no_act, none_behind}
use Rattle.acceptor_journal.proofs.Telling.{keeps_same, keeps_both, keeps_failed, keeps_written, keeps_synced}

-- ---- counts

pub quiet_rose : (F : Type 0) (before now : ℕ) → now ≡ before → ¬ F → RoseIf F before now
quiet_rose F before now same not = subst (λ n. RoseIf F before n) (sym same) (record { later = omega arith; rose = λ f. absurd (not f); quiet = λ none. refl })

pub rose_after : (F : Type 0) (before mid now : ℕ) → mid ≡ before → RoseIf F mid now → RoseIf F before now
rose_after F before mid now same rose = subst (λ n. RoseIf F n now) same rose

-- ---- files that may be left

-- one more act, as a view tells it
acts_left : (act : DiskAct) (acts : Option (List DiskAct)) (now : List DiskAct) → option_map (λ before. act ∷ before) acts ≡ Some now → (before : List DiskAct) × (acts ≡ Some before) × (now ≡ act ∷ before)
acts_left act None now is = absurd (cc is)
acts_left act (Some before) now is = (before, refl, cc is)

pub opened_leaves : (name : List ℕ) (old : DiskView) (image : List ℕ) → LeavesNow (opened name old) image → LeavesNow old image
opened_leaves name old image left =
    let act = acts_left (Opened name) old.acts left.0 left.1 in
    (act.0, act.1, opened_left name act.0 image (subst (λ l. MayLeave l image) act.2 left.2))

pub written_leaves : (at : ℕ) (piece : List ℕ) (old : DiskView) (image : List ℕ) → LeavesNow old image → LeavesNow (written at piece old) image
written_leaves at piece old image left =
    (Wrote at piece ∷ left.0, ap (option_map (λ before. Wrote at piece ∷ before)) left.1, wrote_may at piece left.0 image left.2)

synced_left : (content : Option (List ℕ)) (acts : Option (List DiskAct)) (faults : ℕ) (image : List ℕ) → ReadsAnImage (record { content = content; acts = acts; faults = faults })
    → LeavesNow (synced (record { content = content; acts = acts; faults = faults })) image → LeavesNow (record { content = content; acts = acts; faults = faults }) image
synced_left content None faults image reads left = absurd (cc left.1)
synced_left None (Some before) faults image reads left = left
synced_left (Some file) (Some before) faults image reads left =
    let acts : left.0 ≡ Settled file ∷ before = cc left.1 in
    let same = settled_left file before image (subst (λ l. MayLeave l image) acts left.2) in
    (before, refl, subst (λ f. MayLeave before f) (sym same) (reads before file refl refl))

pub synced_leaves : (old : DiskView) (image : List ℕ) → ReadsAnImage old → LeavesNow (synced old) image → LeavesNow old image
synced_leaves old image reads left = synced_left old.content old.acts old.faults image reads left

-- ---- a step of a disk

synced_acts : (content : Option (List ℕ)) (acts : Option (List DiskAct)) (faults : ℕ) (P : List ℕ → Type 0)
    → ((image : List ℕ) → LeavesNow (record { content = content; acts = acts; faults = faults }) image → P image)
    → ((image : List ℕ) → LeavesNow (synced (record { content = content; acts = acts; faults = faults })) image → P image)
    → LeavesOnly (record { content = content; acts = acts; faults = faults }) (synced (record { content = content; acts = acts; faults = faults })) P
synced_acts None None faults P was is = no_act _ _ P refl was
synced_acts None (Some before) faults P was is = no_act _ _ P refl was
synced_acts (Some file) acts faults P was is = one_act _ _ (Settled file) P refl was is

pub synced_moments : (old : DiskView) (P : List ℕ → Type 0) → ReadsAnImage old → ((image : List ℕ) → LeavesNow old image → P image) → LeavesOnly old (synced old) P
synced_moments old P reads was = synced_acts old.content old.acts old.faults P was (λ image left. was image (synced_leaves old image reads left))

pub opened_moments : (name : List ℕ) (old : DiskView) → LeavesOnly old (opened name old) (LeavesNow old)
opened_moments name old = one_act old (opened name old) (Opened name) (LeavesNow old) refl (λ image left. left) (opened_leaves name old)

pub written_moments : (at : ℕ) (piece : List ℕ) (old : DiskView) → LeavesOnly old (written at piece old) (LeavesNow (written at piece old))
written_moments at piece old = one_act old (written at piece old) (Wrote at piece) (LeavesNow (written at piece old)) refl (written_leaves at piece old) (λ image left. left)

-- ---- calls that end

-- a call that failed without an act, or for want of memory
pub goes_wrong : (why : DiskEnd) (old new w : DiskView) (F : Type 0) → (why ≡ Failed → F) → (why ≡ NoMemory → ¬ F) → ((image : List ℕ) → LeavesNow old image → LeavesNow w image)
    → (why ≡ Failed → Fails [] old new) → (why ≡ NoMemory → new ≡ old) → ActsWithin old new w F
goes_wrong Failed old new w F so not into failed none =
    let f = failed refl in
    record {
      moments = λ reads. no_act old new (LeavesNow w) (f.behind ∙ none_behind old.acts) into;
      telling = keeps_failed [] old new f;
      fault = record { later = f.later; rose = λ so. f.rose; quiet = λ never. absurd (never (so refl)) };
    }
goes_wrong NoMemory old new w F so not into failed none =
    let same = none refl in
    record {
      moments = λ reads. no_act old new (LeavesNow w) (ap (λ (v : DiskView). v.acts) same) into;
      telling = keeps_same old new same;
      fault = quiet_rose F old.faults new.faults (ap (λ (v : DiskView). v.faults) same) (not refl);
    }

-- the same, if it should have made an act
pub goes_wrong_at : (why : DiskEnd) (act : DiskAct) (old new w : DiskView) (F : Type 0) → (why ≡ Failed → F) → (why ≡ NoMemory → ¬ F) → ((image : List ℕ) → LeavesNow old image → LeavesNow w image)
    → ((image : List ℕ) → new.acts ≡ option_map (λ before. act ∷ before) old.acts → LeavesNow new image → LeavesNow w image)
    → (why ≡ Failed → Fails (act ∷ []) old new) → (why ≡ NoMemory → new ≡ old) → ActsWithin old new w F
goes_wrong_at Failed act old new w F so not into onto failed none =
    let f = failed refl in
    record {
      moments = λ reads. one_act old new act (LeavesNow w) f.behind into (λ image left. onto image f.behind left);
      telling = keeps_failed (act ∷ []) old new f;
      fault = record { later = f.later; rose = λ so. f.rose; quiet = λ never. absurd (never (so refl)) };
    }
goes_wrong_at NoMemory act old new w F so not into onto failed none =
    let same = none refl in
    record {
      moments = λ reads. no_act old new (LeavesNow w) (ap (λ (v : DiskView). v.acts) same) into;
      telling = keeps_same old new same;
      fault = quiet_rose F old.faults new.faults (ap (λ (v : DiskView). v.faults) same) (not refl);
    }

-- a part that succeeded, and then another
pub goes_then : (old mid new w : DiskView) (F : Type 0) → (ReadsAnImage old → LeavesOnly old mid (LeavesNow w)) → KeepsTelling old mid → mid.faults ≡ old.faults → ActsWithin mid new w F → ActsWithin old new w F
goes_then old mid new w F first telling quiet second = record {
  moments = λ reads. goes_on old mid new (LeavesNow w) (first reads) (second.moments (telling.reads reads));
  telling = keeps_both old mid new telling second.telling;
  fault = rose_after F old.faults mid.faults new.faults quiet second.fault;
}

-- nothing was done
pub goes_nowhere : (old new w : DiskView) (F : Type 0) → new ≡ old → ¬ F → ((image : List ℕ) → LeavesNow old image → LeavesNow w image) → ActsWithin old new w F
goes_nowhere old new w F same not into = record {
  moments = λ reads. no_act old new (LeavesNow w) (ap (λ (v : DiskView). v.acts) same) into;
  telling = keeps_same old new same;
  fault = quiet_rose F old.faults new.faults (ap (λ (v : DiskView). v.faults) same) not;
}

-- ---- calls that only look

pub looks : {T : Type 0} (r : Result T DiskEnd) (old new : DiskView) → OnOk r (new ≡ old) → (IsErrOf r Failed → Fails [] old new) → (IsErrOf r NoMemory → new ≡ old) → Looks old r new
looks (Ok x) old new ok failed none = record { ok = λ is. ok; effect = goes_nowhere old new old _ ok (λ e. absurd (cc e)) (λ image left. left) }
looks {T = T} (Err why) old new ok failed none = record {
  ok = λ is. absurd (cc is);
  effect = goes_wrong why old new old (IsErrOf {T = T} (Err why) Failed) (λ e. ap Err e) (λ is e. absurd (cc (is, e))) (λ image left. left)
      (λ e. failed (ap Err e)) (λ e. none (ap Err e));
}

-- ---- a piece that is written and made durable

pub rewrites_not_written : {T : Type 0} (at : ℕ) (piece : List ℕ) (why : DiskEnd) (old new : DiskView) → (IsErrOf {T = T} (Err why) Failed → Fails (Wrote at piece ∷ []) old new) → (IsErrOf {T = T} (Err why) NoMemory → new ≡ old) → Rewrites {T = T} at piece old (Err why) new
rewrites_not_written {T = T} at piece why old new failed none = record {
  ok = λ is. absurd (cc is);
  effect = goes_wrong_at why (Wrote at piece) old new (written at piece old) (IsErrOf {T = T} (Err why) Failed) (λ e. ap Err e) (λ is e. absurd (cc (is, e))) (written_leaves at piece old)
      (λ image behind left. (left.0, sym behind ∙ left.1, left.2))
      (λ e. failed (ap Err e)) (λ e. none (ap Err e));
}

pub rewrites_not_synced : {T : Type 0} (at : ℕ) (piece : List ℕ) (why : DiskEnd) (old mid new : DiskView) → mid ≡ written at piece old → (IsErrOf {T = T} (Err why) Failed → Fails [] mid new) → (IsErrOf {T = T} (Err why) NoMemory → new ≡ mid) → Rewrites {T = T} at piece old (Err why) new
rewrites_not_synced {T = T} at piece why old mid new wrote failed none = record {
  ok = λ is. absurd (cc is);
  effect = subst (λ (w : DiskView). ActsWithin old new w (IsErrOf {T = T} (Err why) Failed)) wrote
      (goes_then old mid new mid (IsErrOf {T = T} (Err why) Failed) (λ reads. subst (λ (w : DiskView). LeavesOnly old w (LeavesNow w)) (sym wrote) (written_moments at piece old))
      (subst (λ (w : DiskView). KeepsTelling old w) (sym wrote) (keeps_written at piece old)) (ap (λ (v : DiskView). v.faults) wrote)
      (goes_wrong why mid new mid (IsErrOf {T = T} (Err why) Failed) (λ e. ap Err e) (λ is e. absurd (cc (is, e))) (λ image left. left) (λ e. failed (ap Err e)) (λ e. none (ap Err e))));
}

-- what was made durable
pub goes_synced : (old new w : DiskView) (F : Type 0) → new ≡ synced old → ¬ F → ((image : List ℕ) → LeavesNow old image → LeavesNow w image) → ActsWithin old new w F
goes_synced old new w F same not into = subst (λ (v : DiskView). ActsWithin old v w F) (sym same) (record {
  moments = λ reads. synced_moments old (LeavesNow w) reads into;
  telling = keeps_synced old;
  fault = quiet_rose F old.faults old.faults refl not;
})

pub rewrites : {T : Type 0} (at : ℕ) (piece : List ℕ) (x : T) (old mid new : DiskView) → mid ≡ written at piece old → new ≡ synced mid → Rewrites {T = T} at piece old (Ok x) new
rewrites {T = T} at piece x old mid new wrote done = record {
  ok = λ is. done ∙ ap synced wrote;
  effect = subst (λ (w : DiskView). ActsWithin old new w (IsErrOf {T = T} (Ok x) Failed)) wrote
      (goes_then old mid new mid (IsErrOf {T = T} (Ok x) Failed) (λ reads. subst (λ (w : DiskView). LeavesOnly old w (LeavesNow w)) (sym wrote) (written_moments at piece old))
      (subst (λ (w : DiskView). KeepsTelling old w) (sym wrote) (keeps_written at piece old)) (ap (λ (v : DiskView). v.faults) wrote)
      (goes_synced mid new mid (IsErrOf {T = T} (Ok x) Failed) done (λ e. absurd (cc e)) (λ image left. left)));
}

pub looked : {T : Type 0} (x : T) (old new : DiskView) → new ≡ old → Looks old (Ok x) new
looked x old new same = looks (Ok x) old new same (λ e. absurd (cc e)) (λ e. absurd (cc e))

-- ---- an end that is passed on

residual_is : {T E : Type 0} (r : Result T E) (e : E) → IsErr r × IsErrAnd r (λ x. x ≡ e) → r ≡ Err e
residual_is (Ok x) e h = absurd (cc h.0)
residual_is (Err y) e h = ap Err h.1

-- what holds of the end that is passed on holds of the answer
pub rewrites_err : {T : Type 0} (at : ℕ) (piece : List ℕ) (r : Result T DiskEnd) (why : DiskEnd) (old new : DiskView) → IsErr r × IsErrAnd r (λ x. x ≡ why) → Rewrites {T = T} at piece old (Err why) new → Rewrites at piece old r new
rewrites_err {T = T} at piece r why old new h was = subst (λ (x : Result T DiskEnd). Rewrites at piece old x new) (sym (residual_is r why h)) was

pub looks_from : {T S : Type 0} (r : Result T DiskEnd) (why : DiskEnd) (old new : DiskView) → IsErr r × IsErrAnd r (λ x. x ≡ why) → (IsErrOf {T = S} (Err why) Failed → Fails [] old new) → (IsErrOf {T = S} (Err why) NoMemory → new ≡ old) → Looks old r new
looks_from {T = T} {S = S} r why old new h failed none =
    subst (λ (x : Result T DiskEnd). Looks old x new) (sym (residual_is r why h)) (looks (Err why) old new tt (λ e. failed (end_same e)) (λ e. none (end_none e)))
  where
    end_same : IsErrOf {T = T} (Err why) Failed → IsErrOf {T = S} (Err why) Failed
    end_same e = let same : why ≡ Failed = cc e in ap Err same

    end_none : IsErrOf {T = T} (Err why) NoMemory → IsErrOf {T = S} (Err why) NoMemory
    end_none e = let same : why ≡ NoMemory = cc e in ap Err same

pub looks_on : {T S : Type 0} (r : Result T DiskEnd) (why : DiskEnd) (old mid new : DiskView) → mid ≡ old → IsErr r × IsErrAnd r (λ x. x ≡ why) → Looks {T = S} mid (Err why) new → Looks old r new
looks_on {T = T} {S = S} r why old mid new same h was =
    subst (λ (x : Result T DiskEnd). Looks old x new) (sym (residual_is r why h)) (subst (λ (v : DiskView). Looks {T = T} v (Err why) new) same (record {
      ok = λ is. absurd (cc is);
      effect = record {
        moments = was.effect.moments;
        telling = was.effect.telling;
        fault = record { later = was.effect.fault.later; rose = λ e. was.effect.fault.rose (there e); quiet = λ not. was.effect.fault.quiet (λ e. not (back e)) };
      };
    }))
  where
    there : IsErrOf {T = T} (Err why) Failed → IsErrOf {T = S} (Err why) Failed
    there e = let same : why ≡ Failed = cc e in ap Err same

    back : IsErrOf {T = S} (Err why) Failed → IsErrOf {T = T} (Err why) Failed
    back e = let same : why ≡ Failed = cc e in ap Err same
