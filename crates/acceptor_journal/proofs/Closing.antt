-- Closing a gate, and appending a record.
use Rattle.std.proofs.Common.{ℕ, ◌+◌, ◌≤◌, ◌<◌, ◌≡◌, ◌≢◌, ◌↔◌, inl, inr, Bool, false, Option, Some, List, [], ◌∷◌, ◌++◌, length, get_or, take, drop, Result, Ok, Err, IsErr, IsErrAnd, IfSome, IsTrue, refl, sym, ap, ap₂, ◌∙◌, subst, arith, option_map, append_assoc, length-append, take-append-drop}
use Rattle.std.specs.Result.{IsErrOf}
use Rattle.std.specs.Int.{w32, to_be_bytes}
use Rattle.std.proofs.lemmas.List.{length-take, take-take, take-append-le, drop_at, drop_more, get_or_past}
use Rattle.std.proofs.lemmas.Bool.{cases_lt}
use Rattle.route_io.specs.Causes.{RoseIf}
use Rattle.acceptor_journal.specs.Views.{DiskAct, Settled, DiskView}
use Rattle.acceptor_journal.specs.Images.{MayLeave, LeavesNow, LeavesOnly, ReadsAnImage, IsDurable}
use Rattle.acceptor_journal.specs.Disks.{synced, written, settled_by, overlaid}
use Rattle.acceptor_journal.specs.Ends.{end_of}
use Rattle.acceptor_journal.specs.Records.{body}
use Rattle.acceptor_journal.specs.Journals.{KeepsTelling, Finishes, ButForGate, IsMidway, shut, with_record}
use Rattle.acceptor_journal.specs.Parts.{ActsWithin, LooksUp, Rewrites}
use Rattle.acceptor_journal.specs.declared.disk.DiskEnd.{DiskEnd}
use Rattle.acceptor_journal.specs.declared.disk.DiskEnd.TheVariants as disk
use Rattle.acceptor_journal.specs.declared.journal.JournalEnd.{JournalEnd}
use Rattle.acceptor_journal.specs.declared.journal.JournalEnd.TheVariants.{Fault}
use Rattle.acceptor_journal.proofs.Filling.{if_some}
use Rattle.acceptor_journal.proofs.Opening.{end_is, end_rose, never_full, rose_so}
use Rattle.acceptor_journal.proofs.Images.{Torn, torn, torn_front, torn_behind, settled_left, settled_may, is_settled, overlaid_within}
use Rattle.acceptor_journal.proofs.Moments.{weaker}
use Rattle.acceptor_journal.proofs.DiskCalls.{synced_moments}
use Rattle.acceptor_journal.proofs.Telling.{keeps_synced}

-- ---- a durable file

-- what a read gives is one of the files that a crash may leave
pub durable_reads : (old : DiskView) (file : List ℕ) → IsDurable old file → ReadsAnImage old
durable_reads old file durable acts found told content =
    let one : file ≡ found = cc (sym durable.content ∙ content) in
    let all : durable.acts ≡ acts = cc (sym durable.told ∙ told) in
    subst (λ l. MayLeave acts l) (is_settled acts file (λ image may. durable.only image (subst (λ l. MayLeave l image) (sym all) may)) ∙ one) (settled_may acts)

pub durable_left : (old : DiskView) (file image : List ℕ) → IsDurable old file → LeavesNow old image → image ≡ file
durable_left old file image durable left =
    let all : durable.acts ≡ left.0 = cc (sym durable.told ∙ left.1) in
    durable.only image (subst (λ l. MayLeave l image) (sym all) left.2)

pub durable_synced : (mid : DiskView) (file : List ℕ) (acts : List DiskAct) → mid.content ≡ Some file → mid.acts ≡ Some acts → IsDurable (synced mid) file
durable_synced mid file acts content told = record {
  acts = Settled file ∷ acts;
  told = ap₂ (λ (c : Option (List ℕ)) (a : Option (List DiskAct)). option_map (settled_by c) a) content told;
  content = content;
  only = settled_left file acts;
}

pub durable_rewritten : (old : DiskView) (file : List ℕ) (at : ℕ) (piece : List ℕ) → IsDurable old file → IsDurable (synced (written at piece old)) (overlaid file at piece)
durable_rewritten old file at piece durable =
    durable_synced (written at piece old) (overlaid file at piece) _ (ap (option_map (λ before. overlaid before at piece)) durable.content) (ap (option_map _) durable.told)

-- a crash after a write leaves the file, except for the range of the write
pub torn_from : (old : DiskView) (file : List ℕ) (at : ℕ) (piece image : List ℕ) → IsDurable old file → LeavesNow (written at piece old) image → Torn at (length piece) file image
torn_from old file at piece image durable left =
    torn durable.acts file durable.only at piece image (subst (λ l. MayLeave l image) (cc (sym left.1 ∙ ap (option_map _) durable.told)) left.2)

-- ---- closing a gate

but_same : (at : ℕ) (file : List ℕ) → ButForGate at file file
but_same at file = record { front = refl; behind = refl; no_shorter = omega arith; no_longer = omega arith; stays_shut = λ shut. refl }

but_torn : (at : ℕ) (file image : List ℕ) → at ≤ length file → get_or file at 1 ≢ 0 → Torn at 1 file image → ButForGate at file image
but_torn at file image within not t = record {
  front = torn_front at 1 file image t at (omega arith) within;
  behind = torn_behind at 1 file image t;
  no_shorter = t.no_shorter;
  no_longer = t.no_longer;
  stays_shut = λ shut. absurd (not shut);
}

already_shut : (at : ℕ) (file : List ℕ) → get_or file at 1 ≡ 0 → shut at file ≡ file
already_shut at file is = elim (cases_lt at (length file)) [
  | inl inside ↦ sym (sym (take-append-drop at file) ∙ ap (λ (l : List ℕ). take at file ++ l) (drop_more file at 1 inside ∙ ap (λ (b : ℕ). b ∷ drop (at + 1) file) is))
  | inr past ↦ absurd (omega (arith, is, get_or_past file at 1 past))
]

-- a call that only looked, and failed
pub finishes_not : (at : ℕ) (old new : DiskView) (r : Result ℕ JournalEnd) → IsErr r → LooksUp old r new → Finishes at old r new
finishes_not at old new r failed was = record {
  place = λ gate is. absurd (cc (failed, is));
  does = λ gate is. absurd (cc (failed, is));
  content = λ gate is. absurd (cc (failed, is));
  ok = λ gate is. absurd (cc (failed, is));
  moments = λ file durable within. weaker old new (LeavesNow old) (ButForGate at file) (λ image left. subst (ButForGate at file) (sym (durable_left old file image durable left)) (but_same at file))
      (was.effect.moments (durable_reads old file durable));
  telling = was.effect.telling;
  not_full = was.not_full;
  fault = was.effect.fault;
}

-- the gate was closed already
pub finishes_shut : (at : ℕ) (old mid new : DiskView) (shut : Bool) → mid ≡ old → IfSome old.content (λ file. IsTrue shut ↔ (get_or file at 1 ≡ 0)) → IsTrue shut → new ≡ synced mid → Finishes at old (Ok at) new
finishes_shut at old mid new is_shut same gate yes_shut done =
    let all : new ≡ synced old = done ∙ ap synced same in
    record {
      place = λ place is. cc (sym is);
      does = λ place is. inl all;
      content = λ place is file told within.
          let here = (if_some old.content (λ file. IsTrue is_shut ↔ (get_or file at 1 ≡ 0)) gate file told).0 yes_shut in
          ap (λ (v : DiskView). v.content) all ∙ (told ∙ ap (λ (l : List ℕ). Some l) (sym (already_shut at file here)));
      ok = λ place is file durable within.
          let here = (if_some old.content (λ file. IsTrue is_shut ↔ (get_or file at 1 ≡ 0)) gate file durable.content).0 yes_shut in
          subst (λ v. IsDurable v (shut at file)) (sym all) (subst (IsDurable (synced old)) (sym (already_shut at file here)) (durable_synced old file durable.acts durable.content durable.told));
      moments = λ file durable within. subst (λ v. LeavesOnly old v (ButForGate at file)) (sym all)
          (synced_moments old (ButForGate at file) (durable_reads old file durable) (λ image left. subst (ButForGate at file) (sym (durable_left old file image durable left)) (but_same at file)));
      telling = subst (KeepsTelling old) (sym all) (keeps_synced old);
      not_full = λ e. absurd (cc e);
      fault = subst (λ v. RoseIf (IsErrOf {T = ℕ} (Ok at) Fault) old.faults v.faults) (sym all) (record { later = omega arith; rose = λ e. absurd (cc e); quiet = λ e. refl });
    }

gate_moments : (at : ℕ) (old new : DiskView) (F : Type 0) → ActsWithin old new (written at (0 ∷ []) old) F → (file : List ℕ) → IsDurable old file → at ≤ length file → get_or file at 1 ≢ 0 → LeavesOnly old new (ButForGate at file)
gate_moments at old new F goes file durable within not =
    weaker old new (LeavesNow (written at (0 ∷ []) old)) (ButForGate at file) (λ image left. but_torn at file image within not (torn_from old file at (0 ∷ []) image durable left))
    (goes.moments (durable_reads old file durable))

gate_not : (old : DiskView) (at : ℕ) (shut : Bool) (file : List ℕ) → IfSome old.content (λ file. IsTrue shut ↔ (get_or file at 1 ≡ 0)) → ¬ IsTrue shut → old.content ≡ Some file → get_or file at 1 ≢ 0
gate_not old at is_shut file gate not told here = not ((if_some old.content (λ file. IsTrue is_shut ↔ (get_or file at 1 ≡ 0)) gate file told).1 here)

-- the closed gate should have been written
pub finishes_unwritten : {T : Type 0} (at : ℕ) (old mid new : DiskView) (shut : Bool) (why : DiskEnd) (r : Result ℕ JournalEnd) → mid ≡ old → IfSome old.content (λ file. IsTrue shut ↔ (get_or file at 1 ≡ 0)) → ¬ IsTrue shut
    → IsErr r × IsErrAnd r (λ end. end ≡ end_of why) → Rewrites {T = T} at (0 ∷ []) mid (Err why) new → Finishes at old r new
finishes_unwritten {T = T} at old mid new is_shut why r same gate not h wrote =
    let goes : ActsWithin old new (written at (0 ∷ []) old) (IsErrOf {T = T} (Err why) disk.Failed) = subst (λ v. ActsWithin v new (written at (0 ∷ []) v) (IsErrOf {T = T} (Err why) disk.Failed)) same wrote.effect in
    subst (λ (x : Result ℕ JournalEnd). Finishes at old x new) (sym (end_is r why h)) (record {
      place = λ gate is. absurd (cc is);
      does = λ gate is. absurd (cc is);
      content = λ gate is. absurd (cc is);
      ok = λ gate is. absurd (cc is);
      moments = λ file durable within. gate_moments at old new (IsErrOf {T = T} (Err why) disk.Failed) goes file durable within (gate_not old at is_shut file gate not durable.content);
      telling = goes.telling;
      not_full = never_full why (end_of why) refl;
      fault = end_rose {T = T} {S = ℕ} why old.faults new.faults goes.fault;
    })

pub finishes_written : {T : Type 0} (at : ℕ) (old mid new : DiskView) (shut : Bool) (x : T) → mid ≡ old → IfSome old.content (λ file. IsTrue shut ↔ (get_or file at 1 ≡ 0)) → ¬ IsTrue shut
    → Rewrites {T = T} at (0 ∷ []) mid (Ok x) new → Finishes at old (Ok at) new
finishes_written {T = T} at old mid new is_shut x same gate not wrote =
    let goes : ActsWithin old new (written at (0 ∷ []) old) (IsErrOf {T = T} (Ok x) disk.Failed) = subst (λ v. ActsWithin v new (written at (0 ∷ []) v) (IsErrOf {T = T} (Ok x) disk.Failed)) same wrote.effect in
    let done : new ≡ synced (written at (0 ∷ []) old) = wrote.ok refl ∙ ap (λ v. synced (written at (0 ∷ []) v)) same in
    record {
      place = λ place is. cc (sym is);
      does = λ place is. inr done;
      content = λ place is file told within.
          ap (λ (v : DiskView). v.content) done ∙ (ap (option_map (λ before. overlaid before at (0 ∷ []))) told ∙ ap (λ (l : List ℕ). Some l) (overlaid_within file at (0 ∷ []) within));
      ok = λ place is file durable within.
          subst (λ v. IsDurable v (shut at file)) (sym done) (subst (IsDurable (synced (written at (0 ∷ []) old))) (overlaid_within file at (0 ∷ []) within) (durable_rewritten old file at (0 ∷ []) durable));
      moments = λ file durable within. gate_moments at old new (IsErrOf {T = T} (Ok x) disk.Failed) goes file durable within (gate_not old at is_shut file gate not durable.content);
      telling = goes.telling;
      not_full = λ e. absurd (cc e);
      fault = rose_so (IsErrOf {T = T} (Ok x) disk.Failed) (IsErrOf {T = ℕ} (Ok at) Fault) old.faults new.faults (λ e. absurd (cc e)) (λ e. absurd (cc e)) goes.fault;
    }

pub not_true : (b : Bool) → b ≡ false → ¬ IsTrue b
not_true b is yes_true = absurd (cc (is, yes_true))

-- ---- appending a record

-- the file with what follows the gate
abbrev staged : ℕ → List ℕ → List ℕ → List ℕ
staged at bytes file = overlaid file (at + 1) (body bytes ++ 0 ∷ [])

module _ (at : ℕ) (bytes file : List ℕ) (inside : at < length file) where
  size : length (body bytes ++ 0 ∷ []) ≡ 5 + length bytes
  size = omega (arith, length-append (body bytes) (0 ∷ []), length-append (to_be_bytes w32 (length bytes)) bytes)

  staged_is : staged at bytes file ≡ take (at + 1) file ++ (body bytes ++ 0 ∷ drop (at + (6 + length bytes)) file)
  staged_is =
      overlaid_within file (at + 1) (body bytes ++ 0 ∷ []) (omega (arith, inside))
      ∙ ap (λ (l : List ℕ). take (at + 1) file ++ l) (append_assoc (body bytes) (0 ∷ []) (drop (at + 1 + length (body bytes ++ 0 ∷ [])) file)
      ∙ ap (λ (n : ℕ). body bytes ++ 0 ∷ drop n file) (omega (arith, size)))

  long_front : length (take (at + 1) file) ≡ at + 1
  long_front = omega (arith, length-take (at + 1) file, inside)

  staged_front : take at (staged at bytes file) ≡ take at file
  staged_front =
      ap (take at) staged_is ∙ (take-append-le at (take (at + 1) file) (body bytes ++ 0 ∷ drop (at + (6 + length bytes)) file) (omega (arith, long_front)) ∙ take-take at (at + 1) file (omega arith))

  staged_behind : drop (at + 1) (staged at bytes file) ≡ body bytes ++ 0 ∷ drop (at + (6 + length bytes)) file
  staged_behind = ap (drop (at + 1)) staged_is ∙ drop_at (take (at + 1) file) (body bytes ++ 0 ∷ drop (at + (6 + length bytes)) file) (at + 1) long_front

  staged_long : at + 1 < length (staged at bytes file)
  staged_long =
      omega (arith, ap length staged_is, length-append (take (at + 1) file) (body bytes ++ 0 ∷ drop (at + (6 + length bytes)) file), long_front, length-append (body bytes) (0 ∷ drop (at + (6 + length bytes)) file))

  -- while the record is written, the part before the gate stays
  pub front_stays : (image : List ℕ) → Torn (at + 1) (length (body bytes ++ 0 ∷ [])) file image → IsMidway at bytes file image
  front_stays image t = inl (torn_front (at + 1) (length (body bytes ++ 0 ∷ [])) file image t (at + 1) (omega arith) (omega (arith, inside)))

  -- while the gate is opened, all else stays
  pub rest_stays : (image : List ℕ) → Torn at 1 (staged at bytes file) image → IsMidway at bytes file image
  rest_stays image t =
      let here = drop_more image at 0 (omega (arith, t.no_shorter, staged_long)) in
      let front = torn_front at 1 (staged at bytes file) image t at (omega arith) (omega (arith, staged_long)) ∙ staged_front in
      let behind = torn_behind at 1 (staged at bytes file) image t ∙ staged_behind in
      inr (get_or image at 0, sym (take-append-drop at image) ∙ ap₂ (λ (x y : List ℕ). x ++ y) front (here ∙ ap (λ (l : List ℕ). get_or image at 0 ∷ l) behind))

  -- and then the record is there
  pub opened_is : overlaid (staged at bytes file) at (1 ∷ []) ≡ with_record 1 at bytes file
  opened_is = overlaid_within (staged at bytes file) at (1 ∷ []) (omega (arith, staged_long)) ∙ ap₂ (λ (x y : List ℕ). x ++ 1 ∷ y) staged_front staged_behind
