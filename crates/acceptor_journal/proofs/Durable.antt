-- The effect of each call of a journal, as its user knows it.
use Rattle.std.proofs.Common.{ℕ, ◌+◌, ◌≤◌, ◌<◌, ◌^◌, ◌≡◌, ◌⊎◌, inl, inr, ⊎_elim, false, Option, Some, None, List, [], ◌∷◌, ◌++◌, length, sym, ap, ◌∙◌, subst, arith, length-append}
use Rattle.std.proofs.lemmas.Bool.{cases_lt}
use Rattle.acceptor_journal.specs.Views.{DiskView}
use Rattle.acceptor_journal.specs.Images.{LeavesNow}
use Rattle.acceptor_journal.specs.Records.{Back}
use Rattle.acceptor_journal.specs.JournalFiles.{HoldsKept, IsClosed, IsJournalFile, IsJournalOf}
use Rattle.acceptor_journal.specs.Places.{Place}
use Rattle.acceptor_journal.specs.Journals.{ButForGate, IsMidway, shut, with_record}
use Rattle.acceptor_journal.specs.Durable.{ReadUpTo, IsOrOneMore, EachOpening, EachReading, EachFinish, EachAppend}
use Rattle.acceptor_journal.specs.declared.journal.TheConstants.{MOST_JOURNAL_BYTES}
use Rattle.acceptor_journal.proofs.Closing.{durable_reads, durable_left}
use Rattle.acceptor_journal.proofs.Ended.{read_none, read_more, read_all, stays, shuts, same_back, gate_within, midway, appended, place_then}
use Rattle.acceptor_journal.proofs.Histories.{durable_on}
use Rattle.acceptor_journal.proofs.Moments.{weaker, no_act}
use Rattle.acceptor_journal.proofs.JournalFiles.{holds_kept, is_kept, at_rest}

pub each_opening : EachOpening
each_opening name file old new answer o durable =
    let moments = o.moments (durable_reads old file durable) in
    record {
      moments = weaker old new (LeavesNow old) (λ image. image ≡ file) (λ image left. durable_left old file image durable left) moments;
      durable = durable_on old new file durable moments o.telling;
      reader = λ reader is.
          let done = o.ok reader is in
          let at : 0 ≡ reader.at = ap (λ (p : Place). p.at) (sym done.0) in
          let not_ended : reader.ended ≡ false = ap (λ (p : Place). p.ended) done.0 in
          record {
            durable = durable_on old new file durable moments o.telling;
            up_to = subst (λ (n : ℕ). ReadUpTo n [] file) at (read_none file);
            ended = λ yes_ended. absurd (cc (not_ended, yes_ended));
          };
    }

pub each_reading : EachReading
each_reading reader next file given old new answer r h =
    let moments = r.moments (durable_reads old file h.durable) in
    let durable = durable_on old new file h.durable moments r.telling in
    record {
      moments = weaker old new (LeavesNow old) (λ image. image ≡ file) (λ image left. durable_left old file image h.durable left) moments;
      durable = durable;
      more = λ bytes is.
          let gives = r.ok (Some bytes) is file h.durable.content in
          let not_ended : next.ended ≡ false = ap (λ (p : Place). p.ended) gives.1 in
          record { durable = durable; up_to = read_more reader.at given file bytes next h.up_to gives; ended = λ yes_ended. absurd (cc (not_ended, yes_ended)) };
      all = λ is.
          let gives = r.ok None is file h.durable.content in
          let at : reader.at ≡ next.at = ap (λ (p : Place). p.at) (sym gives.1) in
          let back = read_all reader.at given file next h.up_to gives in
          (record { durable = durable; up_to = subst (λ (n : ℕ). ReadUpTo n given file) at h.up_to; ended = λ yes_ended. back }, ap (λ (p : Place). p.ended) (r.at_end is), back);
      again = λ failed. record {
        durable = durable;
        up_to = subst (λ (p : Place). ReadUpTo p.at given file) (sym (r.unmoved failed)) h.up_to;
        ended = λ yes_ended. h.ended (ap (λ (p : Place). p.ended) (sym (r.unmoved failed)) ∙ yes_ended);
      };
    }

-- one of two: a further record is there, or not
one_more : (records given : List (List ℕ)) (further : Option (List ℕ)) (file image : List ℕ) → IsJournalOf records further file → Back file ≡ given → IsJournalOf records further image → ((file ≡ image) ⊎ (given ≡ records)) → IsOrOneMore given (Back image)
one_more records given further file image shape is there (inl same) = inl (ap Back (sym same) ∙ is)
one_more records given None file image shape is there (inr same) = inl (is_kept records None image there ∙ sym same)
one_more records given (Some bytes) file image shape is there (inr same) =
    ⊎_elim (λ none. inl (none ∙ sym same)) (λ more. inr (bytes, more ∙ ap (λ (l : List (List ℕ)). l ++ bytes ∷ []) (sym same))) (is_kept records (Some bytes) image there)

pub each_finish : EachFinish
each_finish reader file given old new answer f h yes_ended journal =
    let inside : reader.at ≤ length file = omega (arith, h.up_to.place, ap length h.up_to.is, length-append h.up_to.front h.up_to.rest) in
    record {
      moments = weaker old new (ButForGate reader.at file) (λ image. IsOrOneMore given (Back image) × IsJournalFile image)
          (λ image but.
          let there = stays reader.at given file h.up_to (h.ended yes_ended) journal.records journal.further journal.shape image but in (
            one_more journal.records given journal.further file image journal.shape (h.ended yes_ended) there (same_back reader.at given file h.up_to (h.ended yes_ended) journal.records journal.further journal.shape image but),
            record { records = journal.records; further = journal.further; shape = there },
          )) (f.moments file h.durable inside);
      kept = λ gate is.
          let done = f.ok gate is file h.durable inside in
          record {
            file = shut reader.at file;
            durable = done;
            closed = shuts reader.at given file h.up_to (h.ended yes_ended) journal.records journal.further journal.shape;
            place = f.place gate is ∙ (h.up_to.place ∙ h.up_to.fronts.long);
          };
    }

pub each_append : EachAppend
each_append gate records bytes old new answer a h = elim (cases_lt MOST_JOURNAL_BYTES (gate + (6 + length bytes))) [
  | inl beyond ↦
      let is_full = a.full.1 beyond in
      let same : new ≡ old = a.full_same is_full in
      record {
        moments = no_act old new (HoldsKept records (Some bytes)) (ap (λ (v : DiskView). v.acts) same)
            (λ image left.
            let here = durable_left old h.file image h.durable left in
            let shape = at_rest records (Some bytes) image (inl (subst (IsClosed records) (sym here) h.closed)) in
            holds_kept records (Some bytes) image shape);
        kept = λ next is. absurd (cc (is_full, is));
        full = a.full_same;
      }
  | inr fits ↦
      let small : length bytes < 2 ^ 32 = omega (arith, fits) in
      let within = gate_within gate records bytes h.file h.closed h.place small in
      record {
        moments = weaker old new (IsMidway gate bytes h.file) (HoldsKept records (Some bytes))
            (λ image half.
            let shape = midway gate records bytes h.file h.closed h.place small image half in
            holds_kept records (Some bytes) image shape)
            (a.moments h.file h.durable within);
        kept = λ next is.
            let done = a.ok next is h.file h.durable within in
            record {
              file = with_record 1 gate bytes h.file;
              durable = done;
              closed = appended gate records bytes h.file h.closed h.place small;
              place = a.place next is ∙ place_then gate records bytes h.file h.closed h.place small;
            };
        full = a.full_same;
      }
]
