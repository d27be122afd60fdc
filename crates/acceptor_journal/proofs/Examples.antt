-- Worked files and calls, computed.
use Rattle.std.proofs.Common.{ℕ, zero, suc, ◌≤◌, ◌<◌, ◌≡◌, ◌⊎◌, inl, ⊎_elim, false, get_or, drop, Some, None, List, [], ◌∷◌, Ok, Err, refl, sym, ◌∙◌, arith}
use Rattle.acceptor_journal.specs.Views.{DiskAct, Wrote, Settled}
use Rattle.acceptor_journal.specs.Images.{MayLeave}
use Rattle.acceptor_journal.specs.Disks.{overlaid}
use Rattle.acceptor_journal.specs.Records.{Back, IsKept, records_behind, place_behind}
use Rattle.acceptor_journal.specs.Journals.{shut, with_record}
use Rattle.acceptor_journal.specs.Histories.{Call, Open, Next, Finish, Append, CrashIn, kept, pending}
use Rattle.acceptor_journal.specs.declared.journal.JournalEnd.TheVariants.{Fault}

-- the record of six bytes, and the file that has it
abbrev frame : List ℕ
frame = 1 ∷ 6 ∷ 0 ∷ 0 ∷ 0 ∷ 0 ∷ []

abbrev one : List ℕ
one = 1 ∷ 0 ∷ 0 ∷ 0 ∷ 6 ∷ 1 ∷ 6 ∷ 0 ∷ 0 ∷ 0 ∷ 0 ∷ 0 ∷ []

-- ---- what is read back

reads_one : Back one ≡ frame ∷ []
unfolding records_behind
reads_one = refl

-- no gate, or a gate that is not open
reads_none : Back (7 ∷ 0 ∷ 0 ∷ 0 ∷ 6 ∷ 1 ∷ 6 ∷ 0 ∷ 0 ∷ 0 ∷ 0 ∷ 0 ∷ []) ≡ []
unfolding records_behind
reads_none = refl

-- the further byte is missing
reads_no_end : Back (1 ∷ 0 ∷ 0 ∷ 0 ∷ 6 ∷ 1 ∷ 6 ∷ 0 ∷ 0 ∷ 0 ∷ 0 ∷ []) ≡ []
unfolding records_behind
reads_no_end = refl

-- a record of no bytes, one of two, and an open gate before what is no record
reads_two : Back (1 ∷ 0 ∷ 0 ∷ 0 ∷ 0 ∷ 1 ∷ 0 ∷ 0 ∷ 0 ∷ 2 ∷ 8 ∷ 9 ∷ 1 ∷ 0 ∷ 0 ∷ []) ≡ [] ∷ (8 ∷ 9 ∷ []) ∷ []
unfolding records_behind
reads_two = refl

place_of_two : place_behind ([] ∷ (8 ∷ 9 ∷ []) ∷ []) ≡ 12
place_of_two = refl

-- ---- what is written

appended : with_record 1 0 frame (0 ∷ []) ≡ one
appended = refl

closed : shut 0 (7 ∷ 5 ∷ []) ≡ 0 ∷ 5 ∷ []
closed = refl

begun : shut 0 [] ≡ 0 ∷ []
begun = refl

beyond : overlaid (4 ∷ []) 3 (9 ∷ []) ≡ 4 ∷ 0 ∷ 0 ∷ 9 ∷ []
beyond = refl

-- ---- what a crash may leave: two bytes were written after one
abbrev acts : List DiskAct
acts = Wrote 1 (5 ∷ 6 ∷ []) ∷ Settled (0 ∷ []) ∷ []

nothing_of_it : MayLeave acts (0 ∷ [])
nothing_of_it = record { no_shorter = omega arith; no_longer = omega arith; others_stay = λ i lt untouched. refl }

-- anything after the first byte
other_bytes : MayLeave acts (0 ∷ 9 ∷ 9 ∷ [])
other_bytes = record { no_shorter = omega arith; no_longer = omega arith; others_stay = first }
  where
    first : (i : ℕ) → i < 1 → ¬ (((1 ≤ i) × (i < 3)) ⊎ ⊥) → get_or {A = ℕ} (0 ∷ 9 ∷ 9 ∷ []) i 0 ≡ get_or {A = ℕ} (0 ∷ []) i 0
    first zero lt untouched = refl
    first (suc i) lt untouched = absurd (omega (arith, lt))

never_the_byte_before : ¬ MayLeave acts (1 ∷ 5 ∷ 6 ∷ [])
never_the_byte_before may = let same : 1 ≡ 0 = may.others_stay 0 (omega arith) (⊎_elim (λ within. omega (arith, within.0)) (λ none. none)) in omega (arith, same)

never_longer : ¬ MayLeave acts (0 ∷ 5 ∷ 6 ∷ 7 ∷ [])
never_longer may = let le : 4 ≤ 3 = may.no_longer in omega (arith, le)

-- ---- what must be kept: one append returned Ok, one failed, and the file was opened again
abbrev past : List Call
past =
    Next (Ok (Some (7 ∷ [])))
    ∷ Open [] (Ok (record { at = 0; ended = false }))
    ∷ Append (8 ∷ []) (Err Fault)
    ∷ Append (7 ∷ []) (Ok 6)
    ∷ Finish (Ok 0)
    ∷ Next (Ok None)
    ∷ Open [] (Ok (record { at = 0; ended = false }))
    ∷ []

keeps_the_first : kept past ≡ (7 ∷ []) ∷ []
keeps_the_first = refl

the_second_may_be_there : pending past ≡ Some (8 ∷ [])
the_second_may_be_there = refl

-- once a finish returned Ok, what was read counts, and nothing more
then_all_that_was_read : kept (Finish (Ok 12) ∷ Next (Ok None) ∷ Next (Ok (Some (8 ∷ []))) ∷ past) ≡ (7 ∷ []) ∷ (8 ∷ []) ∷ []
then_all_that_was_read = refl

then_nothing_more : pending (Finish (Ok 12) ∷ Next (Ok None) ∷ Next (Ok (Some (8 ∷ []))) ∷ past) ≡ None
then_nothing_more = refl

-- a crash inside an append: the record may be there
the_one_under_way_may_be_there : pending (CrashIn (Append (9 ∷ []) (Ok 18)) [] ∷ Finish (Ok 12) ∷ Next (Ok None) ∷ past) ≡ Some (9 ∷ [])
the_one_under_way_may_be_there = refl

-- ---- why the file has to be one that a journal wrote: nothing is read back of this one, but a crash while its gate is
-- closed may leave two more records
abbrev stranger : List ℕ
stranger = 7 ∷ 0 ∷ 0 ∷ 0 ∷ 1 ∷ 170 ∷ 1 ∷ 0 ∷ 0 ∷ 0 ∷ 0 ∷ 0 ∷ []

none_of_the_stranger : Back stranger ≡ []
unfolding records_behind
none_of_the_stranger = refl

two_behind_a_torn_gate : Back (1 ∷ drop 1 stranger) ≡ (170 ∷ []) ∷ [] ∷ []
unfolding records_behind
two_behind_a_torn_gate = refl

torn_while_it_is_closed : MayLeave (Wrote 0 (0 ∷ []) ∷ Settled stranger ∷ []) (1 ∷ drop 1 stranger)
torn_while_it_is_closed = record { no_shorter = omega arith; no_longer = omega arith; others_stay = each }
  where
    each : (i : ℕ) → i < 12 → ¬ (((0 ≤ i) × (i < 1)) ⊎ ⊥) → get_or (1 ∷ drop 1 stranger) i 0 ≡ get_or stranger i 0
    each zero lt untouched = absurd (untouched (inl (omega arith, omega arith)))
    each (suc i) lt untouched = refl

-- ---- why a record is written like this: behind a closed gate, in a durable file; here the record is one byte 9

-- a torn image: the gate is open, and the length is another
abbrev torn_image : List ℕ
torn_image = 1 ∷ 0 ∷ 0 ∷ 0 ∷ 0 ∷ 0 ∷ []

-- it has a record that nobody appended
a_stranger : Back torn_image ≡ [] ∷ []
unfolding records_behind
a_stranger = refl

a_stranger_is_not_kept : ¬ IsKept [] (Some (9 ∷ [])) (Back torn_image)
a_stranger_is_not_kept kept_then = ⊎_elim (λ none. absurd (cc (sym a_stranger ∙ none))) (λ more. absurd (cc (sym a_stranger ∙ more))) kept_then

-- a crash may leave it if the gate is opened in the write of the record
one_write_for_all : MayLeave (Wrote 0 (1 ∷ 0 ∷ 0 ∷ 0 ∷ 1 ∷ 9 ∷ 0 ∷ []) ∷ Settled (0 ∷ []) ∷ []) torn_image
one_write_for_all = record { no_shorter = omega arith; no_longer = omega arith; others_stay = λ i lt untouched. absurd (untouched (inl (omega arith, omega (arith, lt)))) }

-- and if there is no sync between the record and its gate
no_sync_between : MayLeave (Wrote 0 (1 ∷ []) ∷ Wrote 1 (0 ∷ 0 ∷ 0 ∷ 1 ∷ 9 ∷ 0 ∷ []) ∷ Settled (0 ∷ []) ∷ []) torn_image
no_sync_between = record { no_shorter = omega arith; no_longer = omega arith; others_stay = λ i lt untouched. absurd (untouched (inl (omega arith, omega (arith, lt)))) }
