-- What snapshots tell of a recording is the recording of the run.
use Rattle.std.proofs.Common.{◌≡◌, ℕ, Option, Some, None, List, length, refl, sym, ap, ◌∙◌}
use Rattle.std.specs.Prelude.{option_map, option_and_then}
use Rattle.path_vector.specs.History.{held}
use Rattle.trigger_log.specs.Entries.{Entry, reads, inbox}
use Rattle.marker_snapshot.specs.declared.recording.Recording.{Recording as Kept}
use Rattle.marker_snapshot.specs.Acts.{SnapshotActs}
use Rattle.marker_snapshot.specs.Cuts.{recorded_session}
use Rattle.marker_snapshot.specs.Standing.{Shows}
use Rattle.chronicle.specs.Facts.{Chronicle}
use Rattle.chronicle.specs.Epochs.{cut}
use Rattle.chronicle.specs.Recordings.{Recording, recording, recording_in, recording_after}
use Rattle.node_core.specs.Alike.{Alike}
use Rattle.view_words.specs.Cuts.{recording_of}

module _ (acts : SnapshotActs) (u : ℕ) (past : Chronicle) (alike : Alike acts u past) (e v : ℕ) where
  -- the session that the cut of the run holds
  abbrev session_in : Option (List Entry) → Option ℕ
  session_in c = option_and_then (λ entries. held (reads entries) v) c

  same_session : recorded_session e v acts ≡ session_in (cut u e past)
  same_session = ap session_in (alike.same_cut e)

  abbrev recording_at : Option (List Entry) → Option Recording
  recording_at c = option_and_then (recording_in u e v past) c

  none_at : (c : Option (List Entry)) → session_in c ≡ None → recording_at c ≡ None
  none_at None none = refl
  none_at (Some c) none = ap (option_map (λ s. recording_after u e (length (inbox c v s)) past v s)) none

  -- no session is recorded
  pub not_recorded : recorded_session e v acts ≡ None → recording u e v past ≡ None
  unfolding recording
  not_recorded none = none_at (cut u e past) (sym same_session ∙ none)

  same_recording : (c : List Entry) (kept : Kept) → cut u e past ≡ Some c → held (reads c) v ≡ Some kept.session → Shows acts e v kept
      → recording_after u e (length (inbox c v kept.session)) past v kept.session ≡ recording_of v kept
  same_recording c kept is holds shows =
      let numbers = sym (shows.numbers ∙ alike.same_recorded e v kept.session c is holds) in
      let done = sym (alike.same_done e v kept.session c is holds) ∙ shows.ended in
      rw (numbers, done) refl

  some_at : (o : Option (List Entry)) (kept : Kept) → cut u e past ≡ o → session_in o ≡ Some kept.session → Shows acts e v kept → recording_at o ≡ Some (recording_of v kept)
  some_at None kept is holds shows = absurd (cc holds)
  some_at (Some c) kept is holds shows =
      ap (option_map (λ s. recording_after u e (length (inbox c v s)) past v s)) holds
      ∙ ap (λ (r : Recording). Some r) (same_recording c kept is holds shows)

  -- it is this recording
  pub is_recorded : (kept : Kept) → Shows acts e v kept → recording u e v past ≡ Some (recording_of v kept)
  unfolding recording
  is_recorded kept shows = some_at (cut u e past) kept refl (sym same_session ∙ shows.in_cut) shows
