-- The stored row of each session that a cut holds, and how a mark and an update change it.
use Rattle.std.specs.Prelude.{ℕ, ◌≡◌, ◌≤◌, ◌+◌, ◌-◌, ◌^◌, Bool, true, false, ◌==◌, ◌&&◌, nat_le, min, Option, Some, None, List, [], ◌∷◌, length, if◌then◌else◌}
use Rattle.std.specs.List.{AllWithin}
use Rattle.marker_snapshot.specs.declared.recording.Row.{Row}
use Rattle.marker_snapshot.specs.Cuts.{is_of}

-- the row when the cut is taken: nothing is recorded
abbrev pub begun : ℕ → ℕ → ℕ → Row
begun e v s = record { epoch = e; nbr = v; recording = record { session = s; first = 0; count = 0; done = false } }

-- that row, if a session is held
abbrev pub begun_by : ℕ → ℕ → Option ℕ → List Row
begun_by e v None = []
begun_by e v (Some s) = begun e v s ∷ []

-- the recording is finished
abbrev pub ended : Row → Row
ended row = record {
  epoch = row.epoch;
  nbr = row.nbr;
  recording = record { session = row.recording.session; first = row.recording.first; count = row.recording.count; done = true };
}

-- the row after a mark of e arrived in session s with v
abbrev pub met : ℕ → ℕ → ℕ → Row → Row
met v s e row = if is_of v s row.nbr row.recording.session && nat_le row.epoch e then ended row else row

-- one more number, unless the recording is finished
abbrev pub added : Bool → ℕ → Row → Row
added true n row = row
added false n row = record {
  epoch = row.epoch;
  nbr = row.nbr;
  recording = record {
    session = row.recording.session;
    first = if row.recording.count == 0 then n else row.recording.first;
    count = min (row.recording.count + 1) (2 ^ 32 - 1);
    done = false;
  };
}

-- the row after the update with this number arrived in session s with v
abbrev pub heard : ℕ → ℕ → ℕ → Row → Row
heard v s n row = if is_of v s row.nbr row.recording.session then added row.recording.done n row else row

-- the first n rows are finished
pub record AreSettled (n : ℕ) (rows : List Row) : Type 0 where
  pub within : n ≤ length rows
  pub each : AllWithin (λ (row : Row). row.recording.done ≡ true) rows 0 n
