-- The report made from a log is the report of its entries, without those that were dropped.
use Rattle.std.proofs.Common.{ℕ, zero, suc, drop, List, [], ◌∷◌, ◌++◌, ◌≡◌, refl, sym, ◌∙◌, ap, ap₂, Option, Some, None, length, map, flat_map, arith}
use Rattle.std.specs.Prelude.{option_map}
use Rattle.std.specs.List.{AllZip}
use Rattle.topology.specs.Net.{Net, neighbours}
use Rattle.topology.specs.declared.names.Trigger.{Trigger}
use Rattle.topology.specs.declared.names.Scope.{Scope}
use Rattle.topology.specs.declared.items.Sent.{Sent}
use Rattle.topology.specs.declared.items.Pending.{Pending}
use Rattle.path_vector.specs.Rules.{Rules}
use Rattle.path_vector.specs.History.{Change}
use Rattle.trigger_log.specs.declared.entries.Entry.{Entry as Shown}
use Rattle.trigger_log.specs.declared.sessions.SessionMark.{SessionMark}
use Rattle.trigger_log.specs.Entries.{Entry, inbox, closing}
use Rattle.trigger_log.specs.Pending.{pending_rows}
use Rattle.trigger_log.specs.Dropping.{trimmed}
use Rattle.trigger_log.specs.Sending.{sent_count}
use Rattle.trigger_log.specs.Sessions.{ever, IsFirst, Says, AreMarks, AreAllMarks}
use Rattle.trigger_log.specs.Entered.{Entered, all_entered, Shows}
use Rattle.incomplete_closure.specs.Reports.{Row, SessionRow, Report}
use Rattle.incomplete_closure.specs.declared.reports.Report.{Report as TheReport}
use Rattle.incomplete_closure.specs.Seen.{row_seen, session_seen, report_seen}
use Rattle.epoch_report.specs.Reporting.{entry_row, entry_rows, session_row, session_rows, report_of}
use Rattle.epoch_report.specs.Downs.{first_of, first_down, first_downs, DownsListOne}
use Rattle.epoch_report.specs.Trimming.{trimmed_report}
use Rattle.epoch_report.specs.Telling.{row_told, session_told}

-- ---- lists

map_append : {A B : Type 0} (f : A → B) (xs ys : List A) → map f (xs ++ ys) ≡ map f xs ++ map f ys
map_append f [] ys = refl
map_append f (x ∷ xs) ys = ap (λ r. f x ∷ r) (map_append f xs ys)

map_map : {A B C : Type 0} (f : A → B) (g : B → C) (xs : List A) → map g (map f xs) ≡ map (λ x. g (f x)) xs
map_map f g [] = refl
map_map f g (x ∷ xs) = ap (λ r. g (f x) ∷ r) (map_map f g xs)

map_drop : {A B : Type 0} (f : A → B) (n : ℕ) (xs : List A) → map f (drop n xs) ≡ drop n (map f xs)
map_drop f zero xs = refl
map_drop f (suc n) [] = refl
map_drop f (suc n) (x ∷ xs) = map_drop f n xs

-- two lists place by place, whose members have the same image
zip_same : {A B C : Type 0} (R : A → B → Type 0) (f : A → C) (g : B → C) → ((x : A) (y : B) → R x y → g y ≡ f x) → (xs : List A) (ys : List B) → AllZip R xs ys → map g ys ≡ map f xs
zip_same R f g same [] [] z = refl
zip_same R f g same [] (y ∷ ys) z = absurd z
zip_same R f g same (x ∷ xs) [] z = absurd z
zip_same R f g same (x ∷ xs) (y ∷ ys) z = ap₂ (λ a b. a ∷ b) (same x y z.0) (zip_same R f g same xs ys z.1)

-- ---- rows

made : List Trigger → Scope → List Sent → Row
made triggers scope sent = record { triggers = triggers; scope = scope; sent = sent }

told : ℕ → ℕ → ℕ → Option (List Trigger) → SessionRow
told nbr session received down = record { nbr = nbr; session = session; received = received; down = down }

whole : ℕ → ℕ → List Row → List SessionRow → List Pending → Report
whole node epoch rows sessions held = record { node = node; epoch = epoch; rows = rows; sessions = sessions; pending = held }

-- the trigger of a Down, as a list
one_down : (d : Option Trigger) (list : Option (List Trigger)) → IsFirst d list → option_map (λ (t : Trigger). t ∷ []) d ≡ first_of list
one_down None None is = refl
one_down None (Some list) is = absurd is
one_down (Some t) None is = absurd is
one_down (Some t) (Some []) is = absurd is
one_down (Some t) (Some (first ∷ later)) is = ap (λ z. Some (z ∷ [])) is

module _ (rules : Rules) (net : Net) (u : ℕ) where
  entered_row : Entered → Row
  entered_row step = entry_row rules net u step.before step.entry

  entered_rows : (h : List Entry) → map entered_row (all_entered h) ≡ entry_rows rules net u h
  unfolding entry_rows entered_row
  entered_rows [] = refl
  entered_rows (k ∷ h) = map_append entered_row (all_entered h) (record { before = h; entry = k } ∷ []) ∙ ap (λ r. r ++ entry_row rules net u h k ∷ []) (entered_rows h)

  row_is : (step : Entered) (shown : Shown) → Shows rules net u step shown → row_seen (row_told shown) ≡ entered_row step
  unfolding made entered_row
  row_is step shown s =
      ap (λ ts. made ts shown.scope shown.sent) s.triggers
      ∙ (ap (λ (c : Change). made step.entry.triggers c.scope shown.sent) s.read
      ∙ ap (λ (xs : List Sent). made step.entry.triggers step.entry.read.scope xs) s.sent)

  -- the rows made from the entries after the first n
  pub rows_are : (n : ℕ) (h : List Entry) (shown : List Shown) → AllZip (Shows rules net u) (drop n (all_entered h)) shown → map row_seen (map row_told shown) ≡ drop n (entry_rows rules net u h)
  rows_are n h shown z =
      map_map row_told row_seen shown
      ∙ (zip_same (Shows rules net u) entered_row (λ s. row_seen (row_told s)) row_is (drop n (all_entered h)) shown z
      ∙ (map_drop entered_row n (all_entered h) ∙ ap (drop n) (entered_rows h)))

  -- ---- sessions

  module _ (h : List Entry) where
    mark_is : (w s : ℕ) (mark : SessionMark) → Says h w s (sent_count rules net u h w s) mark → session_seen (session_told mark) ≡ first_down (session_row h w s)
    unfolding told
    mark_is w s mark is =
        ap (λ n. told n mark.session mark.received (option_map (λ (t : Trigger). t ∷ []) mark.down)) is.nbr
        ∙ (ap (λ n. told w n mark.received (option_map (λ (t : Trigger). t ∷ []) mark.down)) is.session
        ∙ (ap (λ n. told w s n (option_map (λ (t : Trigger). t ∷ []) mark.down)) is.received
        ∙ ap (told w s (length (inbox h w s))) (one_down mark.down (closing h w s) is.down)))

    -- the rows of these neighbours
    sessions_near : (near : List ℕ) (rows : List (List SessionMark)) → AllZip (AreMarks rules net u h) near rows
        → map session_seen (map session_told (flat_map (λ row. row) rows)) ≡ map first_down (flat_map (λ w. map (session_row h w) (ever h w)) near)
    sessions_near [] [] z = refl
    sessions_near [] (row ∷ rows) z = absurd z
    sessions_near (w ∷ near) [] z = absurd z
    sessions_near (w ∷ near) (row ∷ rows) z =
        ap (map session_seen) (map_append session_told row (flat_map (λ row. row) rows))
        ∙ (map_append session_seen (map session_told row) (map session_told (flat_map (λ row. row) rows))
        ∙ (ap₂ (λ a b. a ++ b)
        (map_map session_told session_seen row
        ∙ (zip_same (λ s mark. Says h w s (sent_count rules net u h w s) mark) (λ s. first_down (session_row h w s)) (λ m. session_seen (session_told m)) (mark_is w) (ever h w) row z.0
        ∙ sym (map_map (session_row h w) first_down (ever h w))))
        (sessions_near near rows z.1)
        ∙ sym (map_append first_down (map (session_row h w) (ever h w)) (flat_map (λ w. map (session_row h w) (ever h w)) near))))

    -- the rows made from all marks are the session rows
    pub sessions_are : (marks : List SessionMark) → AreAllMarks rules net u h marks → map session_seen (map session_told marks) ≡ map first_down (session_rows net u h)
    unfolding session_rows
    sessions_are marks all = ap (λ ms. map session_seen (map session_told ms)) all.2 ∙ sessions_near (neighbours net u) all.0 all.1

  -- ---- the report

  -- the entries after the first n, the marks, and what is held back, as they are shown
  pub record AreShown (n : ℕ) (h : List Entry) (shown : List Shown) (marks : List SessionMark) (held : List Pending) : Type 0 where
    pub entries : AllZip (Shows rules net u) (drop n (all_entered h)) shown
    pub sessions : AreAllMarks rules net u h marks
    pub pending : held ≡ pending_rows rules net u h

  -- a report of these parts is the report without the first n entries
  pub report_is : (e n : ℕ) (h : List Entry) (shown : List Shown) (marks : List SessionMark) (held : List Pending) (report : TheReport)
      → report.node ≡ u → report.epoch ≡ e → report.rows ≡ map row_told shown → report.sessions ≡ map session_told marks → report.pending ≡ held
      → AreShown n h shown marks held → report_seen report ≡ first_downs (trimmed_report rules net u e (trimmed n h))
  unfolding whole trimmed_report
  report_is e n h shown marks held report own when are_rows are_sessions are_held are =
      ap₂ (λ node epoch. whole node epoch (map row_seen report.rows) (map session_seen report.sessions) report.pending) own when
      ∙ (ap₂ (λ rows sessions. whole u e rows sessions report.pending) (ap (map row_seen) are_rows ∙ rows_are n h shown are.entries)
      (ap (map session_seen) are_sessions ∙ sessions_are h marks are.sessions)
      ∙ ap (whole u e (drop n (entry_rows rules net u h)) (map first_down (session_rows net u h))) (are_held ∙ are.pending))

-- the first trigger is the whole list, if that has just one
pub one_listed : (list : Option (List Trigger)) → ((ts : List Trigger) → list ≡ Some ts → length ts ≡ 1) → first_of list ≡ list
one_listed None one = refl
one_listed (Some []) one = let none = one [] refl in absurd (omega arith)
one_listed (Some (t ∷ [])) one = refl
one_listed (Some (t ∷ s ∷ ts)) one = let many = one (t ∷ s ∷ ts) refl in absurd (omega arith)

-- if each Down lists one trigger, the code's report is the full report
module _ (h : List Entry) (one : DownsListOne h) where
  one_row : (w s : ℕ) → first_down (session_row h w s) ≡ session_row h w s
  unfolding told
  one_row w s = ap (told w s (length (inbox h w s))) (one_listed (closing h w s) (one w s))

  rows_same : (w : ℕ) (ss : List ℕ) → map first_down (map (session_row h w) ss) ≡ map (session_row h w) ss
  rows_same w [] = refl
  rows_same w (s ∷ ss) = ap₂ (λ a b. a ∷ b) (one_row w s) (rows_same w ss)

  near_same : (near : List ℕ) → map first_down (flat_map (λ w. map (session_row h w) (ever h w)) near) ≡ flat_map (λ w. map (session_row h w) (ever h w)) near
  near_same [] = refl
  near_same (w ∷ near) =
      map_append first_down (map (session_row h w) (ever h w)) (flat_map (λ w. map (session_row h w) (ever h w)) near)
      ∙ ap₂ (λ a b. a ++ b) (rows_same w (ever h w)) (near_same near)

  pub downs_told : (rules : Rules) (net : Net) (u e n : ℕ) → first_downs (trimmed_report rules net u e (trimmed n h)) ≡ trimmed_report rules net u e (trimmed n h)
  unfolding whole trimmed_report session_rows
  downs_told rules net u e n =
      ap (λ rows. whole u e (drop n (entry_rows rules net u h)) rows (pending_rows rules net u h)) (near_same (neighbours net u))

-- if nothing was dropped, the report has a row for each entry
pub whole_report : (rules : Rules) (net : Net) (u e : ℕ) (h : List Entry) → trimmed_report rules net u e (trimmed 0 h) ≡ report_of rules net u e h
unfolding trimmed_report report_of
whole_report rules net u e h = refl
