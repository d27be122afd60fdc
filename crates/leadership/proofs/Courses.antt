-- The courses of directives, one after another.
use Rattle.std.proofs.Common.{◌≡◌, ℕ, zero, suc, ◌+◌, ◌-◌, ◌<◌, Option, Some, None, List, [], ◌∷◌, ◌++◌, length, drop, get_or, refl, sym, ap, ◌∙◌, add-one, append_assoc, arith, Result, IsErr, IsErrAnd, IfErr}
use Rattle.std.proofs.Math.Seq.{drop-cons}
use Rattle.std.specs.Prelude.{flat_map}
use Rattle.std.specs.List.{range_with_len}
use Rattle.std.proofs.lemmas.List.{flat_map_more}
use Rattle.std.proofs.lemmas.Result.{err_from_is_err_and}
use Rattle.topology.specs.declared.status.LimitKind.{LimitKind}
use Rattle.leadership.specs.declared.events.LeadEvent.{LeadEvent}
use Rattle.leadership.specs.declared.events.LeadEvent.TheVariants.{Control}
use Rattle.leadership.specs.declared.scripts.Numbered.{Numbered}
use Rattle.leadership.specs.declared.stops.LeadStop.{LeadStop}
use Rattle.leadership.specs.declared.stops.LeadStop.TheVariants as stop
use Rattle.leadership.specs.Deliveries.{next_mail}
use Rattle.leadership.specs.Limits.{limit_of, StopsAt}
use Rattle.leadership.specs.Text.{Course, Leads, Stops, unless, then_on, controlled, text, text_by, said, course, stop as stop_of, stop_by}
use Rattle.leadership.specs.Running.{StopsIn, lines_by, limit_by}

-- an error that `?` passes on
pub handed_on : {T E : Type 0} (r : Result T E) (Q P : E → Type 0) → IsErr r × IsErrAnd r Q → ((e : E) → Q e → P e) → IfErr r P
handed_on r Q P h step =
    let e = err_from_is_err_and r h.1 in
    rw e.1 (step e.0 e.2)

-- the rest begins with the present directive
pub next_of : (lines : List Numbered) (i : ℕ) (d : Numbered) → i < length lines → d ≡ get_or lines i d → drop i lines ≡ d ∷ drop (i + 1) lines
next_of lines i d inside at = drop-cons lines i d inside ∙ ap (λ (e : Numbered). e ∷ drop (suc i) lines) (sym at) ∙ ap (λ n. d ∷ drop n lines) (sym (add-one i))

-- the text behind the lines of a directive
abbrev pub rest_by : Course → (List LeadEvent → List ℕ) → List ℕ
rest_by (Leads events) rest = rest events
rest_by (Stops kind number) rest = []

text_split : (words : List ℕ) (led : Course) (rest : List LeadEvent → List ℕ) → text_by words led rest ≡ lines_by words led ++ rest_by led rest
text_split words (Leads events) rest = refl
text_split words (Stops kind number) rest = refl

rest_goes : (led : Course) (rest : List LeadEvent → List ℕ) (now : List LeadEvent) → led ≡ Leads now → rest_by led rest ≡ rest now
rest_goes led rest now e = rw e refl

stop_goes : (led : Course) (rest : List LeadEvent → Option (LimitKind × ℕ)) (now : List LeadEvent) → led ≡ Leads now → stop_by led rest ≡ rest now
stop_goes led rest now e = rw e refl

stop_at : (led : Course) (rest : List LeadEvent → Option (LimitKind × ℕ)) (one : LimitKind × ℕ) → limit_by led ≡ Some one → stop_by led rest ≡ Some one
stop_at (Leads events) rest one e = absurd (cc e)
stop_at (Stops kind number) rest one e = e

rest_none : (led : Course) (rest : List LeadEvent → List ℕ) (one : LimitKind × ℕ) → limit_by led ≡ Some one → rest_by led rest ≡ []
rest_none (Leads events) rest one e = absurd (cc e)
rest_none (Stops kind number) rest one e = refl

module _ (members : List ℕ) (events : List LeadEvent) (lines : List Numbered) (i : ℕ) (d : Numbered) (inside : i < length lines) (at : d ≡ get_or lines i d) where
  abbrev led : Course
  led = course members events d.directive

  abbrev words_here : List ℕ
  words_here = lines_by (said members events d) led

  abbrev pub rest_here : List ℕ
  rest_here = rest_by led (λ later. text members later (drop (i + 1) lines))

  -- the lines of the directive at hand, and the text of what is left behind it
  pub text_here : (all written : List ℕ) → written ++ text members events (drop i lines) ≡ all → written ++ (words_here ++ rest_here) ≡ all
  text_here all written so_far =
      ap (λ bytes. written ++ bytes) (sym (text_split (said members events d) led (λ later. text members later (drop (i + 1) lines))))
      ∙ (ap (λ (ds : List Numbered). written ++ text members events ds) (sym (next_of lines i d inside at))
      ∙ so_far)

  -- the text so far and the text of the rest are the whole text
  pub text_step : (now : List LeadEvent) (all written : List ℕ) → led ≡ Leads now → written ++ text members events (drop i lines) ≡ all
      → (written ++ words_here) ++ text members now (drop (i + 1) lines) ≡ all
  text_step now all written goes so_far =
      append_assoc written words_here (text members now (drop (i + 1) lines))
      ∙ (ap (λ bytes. written ++ (words_here ++ bytes)) (sym (rest_goes led (λ later. text members later (drop (i + 1) lines)) now goes))
      ∙ text_here all written so_far)

  -- what stops the rest stops everything
  pub stop_step : (now : List LeadEvent) (reached : Option (LimitKind × ℕ)) → led ≡ Leads now → stop_of members events (drop i lines) ≡ reached → stop_of members now (drop (i + 1) lines) ≡ reached
  stop_step now reached goes so_far =
      sym (stop_goes led (λ later. stop_of members later (drop (i + 1) lines)) now goes)
      ∙ (ap (stop_of members events) (sym (next_of lines i d inside at)) ∙ so_far)

  -- the present directive is stopped: no text is left, and everything is stopped there
  pub stops_here : (reached : Option (LimitKind × ℕ)) → stop_of members events (drop i lines) ≡ reached → (one : LimitKind × ℕ) → limit_by led ≡ Some one → (rest_here ≡ []) × (reached ≡ Some one)
  stops_here reached so_far one stops = (
    rest_none led (λ later. text members later (drop (i + 1) lines)) one stops,
    sym so_far ∙ (ap (stop_of members events) (next_of lines i d inside at) ∙ stop_at led (λ later. stop_of members later (drop (i + 1) lines)) one stops),
  )

-- one event stops where its limit says
pub stops_event : (limit : Option (LimitKind × ℕ)) (events : List LeadEvent) (why : LeadStop) → StopsAt limit why → StopsIn (unless limit events) why
stops_event limit events stop.NoMemory h = tt
stops_event limit events (stop.Limit kind number) h = rw h refl

pub stops_as : (led other : Course) (why : LeadStop) → other ≡ led → StopsIn other why → StopsIn led why
stops_as led other stop.NoMemory same h = tt
stops_as led other (stop.Limit kind number) same h = sym same ∙ h

module _ (members : List ℕ) (events : List LeadEvent) (n : ℕ) where
  abbrev after_mail : Option ℕ → Course
  after_mail None = Leads events
  after_mail (Some number) = then_on (unless (limit_of members events (Control number)) (events ++ Control number ∷ [])) (controlled members n)

  control_by : controlled members (suc n) events ≡ after_mail (next_mail members events)
  control_by =
      elim (next_mail members events) as (λ (o : Option ℕ). ◌≡◌ {A = Course} (elim o [
        | None ↦ Leads events
        | Some number ↦ then_on (unless (limit_of members events (Control number)) (events ++ Control number ∷ [])) (controlled members n)
      ]) (after_mail o)) [
        | None ↦ refl
        | Some number ↦ refl
      ]

  -- no message is next
  pub control_ends : next_mail members events ≡ None → controlled members (suc n) events ≡ Leads events
  control_ends e = control_by ∙ ap after_mail e

  control_on : (number : ℕ) → next_mail members events ≡ Some number
      → controlled members (suc n) events ≡ then_on (unless (limit_of members events (Control number)) (events ++ Control number ∷ [])) (controlled members n)
  control_on number e = control_by ∙ ap after_mail e

  -- one more message
  pub control_goes : (number : ℕ) → next_mail members events ≡ Some number → limit_of members events (Control number) ≡ None
      → controlled members (suc n) events ≡ controlled members n (events ++ Control number ∷ [])
  control_goes number e within = control_on number e ∙ ap (λ (o : Option (LimitKind × ℕ)). then_on (unless o (events ++ Control number ∷ [])) (controlled members n)) within

  -- a limit stops it
  pub control_stops : (number : ℕ) (why : LeadStop) → next_mail members events ≡ Some number → StopsAt (limit_of members events (Control number)) why → StopsIn (controlled members (suc n) events) why
  control_stops number stop.NoMemory e stops = tt
  control_stops number (stop.Limit kind limit) e stops =
      control_on number e ∙ ap (λ (o : Option (LimitKind × ℕ)). then_on (unless o (events ++ Control number ∷ [])) (controlled members n)) stops

-- so many are left
pub control_more : (members : List ℕ) (events : List LeadEvent) (times i : ℕ) → i < times → controlled members (suc (times - (i + 1))) events ≡ controlled members (times - i) events
control_more members events times i below = let e : suc (times - (i + 1)) ≡ times - i = omega arith in ap (λ n. controlled members n events) e

-- ---- a line for each epoch

range_more : (a n : ℕ) → range_with_len a (suc n) ≡ range_with_len a n ++ (a + n) ∷ []
range_more a zero = let same : a ≡ a + 0 = omega arith in ap (λ b. b ∷ []) same
range_more a (suc n) =
    let same : a + 1 + n ≡ a + suc n = omega arith in
    ap (λ xs. a ∷ xs) (range_more (a + 1) n ∙ ap (λ b. range_with_len (a + 1) n ++ b ∷ []) same)

pub lines_more : (f : ℕ → List ℕ) (before : List ℕ) (i : ℕ) → (before ++ flat_map f (range_with_len 1 i)) ++ f (i + 1) ≡ before ++ flat_map f (range_with_len 1 (i + 1))
lines_more f before i =
    let next : 1 + i ≡ i + 1 = omega arith in
    let longer : suc i ≡ i + 1 = omega arith in
    let range : range_with_len 1 i ++ (i + 1) ∷ [] ≡ range_with_len 1 (i + 1) =
    ap (λ e. range_with_len 1 i ++ e ∷ []) (sym next) ∙ (sym (range_more 1 i) ∙ ap (range_with_len 1) longer) in
    flat_map_more f before (range_with_len 1 i) (i + 1) ∙ ap (λ xs. before ++ flat_map f xs) range
