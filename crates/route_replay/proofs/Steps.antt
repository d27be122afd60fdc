-- One directive of a schedule after the other.
use Rattle.std.proofs.Common.{◌≡◌, ℕ, suc, ◌+◌, ◌<◌, Option, Some, List, [], ◌∷◌, ◌++◌, length, drop, get_or, refl, sym, ap, ◌∙◌, add-one, append_assoc}
use Rattle.std.proofs.Math.Seq.{drop-cons}
use Rattle.topology.specs.Net.{Net}
use Rattle.path_vector.specs.Rules.{Rules}
use Rattle.chronicle.specs.declared.events.Event.{Event}
use Rattle.node_core.specs.NodeLimits.{Reached}
use Rattle.schedule_file.specs.declared.lines.Numbered.{Numbered}
use Rattle.route_replay.specs.Text.{Course, Leads, Stops, text, text_by, said, course, stop, stop_by, task_of}
use Rattle.route_replay.specs.Running.{lines_by, limit_by}

-- what is left begins with the directive at hand
pub next_of : (lines : List Numbered) (i : ℕ) (d : Numbered) → i < length lines → d ≡ get_or lines i d → drop i lines ≡ d ∷ drop (i + 1) lines
next_of lines i d inside at = drop-cons lines i d inside ∙ ap (λ (e : Numbered). e ∷ drop (suc i) lines) (sym at) ∙ ap (λ n. d ∷ drop n lines) (sym (add-one i))

-- the text behind the lines of a directive
abbrev pub rest_by : Course → (List Event → List ℕ) → List ℕ
rest_by (Leads events) rest = rest events
rest_by (Stops at) rest = []

text_split : (words : List ℕ) (led : Course) (rest : List Event → List ℕ) → text_by words led rest ≡ lines_by words led ++ rest_by led rest
text_split words (Leads events) rest = refl
text_split words (Stops at) rest = refl

rest_goes : (led : Course) (rest : List Event → List ℕ) (now : List Event) → led ≡ Leads now → rest_by led rest ≡ rest now
rest_goes led rest now e = rw e refl

stop_goes : (led : Course) (rest : List Event → Option Reached) (now : List Event) → led ≡ Leads now → stop_by led rest ≡ rest now
stop_goes led rest now e = rw e refl

stop_at : (led : Course) (rest : List Event → Option Reached) (one : Reached) → limit_by led ≡ Some one → stop_by led rest ≡ Some one
stop_at (Leads events) rest one e = absurd (cc e)
stop_at (Stops at) rest one e = e

rest_none : (led : Course) (rest : List Event → List ℕ) (one : Reached) → limit_by led ≡ Some one → rest_by led rest ≡ []
rest_none (Leads events) rest one e = absurd (cc e)
rest_none (Stops at) rest one e = refl

module _ (rules : Rules) (net : Net) (events : List Event) (lines : List Numbered) (i : ℕ) (d : Numbered) (inside : i < length lines) (at : d ≡ get_or lines i d) where
  abbrev led : Course
  led = course rules net events (task_of d.directive)

  abbrev words_here : List ℕ
  words_here = lines_by (said rules net events d) led

  abbrev pub rest_here : List ℕ
  rest_here = rest_by led (λ later. text rules net later (drop (i + 1) lines))

  -- the lines of the directive at hand, and the text of what is left behind it
  pub text_here : (all written : List ℕ) → written ++ text rules net events (drop i lines) ≡ all → written ++ (words_here ++ rest_here) ≡ all
  text_here all written so_far =
      ap (λ bytes. written ++ bytes) (sym (text_split (said rules net events d) led (λ later. text rules net later (drop (i + 1) lines))))
      ∙ (ap (λ (ds : List Numbered). written ++ text rules net events ds) (sym (next_of lines i d inside at))
      ∙ so_far)

  -- the text so far, and that of what is left, are the text of all
  pub text_step : (now : List Event) (all written : List ℕ) → led ≡ Leads now → written ++ text rules net events (drop i lines) ≡ all
      → (written ++ words_here) ++ text rules net now (drop (i + 1) lines) ≡ all
  text_step now all written goes so_far =
      append_assoc written words_here (text rules net now (drop (i + 1) lines))
      ∙ (ap (λ bytes. written ++ (words_here ++ bytes)) (sym (rest_goes led (λ later. text rules net later (drop (i + 1) lines)) now goes))
      ∙ text_here all written so_far)

  -- what stops what is left stops all
  pub stop_step : (now : List Event) (reached : Option Reached) → led ≡ Leads now → stop rules net events (drop i lines) ≡ reached → stop rules net now (drop (i + 1) lines) ≡ reached
  stop_step now reached goes so_far =
      sym (stop_goes led (λ later. stop rules net later (drop (i + 1) lines)) now goes)
      ∙ (ap (stop rules net events) (sym (next_of lines i d inside at)) ∙ so_far)

  -- the directive at hand is stopped: no text is left, and all is stopped there
  pub stops_here : (reached : Option Reached) → stop rules net events (drop i lines) ≡ reached → (one : Reached) → limit_by led ≡ Some one → (rest_here ≡ []) × (reached ≡ Some one)
  stops_here reached so_far one stops = (
    rest_none led (λ later. text rules net later (drop (i + 1) lines)) one stops,
    sym so_far ∙ (ap (stop rules net events) (next_of lines i d inside at) ∙ stop_at led (λ later. stop rules net later (drop (i + 1) lines)) one stops),
  )
