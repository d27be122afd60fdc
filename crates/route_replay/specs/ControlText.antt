-- The text of control messages: a line for each, by its number.
use Rattle.std.specs.Prelude.{ℕ, List, map}
use Rattle.std.specs.List.{flat_map, enumerate_from}
use Rattle.topology.specs.Net.{Net}
use Rattle.path_vector.specs.Rules.{Rules}
use Rattle.control_mail.specs.Readings.{Letter}
use Rattle.chronicle.specs.declared.events.Event.{Event}
use Rattle.chronicle.specs.Control.{mailed}
use Rattle.chronicle.specs.Deliveries.{deliveries}
use Rattle.chronicle.specs.Run.{run}
use Rattle.view_words.specs.Mails.{mail_line}

-- the lines of all control messages of the run, by their numbers
unfoldable pub mail_lines : Rules → Net → List Event → List (List ℕ)
mail_lines rules net events =
    map (λ (m : ℕ × Letter). mail_line m.0 m.1 (deliveries rules net events m.0))
    (enumerate_from 1 (mailed (run rules net events)))

-- the text of them
unfoldable pub control_text : Rules → Net → List Event → List ℕ
control_text rules net events = flat_map (λ line. line) (mail_lines rules net events)
