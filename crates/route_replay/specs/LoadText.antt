-- The text of a load: ten counts of its run.
use Rattle.std.specs.Prelude.{ℕ, Bool, true, false, Option, Some, None, List, [], ◌++◌, codes, length}
use Rattle.std.specs.List.{count_by, sum_by}
use Rattle.std.specs.Fmt.{decimal}
use Rattle.epoch_packet.specs.declared.walks.End.{End}
use Rattle.epoch_packet.specs.declared.walks.End.TheVariants.{Delivered, Expired, Stuck}
use Rattle.epoch_packet.specs.declared.walks.Visit.{Visit}
use Rattle.topology.specs.Lists.{ascending}
use Rattle.topology.specs.Net.{Net}
use Rattle.path_vector.specs.GaoRexford.{gao_rexford}
use Rattle.path_vector.specs.Rules.{Rules}
use Rattle.chronicle.specs.declared.events.Event.{Event}
use Rattle.chronicle.specs.Control.{mailed}
use Rattle.chronicle.specs.Facts.{Chronicle}
use Rattle.chronicle.specs.Logs.{log_of}
use Rattle.run_record.specs.Publications.{all_published}
use Rattle.chronicle.specs.Run.{run}
use Rattle.node_core.specs.NodeLimits.{Reached}
use Rattle.run_record.specs.Walks.{walk_of}
use Rattle.schedule_file.specs.declared.lines.Numbered.{Numbered}
use Rattle.view_words.specs.Lines.{ended}
use Rattle.load_plan.specs.LoadNetwork.{load_net}
use Rattle.load_plan.specs.LoadSchedule.{load_lines, load_packets}
use Rattle.route_replay.specs.Text.{events_of, stop}

abbrev pub same_end : End → End → Bool
same_end Delivered Delivered = true
same_end Delivered Expired = false
same_end Delivered Stuck = false
same_end Expired Delivered = false
same_end Expired Expired = true
same_end Expired Stuck = false
same_end Stuck Delivered = false
same_end Stuck Expired = false
same_end Stuck Stuck = true

-- how a walk stands: it goes on, or it ended so
abbrev pub stands_at : Option End → Option End → Bool
stands_at None None = true
stands_at None (Some other) = false
stands_at (Some end) None = false
stands_at (Some end) (Some other) = same_end end other

-- so does the walk of a packet that entered the network
abbrev pub walk_stands : Option End → Option (List Visit × Option End) → Bool
walk_stands end None = false
walk_stands end (Some walk) = stands_at end walk.1

-- how many of the packets stand so
unfoldable pub standing_so : Option End → Chronicle → ℕ
standing_so end past = count_by (λ k. walk_stands end (walk_of k past)) load_packets

-- the entries of all logs
unfoldable pub entries_of : Net → Chronicle → ℕ
entries_of net past = sum_by (λ u. length (log_of u past)) (ascending net.nodes)

-- a word, and how many there are
abbrev pub count_line : List ℕ → ℕ → List ℕ
count_line word n = ended (word ++ codes " " ++ decimal n)

-- the sizes of the network and of the run
unfoldable pub size_lines : Net → List Event → Chronicle → List ℕ
size_lines net events past =
    count_line (codes "nodes") (length net.nodes) ++ count_line (codes "links") (length net.links)
    ++ count_line (codes "events") (length events) ++ count_line (codes "entries") (entries_of net past)
    ++ count_line (codes "control") (length (mailed past)) ++ count_line (codes "publications") (length (all_published past))

-- the packets by how their walks stand
unfoldable pub walk_lines : Chronicle → List ℕ
walk_lines past =
    count_line (codes "delivered") (standing_so (Some Delivered) past) ++ count_line (codes "expired") (standing_so (Some Expired) past)
    ++ count_line (codes "stuck") (standing_so (Some Stuck) past) ++ count_line (codes "moving") (standing_so None past)

-- the counts of the run of these events, the idle ones among them
unfoldable pub summary : Rules → Net → List Event → List ℕ
summary rules net events = size_lines net events (run rules net events) ++ walk_lines (run rules net events)

-- the events of the load of this number, up to the directive that a limit stops
unfoldable pub load_events : ℕ → List Event
load_events number = events_of gao_rexford (load_net number) [] (load_lines number)

-- the limit that stops it, where one does
unfoldable pub load_stop : ℕ → Option Reached
load_stop number = stop gao_rexford (load_net number) [] (load_lines number)

-- what is written of lines: the counts of their run, and nothing where a limit stops them
abbrev pub unless_stopped : Option Reached → List ℕ → List ℕ
unless_stopped None text = text
unless_stopped (Some reached) text = []

abbrev pub counted : Rules → Net → List Event → List Numbered → List ℕ
counted rules net events lines =
    unless_stopped (stop rules net events lines) (summary rules net (events_of rules net events lines))

unfoldable pub load_text : ℕ → List ℕ
load_text number = counted gao_rexford (load_net number) [] (load_lines number)
