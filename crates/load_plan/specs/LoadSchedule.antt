-- What happens in a load: prefixes are announced, epochs are agreed on while links fail, and packets go.
use Rattle.std.specs.Prelude.{ℕ, ◌+◌, ◌-◌, Some, List, [], ◌∷◌, ◌++◌, map}
use Rattle.std.specs.List.{flat_map, range_with_len}
use Rattle.schedule_file.specs.declared.directives.Directive.{Directive}
use Rattle.schedule_file.specs.declared.directives.Directive.TheVariants.{Originate, Fail, Notice, Snap, Propose, Drain, ControlAll, Inject, Hop}
use Rattle.schedule_file.specs.declared.lines.Numbered.{Numbered}
use Rattle.load_plan.specs.Draws.{drawn}
use Rattle.load_plan.specs.LoadNetwork.{first_provider}

-- the node that announces prefix k: a draw for each, behind the 42 of the links
unfoldable pub announcer : ℕ → ℕ → ℕ
announcer number k = drawn number (43 + k) 24 + 1

-- the node that loses its first provider before epoch r: a draw for each of three, behind those
unfoldable pub cut_off_node : ℕ → ℕ → ℕ
cut_off_node number r = drawn number (53 + r) 21 + 4

-- the node where packet k enters: a draw for each, behind those
unfoldable pub entrance : ℕ → ℕ → ℕ
entrance number k = drawn number (57 + k) 24 + 1

abbrev pub announcement : ℕ → ℕ → Directive ℕ
announcement number k = Originate (announcer number k) k

-- node 1 begins an epoch, all is delivered, and this node proposes its value
abbrev pub epoch_lines : ℕ → ℕ → List (Directive ℕ)
epoch_lines proposer epoch =
    Snap 1 ∷ Drain 1000000 ∷ ControlAll 16384 ∷ Propose proposer epoch ∷ ControlAll 16384 ∷ []

-- the link of a node and its first provider fails, which both notice; twenty deliveries later node 1 begins an epoch
abbrev pub failing_lines : ℕ → ℕ → ℕ → List (Directive ℕ)
failing_lines provider node epoch =
    (Fail provider node ∷ Notice provider node ∷ Notice node provider ∷ Drain 20 ∷ []) ++ epoch_lines 2 epoch

-- epoch r, from 2
abbrev pub further_epoch : ℕ → ℕ → List (Directive ℕ)
further_epoch number r = failing_lines (first_provider number (cut_off_node number r)) (cut_off_node number r) r

-- packet k, from 1, for prefix k - 1
abbrev pub packet_lines : ℕ → ℕ → List (Directive ℕ)
packet_lines number k = Inject k (entrance number k) (k - 1) ∷ Hop k (Some 200) ∷ []

-- the packets
unfoldable pub load_packets : List ℕ
load_packets = range_with_len 1 12

-- the first n announcements, the epochs up to epoch e from 2 on, and the first packets
unfoldable pub announcements : ℕ → ℕ → List (Directive ℕ)
announcements number n = map (announcement number) (range_with_len 0 n)

unfoldable pub further_epochs : ℕ → ℕ → List (Directive ℕ)
further_epochs number n = flat_map (further_epoch number) (range_with_len 2 n)

unfoldable pub packets_lines : ℕ → ℕ → List (Directive ℕ)
packets_lines number n = flat_map (packet_lines number) (range_with_len 1 n)

-- all that happens, in order
unfoldable pub load_directives : ℕ → List (Directive ℕ)
load_directives number =
    announcements number 12 ++ (Drain 1000000 ∷ epoch_lines 1 1) ++ further_epochs number 3 ++ packets_lines number 12

-- the same as lines; their numbers mean nothing, since a load writes no idle lines
abbrev pub unnumbered : List (Directive ℕ) → List Numbered
unnumbered directives = map (λ (d : Directive ℕ). record { line = 0; directive = d }) directives

unfoldable pub load_lines : ℕ → List Numbered
load_lines number = unnumbered (load_directives number)
