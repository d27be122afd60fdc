-- The words of walks.
use Rattle.std.specs.Prelude.{ℕ, Option, Some, None, List, ◌++◌, codes}
use Rattle.std.specs.List.{flat_map}
use Rattle.std.specs.Fmt.{decimal}
use Rattle.epoch_packet.specs.declared.walks.End.{End}
use Rattle.epoch_packet.specs.declared.walks.End.TheVariants.{Delivered, Expired, Stuck}
use Rattle.epoch_packet.specs.declared.walks.Mode.{Mode}
use Rattle.epoch_packet.specs.declared.walks.Mode.TheVariants.{Stable, Transient}
use Rattle.epoch_packet.specs.declared.walks.Visit.{Visit}
use Rattle.view_words.specs.Lines.{ended}

-- the epoch by whose tables the packet is forwarded, or "t" where it is in a transient mode
abbrev pub mode_text : Mode → ℕ → List ℕ
mode_text Stable e = decimal e
mode_text Transient e = codes "t"

-- a visit
abbrev pub visit_text : Visit → List ℕ
visit_text v = codes " " ++ decimal v.node ++ codes "@" ++ mode_text v.mode v.epoch

-- how the walk ended
abbrev pub end_text : Option End → List ℕ
end_text None = codes "moving"
end_text (Some Delivered) = codes "delivered"
end_text (Some Expired) = codes "expired"
end_text (Some Stuck) = codes "stuck"

-- the number of the packet
abbrev pub walk_head : ℕ → List ℕ
walk_head k = codes "walk " ++ decimal k ++ codes ":"

-- the visits, the oldest first, and how the walk ended
abbrev pub course_text : Option (List Visit × Option End) → List ℕ
course_text None = codes " unknown"
course_text (Some walk) = flat_map visit_text walk.0 ++ (codes " " ++ end_text walk.1)

-- the line of this walk
abbrev pub walk_line : ℕ → Option (List Visit × Option End) → List ℕ
walk_line k walk = ended (walk_head k ++ course_text walk)
