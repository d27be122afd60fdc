use Rattle.std.proofs.Common.{◌≡◌, ◌==◌, take, filter}
use Rattle.run_record.specs.Publications.{PublicationView}
use Rattle.route_replay.proofs.tables_text.published_in.Given as goal

-- those of the epoch so far are there
abbrev pub invariant-loop-publication : goal.invariant-loop-publication
invariant-loop-publication g l = l.list.items ≡ filter (λ (p : PublicationView). p.epoch == l.epoch) (take l.publication-index l.publication-items)
