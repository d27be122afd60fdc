use Rattle.std.proofs.Common.{◌++◌, ◌∷◌, [], ◌∙◌, ap, sym, subst}
use Rattle.std.specs.List.{flat_map}
use Rattle.topology.specs.Net.{neighbours}
use Rattle.topology.specs.declared.names.Trigger.{Trigger}
use Rattle.path_vector.specs.History.{held}
use Rattle.trigger_log.specs.Entries.{reads}
use Rattle.marker_snapshot.specs.Rows.{begun_by}
use Rattle.marker_snapshot.specs.Standing.{StandsFor}
use Rattle.marker_snapshot.proofs.Taking.{cut_stands, cut_with}
use Rattle.marker_snapshot.proofs.snapshots.Snapshots.take.Goals as goal

pub returns : goal.returns
returns g c = λ policy u h acts stands log above.
    let net = c.args.topology.now in
    let inside = c.taken.inside in
    let node = ap (λ (t : Trigger). t.node) (c.next_trigger.ensures policy net u h log) in
    let near = c.neighbours-near.ensures.neighbours ∙ ap (neighbours net) node in
    let rows = c.in_ok-begin_each.ensures policy net u h log near
    ∙ ap (λ ns. inside.recordings ++ flat_map (λ v. begun_by c.args.epoch v (held (reads h) v)) ns) near in
    let cuts = c.in_ok-push.ensures.items ∙ ap (λ n. inside.cuts.items ++ cut_with c.args.epoch n ∷ []) (c.len.ensures policy net u h log) in
    cut_stands net u (record { epoch = inside.epoch; cuts = inside.cuts.items; rows = inside.recordings }) acts c.args.epoch h
    (subst (λ kept. StandsFor net u kept acts) (sym c.taken.view_is) stands) above c.push.new.self.items c.begin_each.new.recordings cuts rows
