use Rattle.std.proofs.Common.{◌≡◌, ◌<◌, ◌≤◌, ◌++◌, true, length, arith, ap, subst, sym, ◌∙◌}
use Rattle.std.specs.List.{flat_map}
use Rattle.std.proofs.lemmas.List.{take_all, get_or_default}
use Rattle.topology.specs.Lists.{has}
use Rattle.topology.specs.Net.{neighbours}
use Rattle.topology.proofs.Sets.{has_at}
use Rattle.path_vector.specs.History.{held}
use Rattle.trigger_log.specs.Entries.{reads}
use Rattle.marker_snapshot.specs.Rows.{begun_by}
use Rattle.marker_snapshot.proofs.Taking.{one_more}
use Rattle.marker_snapshot.proofs.snapshots.begin_each.Goals as goal

pub loop-nbr-preserved : goal.loop-nbr-preserved
loop-nbr-preserved g c = λ policy net u h log near.
    let nodes = c.args.near.now in
    let i = c.loop-nbr.nbr-index in
    let inside : i < length nodes = omega arith in
    let here : has (neighbours net u) c.nbr-item.result ≡ true = subst (λ ns. has ns c.nbr-item.result ≡ true) near (has_at nodes c.nbr-item.result i inside (get_or_default nodes i 0 c.nbr-item.result inside ∙ sym c.nbr-item.is)) in
    let session = c.held.ensures policy net u h log here in
    one_more c.args.epoch h nodes i c.nbr-item.result c.args.recordings.now c.loop-nbr.recordings c.begin.new.self c.held.result inside c.nbr-item.is session
    (c.loop-nbr.invariant policy net u h log near) c.in_ok-begin.ensures

pub returns : goal.returns
returns g c = λ policy net u h log near.
    let ends : length c.args.near.now ≤ c.loop-nbr.nbr-index = omega arith in
    c.loop-nbr.invariant policy net u h log near
    ∙ ap (λ nodes. c.args.recordings.now ++ flat_map (λ v. begun_by c.args.epoch v (held (reads h) v)) nodes) (take_all c.loop-nbr.nbr-index c.args.near.now ends)
