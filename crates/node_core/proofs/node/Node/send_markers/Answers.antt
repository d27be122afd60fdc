use Rattle.std.proofs.Common.{◌≡◌, ◌<◌, ◌≤◌, ◌++◌, true, None, Some, length, map, arith, ap, subst, sym, ◌∙◌, flat_map}
use Rattle.std.proofs.lemmas.List.{append-nil, take_all, get_or_default}
use Rattle.topology.specs.declared.items.Item.TheVariants as message
use Rattle.topology.specs.Lists.{has}
use Rattle.topology.specs.Net.{neighbours}
use Rattle.topology.proofs.Sets.{has_at}
use Rattle.node_core.specs.declared.outputs.Output.TheVariants as given
use Rattle.node_core.specs.Outputs.{Send, output_of}
use Rattle.node_core.proofs.Handing.{one_more}
use Rattle.node_core.proofs.Raising.{marker_to, marker_more, all_markers}
use Rattle.node_core.proofs.Unboxed.{net_of, id_of}
use Rattle.node_core.proofs.node.Node.send_markers.Goals as goal

pub loop-nbr-preserved-in_default : goal.loop-nbr-preserved-in_default
loop-nbr-preserved-in_default g c = λ policy net u h same_net same_id log.
    let nodes = c.neighbours-nbr-items.result.now in
    let i = c.loop-nbr.nbr-index in
    let w = c.nbr-item.result in
    let old = c.loop-nbr.outputs in
    let near = c.neighbours-nbr-items.ensures.neighbours ∙ (ap (λ n. neighbours n c.deref-3.result.now.id) (net_of c.deref-2.ensures c.deref.ensures same_net) ∙ ap (neighbours net) (id_of c.deref-3.ensures same_id)) in
    let inside : i < length nodes = omega arith in
    let here : has (neighbours net u) w ≡ true = subst (λ ns. has ns w ≡ true) near (has_at nodes w i inside (get_or_default nodes i 0 w inside ∙ sym c.nbr-item.is)) in
    let none = sym c.in_default.is ∙ (rw c.deref-in-loop-nbr.ensures at c.held.ensures) policy net u h log here in
    marker_more h c.args.epoch nodes i w None c.args.outputs.now old old inside c.nbr-item.is none
    (c.loop-nbr.invariant policy net u h same_net same_id log) (sym (append-nil (map output_of old)))

pub loop-nbr-preserved : goal.loop-nbr-preserved
loop-nbr-preserved g c = λ policy net u h same_net same_id log.
    let nodes = c.neighbours-nbr-items.result.now in
    let i = c.loop-nbr.nbr-index in
    let w = c.nbr-item.result in
    let s = c.in-Some.session in
    let old = c.loop-nbr.outputs in
    let near = c.neighbours-nbr-items.ensures.neighbours ∙ (ap (λ n. neighbours n c.deref-3.result.now.id) (net_of c.deref-2.ensures c.deref.ensures same_net) ∙ ap (neighbours net) (id_of c.deref-3.ensures same_id)) in
    let inside : i < length nodes = omega arith in
    let here : has (neighbours net u) w ≡ true = subst (λ ns. has ns w ≡ true) near (has_at nodes w i inside (get_or_default nodes i 0 w inside ∙ sym c.nbr-item.is)) in
    let some = sym c.in-Some.is ∙ (rw c.deref-in-loop-nbr.ensures at c.held.ensures) policy net u h log here in
    marker_more h c.args.epoch nodes i w (Some s) c.args.outputs.now old c.push.new.self inside c.nbr-item.is some
    (c.loop-nbr.invariant policy net u h same_net same_id log)
    (one_more old c.push.new.self (given.Send (record { to = w; session = s; item = message.Marker c.args.epoch })) c.in_ok-push.ensures)

pub returns : goal.returns
returns g c = λ policy net u h same_net same_id log.
    let nodes = c.neighbours-nbr-items.result.now in
    let near = c.neighbours-nbr-items.ensures.neighbours ∙ (ap (λ n. neighbours n c.deref-3.result.now.id) (net_of c.deref-2.ensures c.deref.ensures same_net) ∙ ap (neighbours net) (id_of c.deref-3.ensures same_id)) in
    let ends : length nodes ≤ c.loop-nbr.nbr-index = omega arith in
    c.loop-nbr.invariant policy net u h same_net same_id log
    ∙ ap (λ gs. map output_of c.args.outputs.now ++ map Send gs) (ap (flat_map (marker_to h c.args.epoch)) (take_all c.loop-nbr.nbr-index nodes ends) ∙ all_markers h c.args.epoch net u nodes near)
