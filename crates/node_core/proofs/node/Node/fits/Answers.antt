use Rattle.std.proofs.Common.{◌∙◌, sym, true≢false}
use Rattle.node_core.proofs.Admitting.{fits_originate, fits_withdraw, fits_prefer, fits_prefer_far, fits_flush, fits_notice, fits_opening, fits_opening_far, fits_snap, fits_propose, fits_control, fits_inject, fits_inject_zero, fits_hop, fits_hop_not, fits_arrive, fits_arrive_zero, fits_arrive_far}
use Rattle.node_core.proofs.Unboxed.{net_of, id_of}
use Rattle.node_core.proofs.node.Node.fits.Goals as goal
use Rattle.node_core.proofs.node.Node.fits.Goals.{then-is_near-2, else-is_near-2}

pub returns-in-Originate : goal.returns-in-Originate
returns-in-Originate g c = record {
  fits = λ policy net u past was.
      fits_originate net u c.args.input.now c.in-Originate.prefix c.place.result c.prefix_count.result c.deref-in-Originate.result.now c.in-Originate.is c.place.ensures c.prefix_count.ensures.count
      (net_of c.deref-in-Originate.ensures c.deref.ensures was.keeps.same_net);
}

pub returns-in-Withdraw : goal.returns-in-Withdraw
returns-in-Withdraw g c = record {
  fits = λ policy net u past was.
      fits_withdraw net u c.args.input.now c.in-Withdraw.prefix c.place-in-Withdraw.result c.prefix_count-in-Withdraw.result c.deref-in-Withdraw-2.result.now c.in-Withdraw.is
      c.place-in-Withdraw.ensures c.prefix_count-in-Withdraw.ensures.count (net_of c.deref-in-Withdraw-2.ensures c.deref-in-Withdraw.ensures was.keeps.same_net);
}

pub returns-then-is_near : goal.returns-then-is_near
returns-then-is_near g c = record {
  fits = λ policy net u past was.
      fits_prefer net u c.args.input.now c.in-Prefer.nbr c.in-Prefer.value c.is_near.result c.in-Prefer.is (c.is_near.ensures policy net u past was) c.if-is_near.true;
}

pub returns-else-is_near : goal.returns-else-is_near
returns-else-is_near g c = record {
  fits = λ policy net u past was.
      fits_prefer_far net u c.args.input.now c.in-Prefer.nbr c.in-Prefer.value c.is_near.result c.in-Prefer.is (c.is_near.ensures policy net u past was) c.if-is_near.false;
}

pub returns-then-is_number : goal.returns-then-is_number
returns-then-is_number g c = record {
  fits = λ policy net u past was.
      elim c.if-is_near-2.branch [
        | then-is_near-2 w ↦
            fits_arrive net u c.args.input.now c.in-Arrive.from c.in-Arrive.session c.in-Arrive.item c.is_near-in-Arrive.result c.in-Arrive.is (c.is_near-in-Arrive.ensures policy net u past was)
            w.number.result c.item_fits.result c.deref-then-is_number-2.result.now w.number.ensures w.if-is_near-2.true (sym w.is_number.ensures ∙ (sym w.value-is ∙ c.if-is_number.true)) c.item_fits.ensures
            (net_of c.deref-then-is_number-2.ensures c.deref-then-is_number.ensures was.keeps.same_net)
        | else-is_near-2 w ↦ absurd (true≢false (sym c.if-is_number.true ∙ (w.value-is ∙ w.if-is_near-2.false)))
      ];
}

pub returns-else-is_number : goal.returns-else-is_number
returns-else-is_number g c = record {
  fits = λ policy net u past was.
      elim c.if-is_near-2.branch [
        | then-is_near-2 w ↦
            fits_arrive_zero net u c.args.input.now c.in-Arrive.from c.in-Arrive.session c.in-Arrive.item c.is_near-in-Arrive.result c.in-Arrive.is (c.is_near-in-Arrive.ensures policy net u past was)
            w.number.result c.if-is_near-2.value w.number.ensures w.if-is_near-2.true (sym w.is_number.ensures ∙ (sym w.value-is ∙ c.if-is_number.false)) c.if-is_number.false
        | else-is_near-2 w ↦
            fits_arrive_far net u c.args.input.now c.in-Arrive.from c.in-Arrive.session c.in-Arrive.item c.is_near-in-Arrive.result c.in-Arrive.is (c.is_near-in-Arrive.ensures policy net u past was)
            c.if-is_near-2.value w.if-is_near-2.false c.if-is_number.false
      ];
}

pub returns-in-Notice : goal.returns-in-Notice
returns-in-Notice g c = record {
  fits = λ policy net u past was.
      fits_notice net u c.args.input.now c.in-Notice.nbr c.is_near-in-Notice.result c.in-Notice.is (c.is_near-in-Notice.ensures policy net u past was);
}

pub returns-then-is_near-3 : goal.returns-then-is_near-3
returns-then-is_near-3 g c = record {
  fits = λ policy net u past was.
      c.is_number-then-is_near-3.ensures
      ∙ fits_opening net u c.args.input.now c.in-OpenSession.nbr c.in-OpenSession.session c.number-then-is_near-3.result c.is_near-in-OpenSession.result c.in-OpenSession.is
      (c.is_near-in-OpenSession.ensures policy net u past was) c.number-then-is_near-3.ensures c.if-is_near-3.true;
}

pub returns-else-is_near-3 : goal.returns-else-is_near-3
returns-else-is_near-3 g c = record {
  fits = λ policy net u past was.
      fits_opening_far net u c.args.input.now c.in-OpenSession.nbr c.in-OpenSession.session c.is_near-in-OpenSession.result c.in-OpenSession.is
      (c.is_near-in-OpenSession.ensures policy net u past was) c.if-is_near-3.false;
}

pub returns-in-Flush : goal.returns-in-Flush
returns-in-Flush g c = record {
  fits = λ policy net u past was.
      fits_flush net u c.args.input.now c.in-Flush.nbr c.is_near-in-Flush.result c.in-Flush.is (c.is_near-in-Flush.ensures policy net u past was);
}

pub returns-in-Snap : goal.returns-in-Snap
returns-in-Snap g c = record { fits = λ policy net u past was. fits_snap net u c.args.input.now c.in-Snap.is }

pub returns-in-Propose : goal.returns-in-Propose
returns-in-Propose g c = record {
  fits = λ policy net u past was. fits_propose net u c.args.input.now c.in-Propose.epoch c.epoch_fits.result c.in-Propose.is c.epoch_fits.ensures;
}

pub returns-in-Control : goal.returns-in-Control
returns-in-Control g c = record {
  fits = λ policy net u past was.
      fits_control net u c.args.input.now c.in-Control.from c.in-Control.message c.message_fits.result c.deref-in-Control-2.result.now c.in-Control.is c.message_fits.ensures
      (net_of c.deref-in-Control-2.ensures c.deref-in-Control.ensures was.keeps.same_net);
}

pub returns-then-is_number-2 : goal.returns-then-is_number-2
returns-then-is_number-2 g c = record {
  fits = λ policy net u past was.
      fits_inject net u c.args.input.now c.in-Inject.id c.in-Inject.prefix c.place-then-is_number-2.result c.prefix_count-then-is_number-2.result c.deref-then-is_number-2-3.result.now c.in-Inject.is
      c.place-then-is_number-2.ensures c.prefix_count-then-is_number-2.ensures.count (net_of c.deref-then-is_number-2-3.ensures c.deref-then-is_number-2-2.ensures was.keeps.same_net) (sym c.is_number-in-Inject.ensures ∙ c.if-is_number-2.true);
}

pub returns-else-is_number-2 : goal.returns-else-is_number-2
returns-else-is_number-2 g c = record {
  fits = λ policy net u past was.
      fits_inject_zero net u c.args.input.now c.in-Inject.id c.in-Inject.prefix c.is_number-in-Inject.result c.in-Inject.is c.is_number-in-Inject.ensures c.if-is_number-2.false;
}

pub returns-then-packet_fits : goal.returns-then-packet_fits
returns-then-packet_fits g c = record {
  fits = λ policy net u past was.
      fits_hop net u c.args.input.now c.in-Hop.packet c.in-Hop.up c.in-Hop.is c.deref-in-Hop-3.result.now c.deref-in-Hop-3.ensures c.are_links.result c.packet_fits.result c.deref-in-Hop-2.result.now
      c.deref-then-packet_fits-2.result.now c.deref-then-packet_fits-3.result.now.id c.deref-then-packet_fits-4.result.now c.packet_fits.ensures (net_of c.deref-in-Hop-2.ensures c.deref-in-Hop.ensures was.keeps.same_net) c.if-packet_fits.true c.are_links.ensures
      (net_of c.deref-then-packet_fits-2.ensures c.deref-then-packet_fits.ensures was.keeps.same_net) (id_of c.deref-then-packet_fits-3.ensures was.keeps.same_id) c.deref-then-packet_fits-4.ensures.value;
}

pub returns-else-packet_fits : goal.returns-else-packet_fits
returns-else-packet_fits g c = record {
  fits = λ policy net u past was.
      fits_hop_not net u c.args.input.now c.in-Hop.packet c.in-Hop.up c.in-Hop.is c.deref-in-Hop-3.result.now c.deref-in-Hop-3.ensures c.packet_fits.result c.deref-in-Hop-2.result.now c.packet_fits.ensures
      (net_of c.deref-in-Hop-2.ensures c.deref-in-Hop.ensures was.keeps.same_net) c.if-packet_fits.false;
}
