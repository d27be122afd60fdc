use Rattle.wire_frames.specs.Formats.{pair}
use Rattle.wire_frames.specs.Fields.{positive, prefix, epoch_or_none, mode, any16, flag, any64, nodes, carried, packet, packet_meaning}
use Rattle.wire_frames.proofs.Passing.{pair_passes, meant_passes}
use Rattle.wire_frames.proofs.parts.PacketLayout.skip.Goals as goal

pub returns : goal.returns
unfolding packet
returns c =
    let end = c.skip-2.new.fields in
    let r = c.skip-2.result in
    meant_passes (pair positive (pair prefix (pair epoch_or_none (pair mode carried)))) packet_meaning c.args.fields.now end r
    (pair_passes positive (pair prefix (pair epoch_or_none (pair mode carried))) c.in_ok-positive.field-0 c.args.fields.now c.positive.new.self end r c.in_ok-positive.ensures
    (pair_passes prefix (pair epoch_or_none (pair mode carried)) c.in_ok-prefix.field-0 c.positive.new.self c.prefix.new.self end r c.in_ok-prefix.ensures
    (pair_passes epoch_or_none (pair mode carried) c.in_ok-epoch_or_none.field-0 c.prefix.new.self c.epoch_or_none.new.self end r c.in_ok-epoch_or_none.ensures
    (pair_passes mode carried c.in_ok-mode.field-0 c.epoch_or_none.new.self c.mode.new.self end r c.in_ok-mode.ensures
    (pair_passes any16 (pair flag (pair any64 (pair nodes nodes))) c.in_ok-any16.field-0 c.mode.new.self c.any16.new.self end r c.in_ok-any16.ensures
    (pair_passes flag (pair any64 (pair nodes nodes)) c.in_ok-flag.field-0 c.any16.new.self c.flag.new.self end r c.in_ok-flag.ensures
    (pair_passes any64 (pair nodes nodes) c.in_ok-any64.field-0 c.flag.new.self c.any64.new.self end r c.in_ok-any64.ensures
    (pair_passes nodes nodes c.in_ok-skip.ensures.0 c.any64.new.self c.skip.new.fields end r c.in_ok-skip.ensures.1 c.skip-2.ensures))))))))
