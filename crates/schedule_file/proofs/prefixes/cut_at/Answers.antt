use Rattle.schedule_file.proofs.Cuts.{cut_there}
use Rattle.schedule_file.proofs.prefixes.cut_at.Goals as goal

pub returns-then-byte-mark : goal.returns-then-byte-mark
returns-then-byte-mark c =
    let there = cut_there c.args.mark c.loop-place.place c.args.bytes.now c.loop-place-test.true c.if-byte-mark.true in
    record {
      unmarked = rw c.split_at.ensures.front c.loop-place.invariant;
      whole = cc;
    }
