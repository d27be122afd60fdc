use Rattle.load_plan.proofs.Planned.{all_lines}
use Rattle.load_plan.proofs.load_schedule.directives_of.Goals as goal

pub announce-requires : goal.announce-requires
announce-requires c = c.new-lines.ensures.items

pub fail_links-requires : goal.fail_links-requires
fail_links-requires c = c.requires

pub returns : goal.returns
returns c = λ number made is.
    let one = c.in_ok-announce.ensures number is in
    let four = c.in_ok-fail_links.ensures number made one.1 in
    let five = c.in_ok-send_packets.ensures number four.1 in
    all_lines number _ _ _ _ _ one.0 c.in_ok-push.ensures.items c.in_ok-agree.ensures four.0 five
