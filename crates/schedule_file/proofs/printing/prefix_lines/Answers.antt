use Rattle.std.proofs.Common.{sym, ap, ◌∙◌}
use Rattle.std.specs.Prelude.{slice_get}
use Rattle.std.specs.String.{string_bytes}
use Rattle.schedule_file.specs.Printing.{prefix_line}
use Rattle.schedule_file.proofs.Growing.{text_next, text_whole}
use Rattle.schedule_file.proofs.printing.prefix_lines.Goals as goal

pub loop-prefix-preserved : goal.loop-prefix-preserved
loop-prefix-preserved c =
    let net = c.args.topology.now in
    text_next prefix_line net.prefixes c.loop-prefix.place c.in-Some.prefix (string_bytes c.args.out.now) (string_bytes c.loop-prefix.out) (string_bytes c.push_line.new.out)
    (ap (slice_get net.prefixes) (sym c.new.ensures) ∙ sym c.prefix.ensures ∙ c.in-Some.is) c.loop-prefix.invariant c.in_ok-push_line.ensures

pub returns : goal.returns
returns c =
    let net = c.args.topology.now in
    text_whole prefix_line net.prefixes c.loop-prefix.place (string_bytes c.args.out.now) (string_bytes c.loop-prefix.out)
    (ap (slice_get net.prefixes) (sym c.new.ensures) ∙ sym c.prefix.ensures ∙ c.in_default.is) c.loop-prefix.invariant
