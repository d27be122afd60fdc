use Rattle.std.proofs.Common.{◌++◌, sym, ap, ◌∙◌}
use Rattle.std.specs.Prelude.{slice_get}
use Rattle.std.specs.String.{string_bytes}
use Rattle.topology.specs.Lists.{has}
use Rattle.schedule_file.specs.declared.lines.Line.TheVariants.{Declares}
use Rattle.schedule_file.specs.declared.lines.Declaration.TheVariants as declares
use Rattle.schedule_file.specs.Printing.{line_text, node_line}
use Rattle.schedule_file.proofs.Growing.{text_next, text_whole, mapped_some, mapped_none}
use Rattle.schedule_file.proofs.printing.node_lines.Goals as goal

pub loop-node-preserved : goal.loop-node-preserved
loop-node-preserved c =
    let net = c.args.topology.now in
    let out = string_bytes c.loop-node.out in
    let at = mapped_some (λ id. (id, has net.consolidators id)) (slice_get net.nodes c.loop-node.place) c.in-Some.node (sym c.node_at.ensures ∙ c.in-Some.is) in
    text_next (node_line net) net.nodes c.loop-node.place at.0 (string_bytes c.args.out.now) out (string_bytes c.push_line.new.out) at.1 c.loop-node.invariant
    (c.in_ok-push_line.ensures ∙ ap (λ t. out ++ line_text (Declares (declares.Node t.0 t.1))) (sym at.2))

pub returns : goal.returns
returns c =
    let net = c.args.topology.now in
    text_whole (node_line net) net.nodes c.loop-node.place (string_bytes c.args.out.now) (string_bytes c.loop-node.out)
    (mapped_none (λ id. (id, has net.consolidators id)) (slice_get net.nodes c.loop-node.place) (sym c.node_at.ensures ∙ c.in_default.is)) c.loop-node.invariant
