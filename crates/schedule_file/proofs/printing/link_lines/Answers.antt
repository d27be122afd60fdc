use Rattle.std.proofs.Common.{◌++◌, sym, ap, ◌∙◌}
use Rattle.std.specs.Prelude.{slice_get}
use Rattle.std.specs.String.{string_bytes}
use Rattle.topology.specs.declared.links.Link.{Link}
use Rattle.schedule_file.specs.declared.lines.Line.TheVariants.{Declares}
use Rattle.schedule_file.specs.declared.lines.Declaration.TheVariants as declares
use Rattle.schedule_file.specs.Printing.{line_text, link_line}
use Rattle.schedule_file.proofs.Growing.{text_next, text_whole, mapped_some, mapped_none}
use Rattle.schedule_file.proofs.printing.link_lines.Goals as goal

pub loop-link-preserved : goal.loop-link-preserved
loop-link-preserved c =
    let net = c.args.topology.now in
    let out = string_bytes c.loop-link.out in
    let at = mapped_some (λ (link : Link). (link.a, link.b, link.relation)) (slice_get net.links c.loop-link.place) c.in-Some.link (sym c.link_at.ensures ∙ c.in-Some.is) in
    text_next link_line net.links c.loop-link.place at.0 (string_bytes c.args.out.now) out (string_bytes c.push_line.new.out) at.1 c.loop-link.invariant
    (c.in_ok-push_line.ensures ∙ ap (λ t. out ++ line_text (Declares (declares.Link t.0 t.1 t.2))) (sym at.2))

pub returns : goal.returns
returns c =
    let net = c.args.topology.now in
    text_whole link_line net.links c.loop-link.place (string_bytes c.args.out.now) (string_bytes c.loop-link.out)
    (mapped_none (λ (link : Link). (link.a, link.b, link.relation)) (slice_get net.links c.loop-link.place) (sym c.link_at.ensures ∙ c.in_default.is)) c.loop-link.invariant
