use Rattle.std.proofs.Common.{◌≡◌, ◌∙◌, Some, sym, ap, arith, map, slice_get}
use Rattle.std.proofs.lemmas.List.{length-map}
use Rattle.std.proofs.lemmas.Option.{slice_get_within}
use Rattle.link_model.specs.Tables.{answer, cell}
use Rattle.link_model.proofs.Places.{same_some}
use Rattle.link_model.proofs.Tables.{cell_at, if_some}
use Rattle.link_model.proofs.way_table.WayTable.way_of.Goals as goal

pub returns-in_err-sender-clause-found : goal.returns-in_err-sender-clause-found
returns-in_err-sender-clause-found c way e =
    let at = c.self.invariant.found c.args.from c.args.to way (ap (λ l. slice_get l way) c.self.view_is ∙ e) in
    let found = c.rank.ensures.found at.sender at.from in
    absurd (cc (found, c.in_err-sender.was))

pub returns-in_err-receiver-clause-found : goal.returns-in_err-receiver-clause-found
returns-in_err-receiver-clause-found c way e =
    let at = c.self.invariant.found c.args.from c.args.to way (ap (λ l. slice_get l way) c.self.view_is ∙ e) in
    let found = c.rank-2.ensures.found at.receiver at.to in
    absurd (cc (found, c.in_err-receiver.was))

pub index-requires : goal.index-requires
index-requires c =
    let inside = slice_get_within c.self.inside.ranks c.in_ok-sender.sender c.args.from c.in_ok-sender.ensures.some in
    let long = length-map c.self.inside.rows.items (λ row. row.items) in
    omega (arith, inside, long, c.self.invariant.wide, c.self.inside.rows.ok.0)

pub returns-clause-some : goal.returns-clause-some
returns-clause-some c = if_some c.entry.result _ (λ way is.
    let inside = slice_get_within c.self.inside.ranks c.in_ok-sender.sender c.args.from c.in_ok-sender.ensures.some in
    let long = length-map c.self.inside.rows.items (λ row. row.items) in
    let here = cell_at (λ row. row.items) c.self.inside.rows.items c.in_ok-sender.sender c.in_ok-receiver.receiver c.index.result.now (omega (arith, inside, long, c.self.invariant.wide)) c.index.ensures in
    let stands = here ∙ (sym (c.entry.ensures ∙ ap (λ l. answer l c.in_ok-receiver.receiver) c.deref.ensures.value) ∙ is) in
    let right = c.self.invariant.right c.in_ok-sender.sender c.in_ok-receiver.receiver c.args.from c.args.to way c.in_ok-sender.ensures.some c.in_ok-receiver.ensures.some stands in
    ap (λ l. slice_get l way) (sym c.self.view_is) ∙ right)

pub returns-clause-found : goal.returns-clause-found
returns-clause-found c way e =
    let at = c.self.invariant.found c.args.from c.args.to way (ap (λ l. slice_get l way) c.self.view_is ∙ e) in
    let is_sender : at.sender ≡ c.in_ok-sender.sender = same_some at.sender c.in_ok-sender.sender (sym (c.rank.ensures.found at.sender at.from) ∙ c.in_ok-sender.was) in
    let is_receiver : at.receiver ≡ c.in_ok-receiver.receiver = same_some at.receiver c.in_ok-receiver.receiver (sym (c.rank-2.ensures.found at.receiver at.to) ∙ c.in_ok-receiver.was) in
    let inside = slice_get_within c.self.inside.ranks c.in_ok-sender.sender c.args.from c.in_ok-sender.ensures.some in
    let long = length-map c.self.inside.rows.items (λ row. row.items) in
    let here = cell_at (λ row. row.items) c.self.inside.rows.items c.in_ok-sender.sender c.in_ok-receiver.receiver c.index.result.now (omega (arith, inside, long, c.self.invariant.wide)) c.index.ensures in
    let there : cell (map (λ row. row.items) c.self.inside.rows.items) c.in_ok-sender.sender c.in_ok-receiver.receiver ≡ Some way =
    ap (λ i. cell (map (λ row. row.items) c.self.inside.rows.items) i c.in_ok-receiver.receiver) (sym is_sender) ∙ (ap (cell (map (λ row. row.items) c.self.inside.rows.items) at.sender) (sym is_receiver) ∙ at.here) in
    c.entry.ensures ∙ (ap (λ l. answer l c.in_ok-receiver.receiver) c.deref.ensures.value ∙ (sym here ∙ there))

pub returns-clause-few : goal.returns-clause-few
returns-clause-few c = if_some c.entry.result _ (λ way is.
    let inside = slice_get_within c.self.inside.ranks c.in_ok-sender.sender c.args.from c.in_ok-sender.ensures.some in
    let long = length-map c.self.inside.rows.items (λ row. row.items) in
    let here = cell_at (λ row. row.items) c.self.inside.rows.items c.in_ok-sender.sender c.in_ok-receiver.receiver c.index.result.now (omega (arith, inside, long, c.self.invariant.wide)) c.index.ensures in
    let stands = here ∙ (sym (c.entry.ensures ∙ ap (λ l. answer l c.in_ok-receiver.receiver) c.deref.ensures.value) ∙ is) in
    let right = c.self.invariant.right c.in_ok-sender.sender c.in_ok-receiver.receiver c.args.from c.args.to way c.in_ok-sender.ensures.some c.in_ok-receiver.ensures.some stands in
    let within = slice_get_within c.self.inside.ways.items way _ right in
    omega (arith, within, c.self.invariant.few))
