use Rattle.std.proofs.Common.{rules, tests, ◌≡◌, ◌∙◌, ap}
use Rattle.std.proofs.lemmas.Iterator.{first_from_find, YieldsList-from_slice}
use Rattle.trigger_log.specs.Rows.{MarkRows, joined}
use Rattle.trigger_log.proofs.Finding.{Is, IsNot, Finds, found, unfound}
use Rattle.trigger_log.proofs.sessions.Sessions.find.Goals as goal

joins_now : (c : goal.After-find) → c.self.inside.marks.items ≡ joined c.args.self.now.rows
joins_now c = c.self.invariant.has.joins ∙ ap (λ (r : MarkRows). joined r.rows) c.self.view_is

finds : (c : goal.After-find) → Finds (λ x. x.now) c.find.result c.self.inside.marks.items c.args.nbr c.args.session
finds c = first_from_find _ _ _ (Is c.args.nbr c.args.session) (IsNot c.args.nbr c.args.session) c.find.ensures.ran (YieldsList-from_slice c.self.inside.marks.items cc)
    (λ x q k. search (rules, tests)) (λ x q k. search (rules, tests))

pub returns-clause-some : goal.returns-clause-some
returns-clause-some c = found (λ x. x.now) c.find.result c.args.nbr c.args.session c.self.inside.marks.items (joined c.args.self.now.rows) (joins_now c) (finds c)

pub returns-clause-none : goal.returns-clause-none
returns-clause-none c = unfound (λ x. x.now) c.find.result c.args.nbr c.args.session c.self.inside.marks.items (joined c.args.self.now.rows) (joins_now c) (finds c)
