use Rattle.std.proofs.Common.{ℕ, List, [], ◌<◌, ◌≤◌, ◌+◌, ◌-◌, length, get_or, arith, refl, sym, ◌∙◌, subst}
use Rattle.route_replay.specs.ControlText.{mail_lines, control_text}
use Rattle.route_replay.specs.Gathering.{Breaks}
use Rattle.route_replay.proofs.Gathered.{handed_on, gathers_nothing, words_spilled, gathers_step, gathers_all, breaks_step, breaks_short, line_at, line_made}
use Rattle.route_replay.proofs.Shown.{length-mail_lines}
use Rattle.route_replay.proofs.control_text.all_mails.Goals as goal

abbrev as_it_is : List ℕ → List ℕ
as_it_is line = line

pub loop-place-init : goal.loop-place-init
loop-place-init g c = record { gathers = gathers_nothing _; same_sink = refl }

-- one more line is gathered
pub loop-place-preserved : goal.loop-place-preserved
loop-place-preserved g c =
    let world = c.args.world.now in
    let lines = mail_lines (g.P.Policy.rules world.policy) world.net world.events in
    let place = c.loop-place.place in
    let inside : place < length lines = omega (arith, c.mail_count-place-end.ensures, length-mail_lines (g.P.Policy.rules world.policy) world.net world.events, c.loop-place-test.true) in
    let made = line_made lines place (place + 1 - 1) _ _ inside (omega arith) c.in_ok-add_mail.ensures in
    record {
      gathers = gathers_step as_it_is lines place _ _ _ (get_or lines place []) inside (line_at lines place inside) c.loop-place.invariant.gathers
          (words_spilled _ _ _ (get_or lines place []) made c.in_ok-spill.ensures.gathers);
      same_sink = c.spill.ensures.same_sink ∙ c.loop-place.invariant.same_sink;
    }

-- memory ran out: some of the text was written
pub returns-in_err-add_mail-clause-breaks : goal.returns-in_err-add_mail-clause-breaks
unfolding control_text
returns-in_err-add_mail-clause-breaks g c =
    let world = c.args.world.now in
    let lines = mail_lines (g.P.Policy.rules world.policy) world.net world.events in
    handed_on c.from_residual.result _ _ c.from_residual.ensures (λ why same.
    subst (Breaks _ _ _) (sym same) (breaks_short as_it_is lines c.loop-place.place _ _ c.loop-place.invariant.gathers))

-- a page was not written
pub returns-in_err-spill-clause-breaks : goal.returns-in_err-spill-clause-breaks
unfolding control_text
returns-in_err-spill-clause-breaks g c =
    let world = c.args.world.now in
    let lines = mail_lines (g.P.Policy.rules world.policy) world.net world.events in
    let place = c.loop-place.place in
    let inside : place < length lines = omega (arith, c.mail_count-place-end.ensures, length-mail_lines (g.P.Policy.rules world.policy) world.net world.events, c.loop-place-test.true) in
    let made = line_made lines place (place + 1 - 1) _ _ inside (omega arith) c.in_ok-add_mail.ensures in
    let broke = rw made at c.in_err-spill.ensures.breaks in
    handed_on c.from_residual-in_err-spill.result _ _ c.from_residual-in_err-spill.ensures (λ why same.
    subst (Breaks _ _ _) (sym same)
    (breaks_step as_it_is lines place _ _ _ (get_or lines place []) c.in_err-spill.field-0.0 inside (line_at lines place inside) c.loop-place.invariant.gathers broke))

-- all lines are
pub returns-clause-gathers : goal.returns-clause-gathers
unfolding control_text
returns-clause-gathers g c =
    let world = c.args.world.now in
    let lines = mail_lines (g.P.Policy.rules world.policy) world.net world.events in
    let over : length lines ≤ c.loop-place.place = omega (arith, c.mail_count-place-end.ensures, length-mail_lines (g.P.Policy.rules world.policy) world.net world.events, c.loop-place-test.false) in
    gathers_all as_it_is lines c.loop-place.place _ _ over c.loop-place.invariant.gathers
