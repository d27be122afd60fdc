use Rattle.std.proofs.Common.{◌≡◌, ◌+◌, suc, drop, fold, refl, sym, ◌∙◌, ap, subst, arith}
use Rattle.path_vector.specs.Parts.{Accepted}
use Rattle.path_vector.specs.Standing.{StandsFor}
use Rattle.trigger_log.proofs.Kept.{drop_all}
use Rattle.stable_table.specs.Keeping.{kept_by, kept}
use Rattle.stable_table.proofs.Keeping.{accepted_before, dropped}
use Rattle.stable_table.proofs.routes.routes_of.Goals as goal

pub loop-entry-init : goal.loop-entry-init
loop-entry-init g c = λ policy net u first stands a. (first, refl, c.in_ok-state.ensures policy net u first stands)

pub loop-entry-preserved : goal.loop-entry-preserved
loop-entry-preserved g c = λ policy net u first stands a.
    let incomplete = c.args.incomplete.now in
    let entries = c.args.entries.now in
    let i = c.loop-entry.entry-index in
    let entry = c.entry-item.result in
    let before = c.loop-entry.invariant policy net u first stands a in
    let past = kept_by incomplete before.0 entry in
    let step : i + 1 ≡ suc i = omega arith in
    let same : fold (kept_by incomplete) past (drop (i + 1) entries) ≡ kept incomplete first entries =
    rw step (sym (ap (fold (kept_by incomplete) before.0) (dropped entries i entry (omega arith) c.entry-item.is)) ∙ before.1) in (
      past,
      same,
      c.in_ok-take.ensures policy net u before.0 (accepted_before incomplete past (drop (i + 1) entries) (subst Accepted (sym same) a)) before.2,
    )

pub returns : goal.returns
returns g c = λ policy net u first stands a.
    let incomplete = c.args.incomplete.now in
    let entries = c.args.entries.now in
    let done = c.loop-entry.invariant policy net u first stands a in
    let end : done.0 ≡ kept incomplete first entries = sym (ap (fold (kept_by incomplete) done.0) (drop_all c.loop-entry.entry-index entries (omega arith))) ∙ done.1 in
    subst (StandsFor policy net u c.loop-entry.state) end done.2
