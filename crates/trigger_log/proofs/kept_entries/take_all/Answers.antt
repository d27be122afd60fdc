use Rattle.std.proofs.Common.{◌≡◌, ◌+◌, suc, drop, fold, sym, ◌∙◌, ap, subst, arith}
use Rattle.path_vector.specs.Parts.{Accepted}
use Rattle.path_vector.specs.Standing.{StandsFor}
use Rattle.trigger_log.specs.KeptEntries.{taken}
use Rattle.trigger_log.proofs.Kept.{accepted_before, drop_next, drop_all}
use Rattle.trigger_log.proofs.kept_entries.take_all.Goals as goal

pub loop-entry-preserved : goal.loop-entry-preserved
loop-entry-preserved g c = λ policy net u first stands a.
    let entries = c.args.entries.now in
    let i = c.loop-entry.entry-index in
    let entry = c.entry-item.result in
    let before = c.loop-entry.invariant policy net u first stands a in
    let past = taken before.0 entry in
    let step : i + 1 ≡ suc i = omega arith in
    let same : fold taken past (drop (i + 1) entries) ≡ fold taken first entries =
    rw step (sym (ap (fold taken before.0) (drop_next entries i entry (omega arith) c.entry-item.is)) ∙ before.1) in (
      past,
      same,
      c.in_ok-apply.ensures.ok policy net u before.0 before.2 (accepted_before past (drop (i + 1) entries) (subst Accepted (sym same) a)).0,
    )

pub returns : goal.returns
returns g c = λ policy net u first stands a.
    let entries = c.args.entries.now in
    let done = c.loop-entry.invariant policy net u first stands a in
    let end : done.0 ≡ fold taken first entries = sym (ap (fold taken done.0) (drop_all c.loop-entry.entry-index entries (omega arith))) ∙ done.1 in
    subst (StandsFor policy net u c.loop-entry.routes) end done.2
