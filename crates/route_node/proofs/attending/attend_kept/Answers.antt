use Rattle.std.proofs.Common.{◌≡◌, true, false, Ok, Err, sym, ◌∙◌, subst, refl}
use Rattle.topology.specs.Lists.{has}
use Rattle.topology.specs.Net.{Net}
use Rattle.topology.specs.declared.status.Status.TheVariants.{NoMemory, NoSuchNode}
use Rattle.path_vector.specs.GaoRexford.{gao_rexford}
use Rattle.route_io.specs.Views.{LinkView}
use Rattle.route_node.specs.Attended.{endpoint}
use Rattle.route_node.specs.AttendedKept.{kept_endpoint, outside}
use Rattle.route_node.specs.Restored.{IsRestored, Restored}
use Rattle.route_node.specs.ServedKept.{ServedKept}
use Rattle.route_node.specs.Who.{again}
use Rattle.route_node.proofs.KeptNetworks.{kept_early, kept_unrestored, kept_undialled, kept_served}
use Rattle.route_node.proofs.Networks.{no_place, has_place, never_failed, dial_fails, dialled, ends_missing, ends_no_memory}
use Rattle.route_node.proofs.attending.attend_kept.Goals as goal

pub returns-in-Err : goal.returns-in-Err
returns-in-Err g c =
    kept_early (kept_endpoint c.args.here.id c.args.here.address.now c.args.here.file.now) (outside (g.I.Source.seen c.args.source.now) (g.L.Link.seen c.args.link.now) (g.D.Disk.seen c.args.disk.now)) _ _ c.in-Err.ensures.early
    (c.in-Err.ensures.err (endpoint c.args.here.id c.args.here.address.now) (g.L.Link.seen c.args.link.now))

pub returns-then-is_none : goal.returns-then-is_none
returns-then-is_none g c =
    let net = c.in-Ok.network.value in
    let none : has net.nodes c.args.here.id ≡ false = subst (λ (n : Net). has n.nodes c.args.here.id ≡ false) c.deref.ensures (c.rank_of.ensures.none.0 (no_place c.rank_of.result c.is_none.result c.is_none.ensures c.if-is_none.true)) in
    kept_early (kept_endpoint c.args.here.id c.args.here.address.now c.args.here.file.now) (outside (g.I.Source.seen c.args.source.now) (g.L.Link.seen c.args.link.now) (g.D.Disk.seen c.args.disk.now)) _ (NoSuchNode c.args.here.id) refl
    (ends_missing (endpoint c.args.here.id c.args.here.address.now) (g.I.Source.seen c.args.source.now) (g.I.Source.seen c.network_of.new.source) net c.in-Ok.ensures.ok (g.L.Link.seen c.args.link.now) none)

pub returns-in_default : goal.returns-in_default
returns-in_default g c =
    kept_early (kept_endpoint c.args.here.id c.args.here.address.now c.args.here.file.now) (outside (g.I.Source.seen c.args.source.now) (g.L.Link.seen c.args.link.now) (g.D.Disk.seen c.args.disk.now)) _ NoMemory refl
    (ends_no_memory (endpoint c.args.here.id c.args.here.address.now) (g.I.Source.seen c.args.source.now) (g.I.Source.seen c.network_of.new.source) (g.L.Link.seen c.args.link.now) c.in-Ok.ensures.ok.quiet)

pub restore-requires : goal.restore-requires
restore-requires g c =
    let there : has c.in-Ok.network.value.nodes c.args.here.id ≡ true = subst (λ (n : Net). has n.nodes c.args.here.id ≡ true) c.deref.ensures
    (has_place (has c.deref.result.now.nodes c.args.here.id) c.rank_of.result c.is_none.result c.rank_of.ensures.none c.is_none.ensures c.if-is_none.false) in
    subst (λ (n : Net). has n.nodes c.args.here.id ≡ true) (sym c.in-Ok-clone.ensures.cases) there

pub returns-in-Err-restore : goal.returns-in-Err-restore
returns-in-Err-restore g c =
    let net = c.in-Ok.network.value in
    let there : has net.nodes c.args.here.id ≡ true = subst (λ (n : Net). has n.nodes c.args.here.id ≡ true) c.deref.ensures
    (has_place (has c.deref.result.now.nodes c.args.here.id) c.rank_of.result c.is_none.result c.rank_of.ensures.none c.is_none.ensures c.if-is_none.false) in
    kept_unrestored (kept_endpoint c.args.here.id c.args.here.address.now c.args.here.file.now) (outside (g.I.Source.seen c.args.source.now) (g.L.Link.seen c.args.link.now) (g.D.Disk.seen c.args.disk.now)) _ net c.in-Ok.ensures.ok there
    (g.D.Disk.seen c.restore.new.disk) c.in-Err-restore.status
    (subst (λ (n : Net). Restored n c.args.here.id (g.D.Disk.seen c.args.disk.now) (Err c.in-Err-restore.status) (g.D.Disk.seen c.restore.new.disk)) c.in-Ok-clone.ensures.cases c.in-Err-restore.ensures.restored)

pub returns-then-is_err : goal.returns-then-is_err
returns-then-is_err g c =
    let net = c.in-Ok.network.value in
    let link = g.L.Link.seen c.args.link.now in
    let link' = g.L.Link.seen c.dial.new.self in
    let there : has net.nodes c.args.here.id ≡ true = subst (λ (n : Net). has n.nodes c.args.here.id ≡ true) c.deref.ensures
    (has_place (has c.deref.result.now.nodes c.args.here.id) c.rank_of.result c.is_none.result c.rank_of.ensures.none c.is_none.ensures c.if-is_none.false) in
    let failed = sym c.is_err.ensures.value ∙ c.if-is_err.true in
    kept_undialled (kept_endpoint c.args.here.id c.args.here.address.now c.args.here.file.now) (outside (g.I.Source.seen c.args.source.now) link (g.D.Disk.seen c.args.disk.now)) _ net c.in-Ok.ensures.ok there
    (g.D.Disk.seen c.restore.new.disk) c.in-Ok-restore.kept
    (subst (λ (n : Net). Restored n c.args.here.id (g.D.Disk.seen c.args.disk.now) (Ok c.in-Ok-restore.kept) (g.D.Disk.seen c.restore.new.disk)) c.in-Ok-clone.ensures.cases c.in-Ok-restore.ensures.restored)
    c.in-Ok-restore.ensures.opened link' c.dial.ensures.dials c.dial.ensures.others
    (λ sure. never_failed c.dial.result failed (c.dial.ensures.sure sure)) (dial_fails c.dial.result link.faults link'.faults failed c.dial.ensures.cause)

pub serve_kept-requires : goal.serve_kept-requires
serve_kept-requires g c =
    let some = c.in-Ok-restore.ensures.restored.restored c.in-Ok-restore.kept refl in
    record {
      node = c.args.here.id;
      frames = some.0;
      restored = subst (λ (n : Net). IsRestored n c.in-Ok-restore.kept c.args.here.id some.0) c.in-Ok-clone.ensures.cases some.1;
    }

pub returns : goal.returns
returns g c =
    let net = c.in-Ok.network.value in
    let link = g.L.Link.seen c.args.link.now in
    let mid = g.D.Disk.seen c.restore.new.disk in
    let link' = g.L.Link.seen c.serve_kept.new.link in
    let disk' = g.D.Disk.seen c.serve_kept.new.disk in
    let there : has net.nodes c.args.here.id ≡ true = subst (λ (n : Net). has n.nodes c.args.here.id ≡ true) c.deref.ensures
    (has_place (has c.deref.result.now.nodes c.args.here.id) c.rank_of.result c.is_none.result c.rank_of.ensures.none c.is_none.ensures c.if-is_none.false) in
    let same = dialled c.dial.result c.args.here.address.now link (g.L.Link.seen c.dial.new.self) (sym c.is_err.ensures.value ∙ c.if-is_err.false) c.dial.ensures.dials c.dial.ensures.others c.dial.ensures.cause in
    kept_served (kept_endpoint c.args.here.id c.args.here.address.now c.args.here.file.now) (outside (g.I.Source.seen c.args.source.now) link (g.D.Disk.seen c.args.disk.now)) _ net c.in-Ok.ensures.ok there
    mid c.in-Ok-restore.kept
    (subst (λ (n : Net). Restored n c.args.here.id (g.D.Disk.seen c.args.disk.now) (Ok c.in-Ok-restore.kept) mid) c.in-Ok-clone.ensures.cases c.in-Ok-restore.ensures.restored)
    c.in-Ok-restore.ensures.opened link' disk' c.serve_kept.result
    (λ records it. subst (λ (l : LinkView). ServedKept (again gao_rexford net c.args.here.id records) l link' mid disk' c.serve_kept.result) same (c.serve_kept.ensures c.args.here.id records it))
