use Rattle.std.proofs.Common.{sym, subst}
use Rattle.schedule_file.specs.Grammar.{declared_fault}
use Rattle.schedule_file.specs.Standing.{NamesFault}
use Rattle.schedule_file.proofs.Asking.{handed_on, names_refused_by}
use Rattle.schedule_file.proofs.names.declare.Goals as goal

pub returns-in_err-add_node-in-Node-clause-err : goal.returns-in_err-add_node-in-Node-clause-err
returns-in_err-add_node-in-Node-clause-err c =
    handed_on c.from_residual.result _ _ c.from_residual.ensures (λ why same.
    subst (λ d. NamesFault why (declared_fault c.args.topology.now d)) (sym c.in-Node.is) (names_refused_by _ c.in_err-add_node-in-Node.field-0.0 _ why c.in_err-add_node-in-Node.ensures.refused same))

pub returns-in_err-add_link-in-Link-clause-err : goal.returns-in_err-add_link-in-Link-clause-err
returns-in_err-add_link-in-Link-clause-err c =
    handed_on c.from_residual-in_err-add_link-in-Link.result _ _ c.from_residual-in_err-add_link-in-Link.ensures (λ why same.
    subst (λ d. NamesFault why (declared_fault c.args.topology.now d)) (sym c.in-Link.is) (names_refused_by _ c.in_err-add_link-in-Link.field-0.0 _ why c.in_err-add_link-in-Link.ensures.refused same))

pub returns-in_err-add_pref-in-Pref-clause-err : goal.returns-in_err-add_pref-in-Pref-clause-err
returns-in_err-add_pref-in-Pref-clause-err c =
    handed_on c.from_residual-in_err-add_pref-in-Pref.result _ _ c.from_residual-in_err-add_pref-in-Pref.ensures (λ why same.
    subst (λ d. NamesFault why (declared_fault c.args.topology.now d)) (sym c.in-Pref.is) (names_refused_by _ c.in_err-add_pref-in-Pref.field-0.0 _ why c.in_err-add_pref-in-Pref.ensures.refused same))

pub returns-in_err-add_hold-in-Hold-clause-err : goal.returns-in_err-add_hold-in-Hold-clause-err
returns-in_err-add_hold-in-Hold-clause-err c =
    handed_on c.from_residual-in_err-add_hold-in-Hold.result _ _ c.from_residual-in_err-add_hold-in-Hold.ensures (λ why same.
    subst (λ d. NamesFault why (declared_fault c.args.topology.now d)) (sym c.in-Hold.is) (names_refused_by _ c.in_err-add_hold-in-Hold.field-0.0 _ why c.in_err-add_hold-in-Hold.ensures.refused same))

pub returns-in_err-set_scheme-in-Transient-clause-err : goal.returns-in_err-set_scheme-in-Transient-clause-err
returns-in_err-set_scheme-in-Transient-clause-err c =
    handed_on c.from_residual-in_err-set_scheme-in-Transient.result _ _ c.from_residual-in_err-set_scheme-in-Transient.ensures (λ why same.
    subst (λ d. NamesFault why (declared_fault c.args.topology.now d)) (sym c.in-Transient.is) (names_refused_by _ c.in_err-set_scheme-in-Transient.field-0.0 _ why c.in_err-set_scheme-in-Transient.ensures.refused same))
