use Rattle.std.proofs.Common.{sym, subst}
use Rattle.std.specs.Prelude.{IfErr, Err}
use Rattle.topology.specs.Net.{Net}
use Rattle.schedule_file.specs.declared.table.Part.TheVariants.{Over}
use Rattle.schedule_file.specs.Ends.{IsWantOfMemory, IsBadOrMemory}
use Rattle.schedule_file.proofs.Files.{for_memory, first_named, handed_all}
use Rattle.schedule_file.proofs.Readings.{none_first}
use Rattle.schedule_file.proofs.parser.parse_topology.Goals as goal

pub returns-in_err-topology-clause-complete : goal.returns-in_err-topology-clause-complete
returns-in_err-topology-clause-complete c = λ net file. handed_all c.from_residual.result _ (λ r. IfErr r IsWantOfMemory) c.from_residual.ensures (λ why same.
    subst IsWantOfMemory (sym same) (for_memory Over c.args.text.now c.in_err-topology.field-0.0 file.0 c.in_err-topology.ensures.err file.1))

pub returns-in_err-topology-clause-named : goal.returns-in_err-topology-clause-named
returns-in_err-topology-clause-named c = λ line kind first. handed_all c.from_residual.result _ (IsBadOrMemory line kind) c.from_residual.ensures (λ why same.
    subst (λ e. IsBadOrMemory {T = Net} line kind (Err e)) (sym same) (first_named Net Over c.args.text.now c.in_err-topology.field-0.0 line kind c.in_err-topology.ensures.err first))

pub returns-clause-named : goal.returns-clause-named
returns-clause-named c = λ line kind first.
    let read = c.in_ok-topology.ensures.ok in
    none_first Over c.args.text.now read.0 line kind read.1 first
