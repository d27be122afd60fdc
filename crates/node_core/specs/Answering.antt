-- The answer of a node before it publishes a table.
use Rattle.std.specs.Prelude.{ℕ, suc, ◌==◌, ◌≡◌, true, false, Option, Some, None, List, ◌∷◌, map, if◌then◌else◌}
use Rattle.topology.specs.Net.{Net}
use Rattle.path_vector.specs.Rules.{Rules}
use Rattle.trigger_log.specs.Dropping.{Trimmed}
use Rattle.incomplete_closure.specs.declared.values.Value.{Value}
use Rattle.stable_table.specs.Tables.{View}
use Rattle.stable_table.specs.Trimming.{trimmed_table, trimmed_table_of}
use Rattle.paxos_core.specs.Facts.{delivery}
use Rattle.consolidator.specs.declared.messages.Reply.{Reply}
use Rattle.consolidator.specs.Answers.{is_for_all}
use Rattle.consolidator.specs.Facts as consolidator
use Rattle.consolidator.specs.Keeping.{Kept}
use Rattle.consolidator.specs.Messages.{Message, epoch_of}
use Rattle.consolidator.specs.Standing.{Handles, Proposes}
use Rattle.chronicle.specs.Facts.{Chronicle, Publish}
use Rattle.chronicle.specs.Drops.{dropped, table_cut}
use Rattle.chronicle.specs.Control.{decision}
use Rattle.chronicle.specs.Inputs.{Input, Propose, Control}
use Rattle.chronicle.specs.Publications.{has_both, is_above, newest}
use Rattle.chronicle.specs.Steps.{Step, Idle, Goes}
use Rattle.cut_laws.specs.Own.{DropsWithin}
use Rattle.node_core.specs.declared.answers.Answer.{Answer}
use Rattle.node_core.specs.declared.answers.Answer.TheVariants.{Did, Idle as Declines}
use Rattle.node_core.specs.declared.outputs.Output.{Output as Given}
use Rattle.node_core.specs.declared.publishing.Due.{Due}
use Rattle.node_core.specs.Outputs.{Output, Mail, Hands}

-- between the two chronicles, u came to have both the cut and the decision of no epoch but this one, if one is named;
-- of this one it had not both before
abbrev pub MayComplete : ℕ → Chronicle → Chronicle → Option ℕ → Type 0
MayComplete u before now None = (e : ℕ) → has_both u e now ≡ has_both u e before
MayComplete u before now (Some d) =
    (has_both u d before ≡ false) × ((e : ℕ) → (d == e) ≡ false → has_both u e now ≡ has_both u e before)

-- the answer is that of the step: its reason, or the new outputs and the epoch that may be complete now
abbrev pub Says : ℕ → Chronicle → Step → Answer → List Given → Type 0
Says u past (Idle reason) (Declines told) outputs = told ≡ reason
Says u past (Idle reason) (Did due) outputs = ⊥
Says u past (Goes now) (Declines told) outputs = ⊥
Says u past (Goes now) (Did due) outputs = Hands past outputs now × MayComplete u past now due

-- the table of e, from u's cut without its dropped entries and from the decision that u knows; and the place of the
-- first entry that u keeps after it has published the table
pub record Tabled (rules : Rules) (net : Net) (u e : ℕ) (now : Chronicle) (table : View) (place : ℕ) : Type 0 where
  pub cut : Trimmed
  pub value : Value
  pub has_cut : table_cut net u e now ≡ Some cut
  pub knows : decision u e now ≡ Some value
  pub is : table ≡ trimmed_table_of rules net u e value cut
  pub keeps_from : place ≡ suc (dropped net u (Publish u e value (trimmed_table rules net u value cut) ∷ now))

-- a table of e, which is the one from the cut and the decision where u has published no table of e or of a later epoch;
-- none where u has not both
abbrev pub IsDue : Rules → Net → ℕ → ℕ → Chronicle → Option Due → Type 0
IsDue rules net u e now None = has_both u e now ≡ false
IsDue rules net u e now (Some due) =
    (due.table.epoch ≡ e) × (is_above e (newest u now) ≡ true → DropsWithin net now u → Tabled rules net u e now due.table due.place)

-- the outputs of control messages
abbrev pub posts : List (ℕ × Message) → List Output
posts ms = map (λ (m : ℕ × Message). Mail m.0 m.1) ms

-- the epoch whose decision the input brings, if it brings one
abbrev pub decided_by : Input → Option ℕ
decided_by (Control from m) = if is_for_all m then Some (epoch_of m) else None
decided_by other = None

-- u's part in the agreements handled the input: the reply is that of the rules, and the part stands for the longer
-- chronicle
abbrev pub Consults : Net → Reply → Kept → consolidator.Chronicle → ℕ → Input → Type 0
Consults net reply kept past u (Propose e) = Proposes net reply kept past u e
Consults net reply kept past u (Control from m) = Handles net reply kept past (delivery u from m)
Consults net reply kept past u other = ⊥
