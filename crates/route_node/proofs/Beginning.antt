-- A process at its start.
use Rattle.std.proofs.Common.{ℕ, ◌≡◌, ◌≤◌, true, Option, Some, None, List, [], length, refl, sym, ap, subst, arith}
use Rattle.std.specs.List.{list_all}
use Rattle.std.specs.Io.KnownBytes.{Appends, prepend_known}
use Rattle.topology.specs.declared.status.Status.TheVariants.{NoMemory}
use Rattle.std.proofs.lemmas.List.{append-nil}
use Rattle.topology.specs.Lists.{has, Begins}
use Rattle.topology.specs.Net.{IsValid}
use Rattle.route_io.specs.Views.{LinkView}
use Rattle.route_io.proofs.Bytes.{appends_none, told_same}
use Rattle.path_vector.specs.Rules.{Rules}
use Rattle.node_core.specs.Outputs.{outputs}
use Rattle.node_core.specs.Standing.{StandsFor}
use Rattle.admission_laws.specs.NodeRuns.{going_on}
use Rattle.wire_frames.specs.declared.frames.Frame.{Frame}
use Rattle.wire_frames.specs.Frames.{fits as has_spelling}
use Rattle.route_node.specs.declared.serving.Process.{Process}
use Rattle.topology.specs.declared.limits.TheConstants.{MOST_FRAMES}
use Rattle.route_node.specs.Running.{Serving, Runs, AreBegun, who_at}
use Rattle.route_node.specs.Served.{Served}
use Rattle.route_node.specs.Streams.{replies, answers}
use Rattle.route_node.specs.Who.{Who, begun_by}
use Rattle.route_node.specs.Writing.{spelled, OneWriteEach}
use Rattle.route_node.proofs.Ending.{by_memory, ends_by_break}
use Rattle.route_node.proofs.InTime.{prompt_none, grows_none}
use Rattle.route_node.proofs.Taking.{replies_are}

known_as : (known : Option (List ℕ)) → prepend_known [] (prepend_known [] known) ≡ known
known_as None = refl
known_as (Some bytes) = refl

-- no frame has no replies
pub nothing_replied : (who : Who) → replies who [] ≡ []
unfolding going_on
nothing_replied who = replies_are who [] [] (sym (append-nil (outputs (begun_by who))))

none_of : (who : Who) → answers who [] ≡ []
none_of who = ap spelled (nothing_replied who)

-- a process without a journal, or one that starts after its records
pub begins : {P : Type 0} (rules : Rules) (at : Serving P) (process : Process P) → IsValid at.net → has at.net.nodes at.node ≡ true → process.topology.value ≡ at.net → process.id ≡ at.node → AreBegun rules at.net at.node at.records
    → StandsFor at.policy rules at.net at.node process.node (begun_by (who_at rules at)) → process.frames ≡ 0 → process.offset ≡ 0 → process.received ≡ [] → Runs rules at process at.first []
unfolding going_on
begins rules at process valid is_node same_net same_id restored stands none zero empty = record {
  valid = valid;
  is_node = is_node;
  same_net = same_net;
  same_id = same_id;
  restored = restored;
  stands = stands;
  taken = tt;
  count = none;
  offset = zero;
  bytes = subst (λ l. prepend_known [] (prepend_known l at.first.incoming) ≡ at.first.incoming) (sym empty) (known_as at.first.incoming);
  wrote = subst (λ (l : List ℕ). Appends at.first.outgoing at.first.outgoing l) (sym (none_of (who_at rules at))) (appends_none at.first.outgoing);
  told = told_same at.first.outgoing;
  one_write_each = subst (λ (l : List Frame). OneWriteEach l at.first at.first) (sym (nothing_replied (who_at rules at))) (λ left room small before told. ([], told, refl));
  grow = grows_none (who_at rules at);
  since = ([], sym (append-nil (outputs (begun_by (who_at rules at)))));
  acts = λ before told. ([], told, record { brought = sym empty; took = sym (none_of (who_at rules at)); prompt = prompt_none (who_at rules at) });
  same_room = refl;
  same_dialled = refl;
  same_sure = refl;
  quiet = refl;
}

pub within : (received : List ℕ) (count : ℕ) → count ≡ 0 → received ≡ [] → (length received ≤ 1999999) × (count ≤ MOST_FRAMES)
within received count none empty = (let size = ap (λ (l : List ℕ). length l) empty in omega (arith, size), omega (arith, none))

-- memory ran out before the first frame
pub served_nothing : (who : Who) (link : LinkView) → Served who link link NoMemory
served_nothing who link =
    (ends_by_break who link link NoMemory [] tt (grows_none who) refl refl (λ before told. ([], told, prompt_none who)) (by_memory who.records)
    (record { later = omega arith; rose = λ e. absurd (cc e); quiet = λ _. refl })
    (λ _ e. absurd (cc e))
    (λ bytes told. (bytes, refl))
    (subst (λ fs. list_all has_spelling fs ≡ true) (sym (nothing_replied who)) refl)
    [] (appends_none link.outgoing) (answers who [], refl) (subst (λ (l : List ℕ). Begins l []) (sym (none_of who)) ([], refl))).served
