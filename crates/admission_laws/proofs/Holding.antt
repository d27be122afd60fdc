-- The reports that a node holds fit, and their nodes ascend; the node refuses a second report of a node.
use Rattle.std.proofs.Common.{ℕ, Bool, true, false, ◌&&◌, ◌||◌, ◌==◌, nat_le, nat_lt, Some, None, List, [], ◌∷◌, ◌≡◌, refl, sym, subst, arith, if◌then◌else◌}
use Rattle.std.specs.Prelude.{is_some}
use Rattle.std.specs.List.{list_all}
use Rattle.std.proofs.lemmas.Bool.Decides.{nat_tests}
use Rattle.topology.specs.declared.status.Reason.TheVariants as reason
use Rattle.topology.specs.Lists.{has}
use Rattle.topology.specs.Net.{Net}
use Rattle.topology.proofs.Tests.{and_left, and_right, and_both, or_left, or_right, same_refl, same_is}
use Rattle.incomplete_closure.specs.Reports.{Report}
use Rattle.consolidator.specs.Answers.{refuses_report, refusal_of, posted}
use Rattle.consolidator.specs.Facts.{Chronicle, Mail, Heard, Crash}
use Rattle.consolidator.specs.Messages.{Message, Reports, Agrees}
use Rattle.consolidator.specs.Readings.{put_report, held_by, reports_held, nodes_of, known}
use Rattle.message_fitting.specs.ControlFits.{body_fits, epoch_fits, in_order, leads, message_fits, pending_fits, report_fits as whole_fits, report_marks, row_fits, rows_are_few, rows_fit, sessions_fit, waiting_ascends, waiting_fits}
use Rattle.topology.specs.declared.limits.TheConstants.{MOST_MARKS}
use Rattle.admission_laws.proofs.Values.{report_fits}
use Rattle.admission_laws.proofs.Ballots.{control_fits}

-- ---- they fit

module _ (net : Net) where
  -- a report in a message that fits is a report that fits
  report_of : (from : ℕ) (r : Report) → message_fits net from (Reports r) ≡ true → report_fits net r ≡ true
  report_of from r fit =
      let content : (epoch_fits r.epoch && body_fits net from (Reports r)) ≡ true = and_right (has net.nodes from) (epoch_fits r.epoch && body_fits net from (Reports r)) fit in
      let body : body_fits net from (Reports r) ≡ true = and_right (epoch_fits r.epoch) (body_fits net from (Reports r)) content in
      let own : r.node ≡ from = same_is r.node from (and_left (r.node == from) (whole_fits net r) body) in
      let whole : whole_fits net r ≡ true = and_right (r.node == from) (whole_fits net r) body in
      let ends = pending_fits net r.pending && nat_le (report_marks r) MOST_MARKS in
      let rows : rows_fit net r.rows ≡ true = and_left (rows_fit net r.rows) (sessions_fit net r.sessions && ends) whole in
      let waiting : pending_fits net r.pending ≡ true =
      and_left (pending_fits net r.pending) (nat_le (report_marks r) MOST_MARKS) (and_right (sessions_fit net r.sessions) ends (and_right (rows_fit net r.rows) (sessions_fit net r.sessions && ends) whole)) in
      and_both (has net.nodes r.node) (list_all (row_fits net) r.rows && list_all (waiting_fits net) r.pending)
      (subst (λ n. has net.nodes n ≡ true) (sym own) (and_left (has net.nodes from) (epoch_fits r.epoch && body_fits net from (Reports r)) fit))
      (and_both (list_all (row_fits net) r.rows) (list_all (waiting_fits net) r.pending) (and_left (list_all (row_fits net) r.rows) (rows_are_few r.rows) rows)
      (and_left (list_all (waiting_fits net) r.pending) (waiting_ascends r.pending) waiting))

  -- the reports fit with one more report that fits
  put_fits : (r : Report) (rs : List Report) → report_fits net r ≡ true → list_all (report_fits net) rs ≡ true → list_all (report_fits net) (put_report r rs) ≡ true
  put_fits r [] fit all = and_both (report_fits net r) true fit refl
  put_fits r (s ∷ ss) fit all =
      elim (nat_lt r.node s.node) as (λ t. list_all (report_fits net) (if t then r ∷ s ∷ ss else s ∷ put_report r ss) ≡ true) [
        | true ↦ and_both (report_fits net r) (list_all (report_fits net) (s ∷ ss)) fit all
        | false ↦
            and_both (report_fits net s) (list_all (report_fits net) (put_report r ss))
            (and_left (report_fits net s) (list_all (report_fits net) ss) all)
            (put_fits r ss fit (and_right (report_fits net s) (list_all (report_fits net) ss) all))
      ]

  by_message : (e from : ℕ) (m : Message) (before : List Report) → message_fits net from m ≡ true → list_all (report_fits net) before ≡ true → list_all (report_fits net) (held_by e m before) ≡ true
  by_message e from (Reports r) before fit all =
      elim (r.epoch == e) as (λ t. list_all (report_fits net) (if t then put_report r before else before) ≡ true) [
        | true ↦ put_fits r before (report_of from r fit) all
        | false ↦ all
      ]
  by_message e from (Agrees d m) before fit all = all

  -- the reports of an epoch that u holds
  pub held_fit : (u e : ℕ) (past : Chronicle) → list_all (control_fits net) past ≡ true → list_all (report_fits net) (reports_held u e past) ≡ true
  held_fit u e [] all = refl
  held_fit u e (Heard w from m ∷ past) all =
      let before = held_fit u e past (and_right (control_fits net (Heard w from m)) (list_all (control_fits net) past) all) in
      elim (w == u) as (λ t. list_all (report_fits net) (if t then held_by e m (reports_held u e past) else reports_held u e past) ≡ true) [
        | true ↦ by_message e from m (reports_held u e past) (and_left (message_fits net from m) (list_all (control_fits net) past) all) before
        | false ↦ before
      ]
  held_fit u e (Crash w ∷ past) all =
      elim (w == u) as (λ t. list_all (report_fits net) (if t then [] else reports_held u e past) ≡ true) [
        | true ↦ refl
        | false ↦ held_fit u e past (and_right (control_fits net (Crash w)) (list_all (control_fits net) past) all)
      ]
  held_fit u e (f ∷ past) all = held_fit u e past (and_right (control_fits net f) (list_all (control_fits net) past) all)

-- ---- their nodes ascend

-- the nodes of the reports that u holds ascend, of each epoch
abbrev pub HeldAscend : ℕ → Chronicle → Type 0
HeldAscend u past = (e : ℕ) → in_order nat_lt (nodes_of (reports_held u e past)) ≡ true

-- of two nodes that differ the one is below the other
other_way : (a b : ℕ) → nat_lt a b ≡ false → (b == a) ≡ false → nat_lt b a ≡ true
other_way a b high apart = grind (arith, nat_tests)

-- a number below all nodes of the reports, and below that of one more, is below all with it
put_led : (a : ℕ) (r : Report) (rs : List Report) → nat_lt a r.node ≡ true → leads nat_lt a (nodes_of rs) ≡ true → leads nat_lt a (nodes_of (put_report r rs)) ≡ true
put_led a r [] low before = low
put_led a r (s ∷ ss) low before =
    elim (nat_lt r.node s.node) as (λ t. leads nat_lt a (nodes_of (if t then r ∷ s ∷ ss else s ∷ put_report r ss)) ≡ true) [ true ↦ low | false ↦ before ]

-- the nodes of the reports ascend with one more report of a new node
put_in_order : (r : Report) (rs : List Report) → has (nodes_of rs) r.node ≡ false → in_order nat_lt (nodes_of rs) ≡ true → in_order nat_lt (nodes_of (put_report r rs)) ≡ true
put_in_order r [] new up = refl
put_in_order r (s ∷ ss) new up =
    (elim (nat_lt r.node s.node) as (λ t. nat_lt r.node s.node ≡ t → in_order nat_lt (nodes_of (if t then r ∷ s ∷ ss else s ∷ put_report r ss)) ≡ true) [
      | true ↦ λ q. and_both (nat_lt r.node s.node) (in_order nat_lt (nodes_of (s ∷ ss))) q up
      | false ↦ λ q.
          let low : nat_lt s.node r.node ≡ true = other_way r.node s.node q (or_left (s.node == r.node) (has (nodes_of ss) r.node) new) in
          and_both (leads nat_lt s.node (nodes_of (put_report r ss))) (in_order nat_lt (nodes_of (put_report r ss)))
          (put_led s.node r ss low (and_left (leads nat_lt s.node (nodes_of ss)) (in_order nat_lt (nodes_of ss)) up))
          (put_in_order r ss (or_right (s.node == r.node) (has (nodes_of ss) r.node) new)
          (and_right (leads nat_lt s.node (nodes_of ss)) (in_order nat_lt (nodes_of ss)) up))
    ]) refl

-- a report that is not refused is the first of its node
new_node : (here decided has_it : Bool) → (if here then refuses_report decided has_it else Some reason.NotConsolidator) ≡ None → has_it ≡ false
new_node false decided has_it free = absurd (cc free)
new_node true true has_it free = absurd (cc free)
new_node true false true free = absurd (cc free)
new_node true false false free = refl

new_report : (net : Net) (u from : ℕ) (r : Report) (past : Chronicle) → refusal_of net past u from (Reports r) ≡ None → has (nodes_of (reports_held u r.epoch past)) r.node ≡ false
unfolding refusal_of
new_report net u from r past free =
    new_node (has net.consolidators u || false) (is_some (known u r.epoch past)) (has (nodes_of (reports_held u r.epoch past)) r.node) free

-- the nodes ascend, whichever of two equal lists is chosen
either_way : (t : Bool) (rs : List Report) → in_order nat_lt (nodes_of rs) ≡ true → in_order nat_lt (nodes_of (if t then rs else rs)) ≡ true
either_way true rs up = up
either_way false rs up = up

-- the nodes still ascend after u hears a message that it does not refuse
pub heard_ascend : (net : Net) (u from : ℕ) (m : Message) (past : Chronicle) → HeldAscend u past → refusal_of net past u from m ≡ None → HeldAscend u (Heard u from m ∷ past)
heard_ascend net u from (Agrees d m) past up free = λ e. either_way (u == u) (reports_held u e past) (up e)
heard_ascend net u from (Reports r) past up free = λ e.
    elim (u == u) as (λ t. in_order nat_lt (nodes_of (if t then held_by e (Reports r) (reports_held u e past) else reports_held u e past)) ≡ true) [
      | true ↦
          (elim (r.epoch == e) as (λ t. (r.epoch == e) ≡ t → in_order nat_lt (nodes_of (if t then put_report r (reports_held u e past) else reports_held u e past)) ≡ true) [
            | true ↦ λ q.
                let new : has (nodes_of (reports_held u e past)) r.node ≡ false =
                subst (λ d. has (nodes_of (reports_held u d past)) r.node ≡ false) (same_is r.epoch e q) (new_report net u from r past free) in
                put_in_order r (reports_held u e past) new (up e)
            | false ↦ λ q. up e
          ]) refl
      | false ↦ up e
    ]

-- the nodes still ascend after control messages are sent
pub posted_ascend : (u w : ℕ) (ms : List (ℕ × Message)) (past : Chronicle) → HeldAscend u past → HeldAscend u (posted w ms past)
posted_ascend u w [] past up = up
posted_ascend u w (m ∷ ms) past up = posted_ascend u w ms (Mail w m.0 m.1 ∷ past) up

-- the nodes ascend after u crashes, since it then holds no report
pub crash_ascends : (u : ℕ) (past : Chronicle) → HeldAscend u (Crash u ∷ past)
crash_ascends u past = λ e.
    (elim (u == u) as (λ t. u == u ≡ t → in_order nat_lt (nodes_of (if t then [] else reports_held u e past)) ≡ true) [
      | true ↦ λ same. refl
      | false ↦ λ other. let itself = same_refl u in absurd (cc (other, itself))
    ]) refl
