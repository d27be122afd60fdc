-- Directives: how their lines are spelled, which events of one shape there are, and the change of what names a prefix.
use Rattle.std.specs.Prelude.{ℕ, List, [], ◌∷◌, codes, bytes_eq, find, unwrap_or}
use Rattle.schedule_file.specs.declared.directives.Directive.{Directive}
use Rattle.schedule_file.specs.declared.directives.Directive.TheVariants.{Originate, Withdraw, Probe, Prefer, Deliver, Fail, Restore, Notice, OpenSession, Flush, Snap, Crash, Restart, Propose, Drain, Control, ControlAll, Inject, Hop, ShowRib, ShowLog, ShowControl, ShowCut, ShowClosure, ShowTables, ShowWalk}
use Rattle.schedule_file.specs.declared.directives.Rest.{Rest}
use Rattle.schedule_file.specs.declared.directives.Rest.TheVariants as rest
use Rattle.schedule_file.specs.declared.table.PlainView.{PlainView}
use Rattle.schedule_file.specs.declared.table.PlainView.TheVariants.{Rib, Log, Control as Mail}
use Rattle.schedule_file.specs.declared.table.EpochView.{EpochView}
use Rattle.schedule_file.specs.declared.table.EpochView.TheVariants.{Cut, Closure, Tables}

-- the first word of its line, and what follows
abbrev pub spelling : {P : Type 0} → Directive P → List ℕ × Rest P
spelling (Originate node p) = (codes "originate", rest.Origin node p)
spelling (Withdraw node p) = (codes "withdraw", rest.Origin node p)
spelling (Probe node p) = (codes "probe", rest.Origin node p)
spelling (Prefer node nbr value) = (codes "prefer", rest.Prefer node nbr value)
spelling (Deliver a b) = (codes "deliver", rest.Pair a b)
spelling (Fail a b) = (codes "fail", rest.Pair a b)
spelling (Restore a b) = (codes "restore", rest.Pair a b)
spelling (Notice a b) = (codes "notice", rest.Pair a b)
spelling (OpenSession a b) = (codes "open", rest.Pair a b)
spelling (Flush a b) = (codes "flush", rest.Pair a b)
spelling (Snap node) = (codes "snap", rest.Single node)
spelling (Crash node) = (codes "crash", rest.Single node)
spelling (Restart node) = (codes "restart", rest.Single node)
spelling (Propose node epoch) = (codes "propose", rest.Propose node epoch)
spelling (Drain times) = (codes "drain", rest.Drain times)
spelling (Control number) = (codes "ctl", rest.Control number)
spelling (ControlAll times) = (codes "ctl", rest.ControlAll times)
spelling (Inject packet node p) = (codes "inject", rest.Inject packet node p)
spelling (Hop packet times) = (codes "hop", rest.Hop packet times)
spelling ShowRib = (codes "show", rest.Show Rib)
spelling ShowLog = (codes "show", rest.Show Log)
spelling ShowControl = (codes "show", rest.Show Mail)
spelling (ShowCut epoch) = (codes "show", rest.ShowEpoch Cut epoch)
spelling (ShowClosure epoch) = (codes "show", rest.ShowEpoch Closure epoch)
spelling (ShowTables epoch) = (codes "show", rest.ShowEpoch Tables epoch)
spelling (ShowWalk packet) = (codes "show", rest.ShowWalk packet)

abbrev pub first_word : {P : Type 0} → Directive P → List ℕ
first_word d = (spelling d).0

abbrev pub rest_of : {P : Type 0} → Directive P → Rest P
rest_of d = (spelling d).1

-- the events of a node and a prefix, with the probe
abbrev pub origin_events : {P : Type 0} → ℕ → P → List (Directive P)
origin_events node p = Originate node p ∷ Withdraw node p ∷ Probe node p ∷ []

-- the events of one node
abbrev pub node_events : {P : Type 0} → ℕ → List (Directive P)
node_events node = Snap node ∷ Crash node ∷ Restart node ∷ []

-- the events of two nodes with a link
abbrev pub pair_events : {P : Type 0} → ℕ → ℕ → List (Directive P)
pair_events a b = Deliver a b ∷ Fail a b ∷ Restore a b ∷ Notice a b ∷ OpenSession a b ∷ Flush a b ∷ []

-- the directive of a view of the run so far
abbrev pub plain_directive : {P : Type 0} → PlainView → Directive P
plain_directive Rib = ShowRib
plain_directive Log = ShowLog
plain_directive Mail = ShowControl

-- the directive of a view of one epoch
abbrev pub epoch_directive : {P : Type 0} → EpochView → ℕ → Directive P
epoch_directive Cut epoch = ShowCut epoch
epoch_directive Closure epoch = ShowClosure epoch
epoch_directive Tables epoch = ShowTables epoch

-- the one of these directives whose line begins with the word; any if there is none
abbrev pub named : {P : Type 0} → List ℕ → List (Directive P) → Directive P
named word ds = unwrap_or (find (λ d. bytes_eq word (first_word d)) ds) ShowRib

-- the directive of a first word and what follows; any if no line begins and goes on so
abbrev pub directive_by : {P : Type 0} → List ℕ → Rest P → Directive P
directive_by word (rest.Origin node p) = named word (origin_events node p)
directive_by word (rest.Single node) = named word (node_events node)
directive_by word (rest.Pair a b) = named word (pair_events a b)
directive_by word (rest.Prefer node nbr value) = Prefer node nbr value
directive_by word (rest.Propose node epoch) = Propose node epoch
directive_by word (rest.Drain times) = Drain times
directive_by word (rest.Control number) = Control number
directive_by word (rest.ControlAll times) = ControlAll times
directive_by word (rest.Inject packet node p) = Inject packet node p
directive_by word (rest.Hop packet times) = Hop packet times
directive_by word (rest.Show view) = plain_directive view
directive_by word (rest.ShowEpoch view epoch) = epoch_directive view epoch
directive_by word (rest.ShowWalk packet) = ShowWalk packet

-- the same words, with another name for the prefix
abbrev pub with_name : {P Q : Type 0} → (P → Q) → Rest P → Rest Q
with_name f (rest.Origin node p) = rest.Origin node (f p)
with_name f (rest.Single node) = rest.Single node
with_name f (rest.Pair a b) = rest.Pair a b
with_name f (rest.Prefer node nbr value) = rest.Prefer node nbr value
with_name f (rest.Propose node epoch) = rest.Propose node epoch
with_name f (rest.Drain times) = rest.Drain times
with_name f (rest.Control number) = rest.Control number
with_name f (rest.ControlAll times) = rest.ControlAll times
with_name f (rest.Inject packet node p) = rest.Inject packet node (f p)
with_name f (rest.Hop packet times) = rest.Hop packet times
with_name f (rest.Show view) = rest.Show view
with_name f (rest.ShowEpoch view epoch) = rest.ShowEpoch view epoch
with_name f (rest.ShowWalk packet) = rest.ShowWalk packet

-- the directive of the same words, with another name for the prefix
abbrev pub renamed : {P Q : Type 0} → (P → Q) → Directive P → Directive Q
renamed f d = directive_by (first_word d) (with_name f (rest_of d))
