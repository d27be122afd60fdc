use Rattle.std.proofs.Common.{ℕ, ◌≡◌, List, [], reverse, refl, sym, subst}
use Rattle.acceptor_journal.specs.Images.{MayLeave}
use Rattle.acceptor_journal.specs.Memory.{acts_of}
use Rattle.acceptor_journal.specs.declared.memory.Made.{Made}
use Rattle.acceptor_journal.proofs.Images.{settled_left}
use Rattle.acceptor_journal.proofs.memory.MemDisk.new.Goals as goal

pub returns-clause-durable : goal.returns-clause-durable
returns-clause-durable c =
    let file : List ℕ = c.args.content.items in
    let none : c.new.result.items ≡ [] = assumption c.new.ensures in
    let only : (image : List ℕ) → MayLeave (acts_of (reverse c.new.result.items) file) image → image ≡ file =
    subst (λ (l : List Made). (image : List ℕ) → MayLeave (acts_of (reverse l) file) image → image ≡ file) (sym none) (settled_left file []) in
    record { acts = acts_of (reverse c.new.result.items) file; told = refl; content = refl; only = only }
