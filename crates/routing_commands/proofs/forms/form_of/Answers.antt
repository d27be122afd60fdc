use Rattle.std.proofs.Common.{arith}
use Rattle.routing_commands.proofs.Formed.{no_count, sizes}
use Rattle.routing_commands.proofs.forms.form_of.Goals as goal

pub returns-in_default : goal.returns-in_default
returns-in_default c =
    let size = sizes c.args.words.now in
    let low = c.in_default.len_at_least in
    record {
      some = tt;
      none = no_count _ (λ e. let no : ⊥ = omega (arith, size, low, e) in no) (λ e. let no : ⊥ = omega (arith, size, low, e) in no) (λ e. let no : ⊥ = omega (arith, size, low, e) in no) (λ e. let no : ⊥ = omega (arith, size, low, e) in no);
    }
