-- The words of a line, and its end.
use Rattle.std.proofs.Common.{◌≡◌, ℕ, List, [], ◌∷◌, ◌++◌, ap, ◌∙◌, append_assoc, Ok, Err}
use Rattle.std.specs.Prelude.{Result, OnOk, is_ok, if◌then◌else◌}
use Rattle.view_words.specs.Lines.{ended}

-- the words of a line, and its end
pub line_ended : {T E : Type 0} (r : Result T E) (before mid now words end : List ℕ) → mid ≡ before ++ words → now ≡ (if is_ok r then mid ++ end else mid) → end ≡ 10 ∷ [] → OnOk r (now ≡ before ++ ended words)
line_ended (Ok x) before mid now words end is made one =
    made ∙ (ap (λ bytes. bytes ++ end) is ∙ (ap (λ bytes. (before ++ words) ++ bytes) one ∙ append_assoc before words (10 ∷ [])))
line_ended (Err e) before mid now words end is made one = tt
