-- Bytes that are received over a link and added after others.
use Rattle.std.proofs.Common.{ℕ, ◌+◌, ◌<◌, ◌≤◌, ◌≡◌, List, [], ◌++◌, length, take, drop, Option, Some, None, Result, Ok, Err, IfOk, IfSome, ◌↔◌, refl, ap, subst, ◌∙◌, length-append, length-drop, arith}
use Rattle.std.specs.Result.{result_unwrap_or}
use Rattle.std.proofs.Math.Seq.{take-add, take-append_seam}
use Rattle.std.proofs.lemmas.List.{length-take-le}
use Rattle.std.specs.Io.KnownBytes.{Consumes, Keeps, ReadConsumes}
use Rattle.route_io.specs.Causes.{StaysTold}
use Rattle.route_io.specs.Acts.{ActsOnce, brought_by}
use Rattle.route_io.specs.Links.{ReadsBehind}
use Rattle.route_io.specs.Views.{LinkView, Read}

-- a buffer is made longer, lent, read into from its old end on, and cut again
pub read_behind_is :
    {E : Type 0} (r : Result ℕ E) (old longer shown filled new : List ℕ) (len k : ℕ) (was now : LinkView) →
    len ≡ length old → k ≡ result_unwrap_or r 0 → take (length old) longer ≡ old → shown ≡ longer →
    take len filled ≡ take len shown → length filled ≡ length shown → len < length longer →
    IfOk r (λ n. len + n ≤ length shown) → ReadConsumes was.incoming now.incoming r (drop len filled) →
    ActsOnce was now (Read (brought_by r (drop len filled))) →
    new ≡ take (len + k) (take (length longer) (filled ++ drop (length filled) longer)) →
    IfOk r (λ n. ReadsBehind n old new was now)
read_behind_is (Err e) old longer shown filled new len k was now at count front lent same size room within came acted cut = tt
read_behind_is (Ok n) old longer shown filled new len k was now at count front lent same size room within came acted cut =
    let long : length filled ≡ length longer = size ∙ ap length lent in
    let whole : take (length longer) (filled ++ drop (length filled) longer) ≡ filled =
    subst (λ m. take m (filled ++ drop (length filled) longer) ≡ filled) long (take-append_seam filled (drop (length filled) longer))
    in
    let kept : take len filled ≡ old = same ∙ ap (take len) lent ∙ ap (λ m. take m longer) at ∙ front in
    let by_parts : new ≡ take (len + n) filled = cut ∙ ap (take (len + k)) whole ∙ ap (λ m. take (len + m) filled) count in
    record {
      more = take n (drop len filled);
      behind = by_parts ∙ take-add len n filled ∙ ap (λ xs. xs ++ take n (drop len filled)) kept;
      size = length-take-le n (drop len filled) (omega (arith, length-drop len filled, within, size));
      consumed = came.0;
      at_end = λ none. came.1 none (omega (arith, length-drop len filled, room, long));
      acted = acted;
    }

-- if something came, it was not the end
pub came_before_end :
    {P : Type 0} (was now : Option (List ℕ)) (more : List ℕ) → ¬ P → Consumes was now more → StaysTold was now →
    0 < length more → IfSome was (λ bytes. P ↔ (bytes ≡ []))
came_before_end None now more never came told some = tt
came_before_end (Some x) None more never came told some = absurd told
came_before_end (Some x) (Some y) more never came told some =
    (λ p. absurd (never p), λ e. absurd (omega (arith, some, ap length came, ap length e, length-append more y)))

-- if a read failed, the same bytes are still to come
pub kept_told : (was now : Option (List ℕ)) → StaysTold was now → Keeps was now → now ≡ was
kept_told None None told same = refl
kept_told None (Some y) told same = absurd told
kept_told (Some x) None told same = absurd told
kept_told (Some x) (Some y) told same = ap Some same
