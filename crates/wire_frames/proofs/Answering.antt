-- What a `Decoded` answer says about the spelling of frames.
use Rattle.std.proofs.Common.{◌≡◌, ℕ, List, length, take, sym, ap, subst, ◌∙◌, arith}
use Rattle.std.proofs.lemmas.List.{take_at, length-append}
use Rattle.wire_frames.specs.declared.frames.Frame.{Frame}
use Rattle.wire_frames.specs.declared.frames.Decoded.{Decoded}
use Rattle.wire_frames.specs.declared.frames.Decoded.TheVariants as decoded
use Rattle.wire_frames.specs.Formats.{IsBytes}
use Rattle.wire_frames.specs.Frames.{spell}
use Rattle.wire_frames.specs.Reading.{Found, Whole, found}
use Rattle.wire_frames.specs.Shown.{IsFrame, Answers, Decodes, Spelled}
use Rattle.wire_frames.proofs.Found.{found_spelled}

pub answer_spelled : (bytes : List ℕ) (answer : Decoded) → IsBytes bytes → Answers answer (found bytes) → Spelled bytes answer
answer_spelled bytes (decoded.Frame r n) are says =
    let b = found_spelled bytes says.0 n are says.1 in
    record {
      frame = says.0;
      fit = b.fit;
      inside = omega (arith, b.long, ap length b.parts, length-append (spell says.0) b.rest);
      spelled = ap (λ (x : List ℕ). take n x) b.parts ∙ take_at (spell says.0) b.rest n (sym b.long);
      same = says.2;
    }
answer_spelled bytes decoded.More are says = tt
answer_spelled bytes (decoded.Bad wrong) are says = tt

whole_same : (f g : Frame) (n m : ℕ) → Whole f n ≡ Whole g m → (f ≡ g) × (n ≡ m)
whole_same f g n m e = (cc, cc)

pub answer_only : (answer : Decoded) (f : Frame) (there : Found) → there ≡ Whole f (length (spell f)) → Answers answer there → Decodes answer f (length (spell f))
answer_only (decoded.Frame r n) f there is says =
    let same = whole_same says.0 f n (length (spell f)) (sym says.1 ∙ is) in
    (same.1, subst (λ (g : Frame). IsFrame r g) same.0 says.2)
answer_only decoded.More f there is says = absurd cc
answer_only (decoded.Bad wrong) f there is says = absurd cc
