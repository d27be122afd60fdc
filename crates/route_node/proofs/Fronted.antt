-- What is at the front of bytes if a frame was read from them.
use Rattle.std.proofs.Common.{ℕ, ◌≡◌, true, List, ◌++◌, drop, length, sym, ap, ◌∙◌, subst}
use Rattle.std.proofs.lemmas.List.{take-append-drop, length-take-le}
use Rattle.wire_frames.specs.declared.frames.Frame.{Frame}
use Rattle.wire_frames.specs.declared.frames.FrameRef.{FrameRef}
use Rattle.wire_frames.specs.Frames.{fits, spell}
use Rattle.wire_frames.specs.Reading.{Whole, found}
use Rattle.wire_frames.specs.Shown.{IsFrame, IsSpelled}
use Rattle.wire_frames.proofs.Found.{spelled_found}
use Rattle.route_node.specs.Fronts.{Holds}

pub holds_read : (bytes : List ℕ) (r : FrameRef) (n : ℕ) (owned : Frame) → IsSpelled bytes n r → ((f : Frame) → fits f ≡ true → IsFrame r f → owned ≡ f) → Holds bytes owned n
holds_read bytes r n owned is same =
    let f = is.frame in
    let size : n ≡ length (spell f) = sym (length-take-le n bytes is.inside) ∙ ap length is.spelled in
    let splits : bytes ≡ spell f ++ drop n bytes = sym (take-append-drop n bytes) ∙ ap (λ l. l ++ drop n bytes) is.spelled in
    subst (λ g. Holds bytes g n) (sym (same f is.fit is.same))
    (record {
      there = ap found splits ∙ (spelled_found f (drop n bytes) is.fit ∙ ap (Whole f) (sym size));
      fit = is.fit;
      size = size;
      splits = splits;
    })
