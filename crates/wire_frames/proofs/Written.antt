-- A frame is checked and written as two lists of fields.
use Rattle.std.proofs.Common.{◌≡◌, ℕ, Bool, true, false, ◌&&◌, cond, List, [], ◌∷◌, ◌++◌, refl, sym, ap, ◌∙◌}
use Rattle.std.specs.List.{flat_map, list_all}
use Rattle.std.proofs.lemmas.List.{append-nil}
use Rattle.wire_frames.specs.declared.frames.Frame.{Frame}
use Rattle.wire_frames.specs.declared.kinds.Field.{Field}
use Rattle.wire_frames.specs.Frames.{body, fields_fit}
use Rattle.wire_frames.specs.Kinds.{spelling, fitting, spelled_all, all_fitting, is_early, early_body, late_body, early_fit, late_fit}

pub spelled_each : (fs : List Field) → flat_map spelling fs ≡ spelled_all fs
spelled_each [] = refl
spelled_each (f ∷ []) = append-nil (spelling f)
spelled_each (f ∷ g ∷ fs) = ap (λ (text : List ℕ). spelling f ++ text) (spelled_each (g ∷ fs))

and_true : (b : Bool) → (b && true) ≡ b
and_true true = refl
and_true false = refl

pub fitting_each : (fs : List Field) → list_all fitting fs ≡ all_fitting fs
fitting_each [] = refl
fitting_each (f ∷ []) = and_true (fitting f)
fitting_each (f ∷ g ∷ fs) = ap (λ (b : Bool). fitting f && b) (fitting_each (g ∷ fs))

pub both_written : (out : List ℕ) (f : Frame) → (out ++ early_body f) ++ late_body f ≡ out ++ body f
unfolding early_body late_body
both_written out f = go (is_early f)
  where
    go : (b : Bool) → (out ++ cond b (body f) []) ++ cond b [] (body f) ≡ out ++ body f
    go true = append-nil (out ++ body f)
    go false = ap (λ (text : List ℕ). text ++ body f) (append-nil out)

both_fit : (f : Frame) → (early_fit f && late_fit f) ≡ fields_fit f
unfolding early_fit late_fit
both_fit f = go (is_early f)
  where
    go : (b : Bool) → (cond b (fields_fit f) true && cond b true (fields_fit f)) ≡ fields_fit f
    go true = and_true (fields_fit f)
    go false = refl

-- the test of the fields is the test of the group
pub told : (fs : List Field) (passed group : Bool) → all_fitting fs ≡ group → passed ≡ list_all fitting fs → group ≡ passed
told fs passed group fit test = sym fit ∙ sym (fitting_each fs) ∙ sym test

pub fails_early : (f : Frame) → early_fit f ≡ false → false ≡ fields_fit f
fails_early f a = let no : (early_fit f && late_fit f) ≡ false = rw a refl in sym no ∙ both_fit f

pub rests_on_late : (f : Frame) → early_fit f ≡ true → late_fit f ≡ fields_fit f
rests_on_late f a = let last : (early_fit f && late_fit f) ≡ late_fit f = rw a refl in sym last ∙ both_fit f
