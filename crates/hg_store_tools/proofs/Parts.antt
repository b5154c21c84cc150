-- The parts of a bundle, as its headers say them.
use Rattle.std.proofs.Common.{ℕ, List, [], ◌∷◌, All, sym, subst, arith}
use Rattle.std.specs.List.{AllByRecursion}
use Rattle.std.proofs.lemmas.List.Elements.{All-from_recursion}
use Rattle.hg_types.specs.declared.limits.Limits.{Limits}
use Rattle.hg_types.specs.declared.part.Part.{Part}
use Rattle.hg_types.specs.Limits.{IsAllowed}
use Rattle.hg_params.specs.Header.{IsHeader}
use Rattle.hg_stream.specs.Frames.{AreFrames, Frame, IsBundle, IsFrame}
use Rattle.hg_store_tools.specs.code.Canonical.{WasRead, head_of}

frame_read : {A : Type 0} (limits : Limits) (frame : Frame) (part : Part A) → IsAllowed limits
    → IsFrame limits frame part → WasRead part
frame_read {A} limits frame part allowed is = record {
  header = frame.header;
  reads = subst (λ (p : Part A). IsHeader frame.header (head_of p)) (sym is.part_is) is.header.reads;
  payload = omega (arith, is.fits, allowed.payload.1);
}

frames_read : {A : Type 0} (limits : Limits) (frames : List Frame) (parts : List (Part A)) → IsAllowed limits
    → AreFrames limits frames parts → AllByRecursion WasRead parts
frames_read limits [] [] allowed are = tt
frames_read limits [] (part ∷ parts) allowed are = absurd are
frames_read limits (frame ∷ frames) [] allowed are = absurd are
frames_read limits (frame ∷ frames) (part ∷ parts) allowed are =
    (frame_read limits frame part allowed are.0, frames_read limits frames parts allowed are.1)

pub were_read : {A : Type 0} (limits : Limits) (bytes : List ℕ) (parts : List (Part A)) → IsAllowed limits
    → IsBundle limits bytes parts → All WasRead parts
were_read limits bytes parts allowed bundle =
    All-from_recursion WasRead parts (frames_read limits bundle.0.has.frames parts allowed bundle.0.has.are)
