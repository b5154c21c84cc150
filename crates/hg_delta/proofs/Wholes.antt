-- A delta whose one hunk is in the place of all of the base.
use Rattle.std.proofs.Common.{◌≡◌, ℕ, List, [], ◌∷◌, ◌++◌, length, drop, sym, ap}
use Rattle.std.proofs.Common.{◌∙◌, append-nil}
use Rattle.std.specs.Prelude.{slice_range}
use Rattle.std.proofs.lemmas.List.{drop_at}
use Rattle.std.proofs.Math.Seq.{drop-length}
use Rattle.hg_delta.specs.Delta.{Hunk, header, hunk_bytes, IsPlaced, Applies, text_of}
use Rattle.hg_delta.proofs.Numbers.{length-header}

-- its content is what stands after its header
pub content_is : (delta : List ℕ) (hunk : Hunk) → delta ≡ hunk_bytes hunk ++ [] → drop 12 delta ≡ hunk.content
content_is delta hunk spelled =
    ap (drop 12) (spelled ∙ append-nil (hunk_bytes hunk))
    ∙ drop_at (header hunk.start hunk.end (length hunk.content)) hunk.content 12
    (length-header hunk.start hunk.end (length hunk.content))

-- the text is the content
text_is : (base : List ℕ) (hunk : Hunk) → hunk.start ≡ 0 → hunk.end ≡ length base
    → text_of base (hunk ∷ []) ≡ hunk.content
text_is base hunk first last =
    ap (λ (n : ℕ). ((slice_range base 0 n ++ hunk.content) ++ []) ++ drop hunk.end base) first
    ∙ ap (λ (n : ℕ). (hunk.content ++ []) ++ drop n base) last
    ∙ ap (λ (l : List ℕ). (hunk.content ++ []) ++ l) (drop-length base)
    ∙ append-nil (hunk.content ++ [])
    ∙ append-nil hunk.content

-- so the delta makes it of the base
pub whole_applies : (base delta : List ℕ) (hunk : Hunk) → IsPlaced (length base) 0 hunk
    → delta ≡ hunk_bytes hunk ++ [] → hunk.start ≡ 0 → hunk.end ≡ length base
    → Applies base delta (drop 12 delta)
whole_applies base delta hunk placed spelled first last = record {
  hunks = hunk ∷ [];
  whole = record {
    placed = (placed, tt);
    spelled = spelled ∙ sym (append-nil (hunk_bytes hunk ++ []));
  };
  joined = content_is delta hunk spelled ∙ sym (text_is base hunk first last);
}

-- a delta without hunks makes nothing of nothing
pub nothing_applies : (base delta : List ℕ) → base ≡ [] → delta ≡ [] → Applies base delta (drop 0 delta)
nothing_applies base delta none empty = record {
  hunks = [];
  whole = record { placed = tt; spelled = empty };
  joined = empty ∙ sym none;
}
