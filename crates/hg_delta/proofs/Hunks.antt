-- What a delta's front makes, hunk after hunk.
use Rattle.std.proofs.Common.{◌≡◌, ℕ, ◌+◌, ◌-◌, ◌≤◌, List, [], ◌∷◌, ◌++◌, length, map, drop, refl, sym, ap}
use Rattle.std.proofs.Common.{subst, ◌∙◌, append_assoc, arith}
use Rattle.std.specs.Prelude.{slice_range}
use Rattle.std.specs.List.{AllByRecursion, flat_map, zip}
use Rattle.std.proofs.lemmas.List.{append-nil, length-append, length-take, length-drop}
use Rattle.std.proofs.lemmas.Grind.{flat_map-append}
use Rattle.hg_delta.specs.Delta.{Hunk, header, hunk_bytes, last_of, end_of, behind_each_other, IsPlaced}
use Rattle.hg_delta.specs.Delta.{piece_of, Begins, Applies}
use Rattle.hg_delta.specs.declared.fault.DeltaFault.{DeltaFault}
use Rattle.hg_delta.specs.Faults.{IsHunkFault, BreaksAt}
use Rattle.hg_delta.proofs.Numbers.{length-header}

-- Hunks after one that ends at `from`, and one hunk more.
abbrev pub ends : List Hunk → List ℕ
ends hunks = map (λ hunk. hunk.end) hunks

abbrev pub behind : ℕ → List Hunk → List (ℕ × Hunk)
behind from hunks = zip (from ∷ ends hunks) hunks

behind_more : (from : ℕ) (hunks : List Hunk) (hunk : Hunk)
    → behind from (hunks ++ hunk ∷ []) ≡ behind from hunks ++ (last_of from (ends hunks), hunk) ∷ []
behind_more from [] hunk = refl
behind_more from (first ∷ hunks) hunk =
    ap (λ (places : List (ℕ × Hunk)). (from, first) ∷ places) (behind_more first.end hunks hunk)

last_more : (from : ℕ) (hunks : List Hunk) (hunk : Hunk) → last_of from (ends (hunks ++ hunk ∷ [])) ≡ hunk.end
last_more from [] hunk = refl
last_more from (first ∷ hunks) hunk = last_more first.end hunks hunk

all_more : {X : Type 0} (P : X → Type 0) (xs : List X) (x : X) → AllByRecursion P xs → P x
    → AllByRecursion P (xs ++ x ∷ [])
all_more P [] x all one = (one, tt)
all_more P (y ∷ xs) x all one = (all.0, all_more P xs x all.1 one)

flat_one : {X : Type 0} (f : X → List ℕ) (x : X) → flat_map f (x ∷ []) ≡ f x
flat_one f x = append-nil (f x)

-- Whole hunks were taken from the delta's front: the last ends there, that is left, and that is the text so
-- far.
pub record Took (base delta : List ℕ) (end : ℕ) (rest text : List ℕ) : Type 0 where
  pub hunks : List Hunk
  pub front : Begins (length base) delta hunks rest
  pub ends_at : end ≡ end_of hunks
  pub joined : text ≡ flat_map (piece_of base) (behind_each_other hunks)

pub took_none : (base delta : List ℕ) → Took base delta 0 delta []
took_none base delta = record {
  hunks = [];
  front = record { placed = tt; spelled = refl };
  ends_at = refl;
  joined = refl;
}

pub took_more : (base delta rest after text : List ℕ) (end : ℕ) (hunk : Hunk) → Took base delta end rest text
    → IsPlaced (length base) end hunk → rest ≡ hunk_bytes hunk ++ after
    → Took base delta hunk.end after (text ++ piece_of base (end, hunk))
took_more base delta rest after text end hunk took placed spelled =
    let size = length base in
    let hunks = took.hunks in
    let more = behind_more 0 hunks hunk in
    let P = λ (place : ℕ × Hunk). IsPlaced size place.0 place.1 in
    let here : IsPlaced size (end_of hunks) hunk = subst (λ (n : ℕ). IsPlaced size n hunk) took.ends_at
    placed in
    record {
      hunks = hunks ++ hunk ∷ [];
      front = record {
        placed = subst (AllByRecursion P) (sym more)
            (all_more P (behind_each_other hunks) (end_of hunks, hunk) took.front.placed here);
        spelled = took.front.spelled ∙ ap (λ (x : List ℕ). flat_map hunk_bytes hunks ++ x) spelled
            ∙ sym (append_assoc (flat_map hunk_bytes hunks) (hunk_bytes hunk) after)
            ∙ ap (λ (x : List ℕ). x ++ after)
            (ap (λ (x : List ℕ). flat_map hunk_bytes hunks ++ x) (sym (flat_one hunk_bytes hunk))
            ∙ sym (flat_map-append hunk_bytes hunks (hunk ∷ [])));
      };
      ends_at = sym (last_more 0 hunks hunk);
      joined = ap (λ (x : List ℕ). x ++ piece_of base (end, hunk)) took.joined
          ∙ ap (λ (n : ℕ). flat_map (piece_of base) (behind_each_other hunks)
          ++ piece_of base (n, hunk)) took.ends_at
          ∙ ap (λ (x : List ℕ). flat_map (piece_of base) (behind_each_other hunks) ++ x)
          (sym (flat_one (piece_of base) (end_of hunks, hunk)))
          ∙ sym (flat_map-append (piece_of base) (behind_each_other hunks) ((end_of hunks, hunk) ∷ []))
          ∙ ap (flat_map (piece_of base)) (sym more);
    }

pub took_all : (base delta text : List ℕ) (end : ℕ) → Took base delta end [] text
    → Applies base delta (text ++ drop end base)
took_all base delta text end took = record {
  hunks = took.hunks;
  whole = took.front;
  joined = ap (λ (x : List ℕ). x ++ drop end base) took.joined
      ∙ ap (λ (n : ℕ). flat_map (piece_of base) (behind_each_other took.hunks) ++ drop n base) took.ends_at;
}

-- after whole hunks, the fault of the next is that of the delta
pub took_broken : (fault : DeltaFault) (base delta rest text : List ℕ) (end : ℕ)
    → Took base delta end rest text → IsHunkFault fault (length base) end rest → BreaksAt fault base delta
took_broken fault base delta rest text end took broken =
    record {
      hunks = took.hunks;
      rest = rest;
      front = took.front;
      broken = subst (λ (n : ℕ). IsHunkFault fault (length base) n rest) took.ends_at broken;
    }

-- The same, as a length: what is kept is no more than the base up to the end, what is new no more than the
-- delta.
pub record Measured (base delta : List ℕ) (end : ℕ) (rest : List ℕ) (size : ℕ) : Type 0 where
  pub text : List ℕ
  pub took : Took base delta end rest text
  pub size_is : size ≡ length text
  pub within : end ≤ length base
  pub small : size + length rest ≤ end + length delta

length-piece : (base : List ℕ) (end : ℕ) (hunk : Hunk) → IsPlaced (length base) end hunk
    → length (piece_of base (end, hunk)) ≡ hunk.start - end + length hunk.content
length-piece base end hunk placed =
    omega (
      arith,
      placed.forward,
      placed.within,
      length-append (slice_range base end hunk.start) hunk.content,
      length-take (hunk.start - end) (drop end base),
      length-drop end base,
    )

pub measured_more : (base delta rest after : List ℕ) (end size : ℕ) (hunk : Hunk)
    → Measured base delta end rest size → IsPlaced (length base) end hunk → rest ≡ hunk_bytes hunk ++ after
    → Measured base delta hunk.end after (size + (hunk.start - end + length hunk.content))
measured_more base delta rest after end size hunk m placed spelled =
    let piece = length-piece base end hunk placed in
    let spelled_length = ap length spelled ∙ length-append (hunk_bytes hunk) after in
    let hunk_length = length-append (header hunk.start hunk.end (length hunk.content)) hunk.content in
    record {
      text = m.text ++ piece_of base (end, hunk);
      took = took_more base delta rest after m.text end hunk m.took placed spelled;
      size_is = omega (arith, m.size_is, piece, length-append m.text (piece_of base (end, hunk)));
      within = placed.within;
      small = omega (
        arith,
        m.small,
        placed.ascends,
        placed.forward,
        spelled_length,
        hunk_length,
        length-header hunk.start hunk.end (length hunk.content),
      );
    }

pub measured_all : (base delta : List ℕ) (end size : ℕ) → Measured base delta end [] size → (text : List ℕ)
    × Applies base delta text × (size + (length base - end) ≡ length text)
measured_all base delta end size m = (
  m.text ++ drop end base,
  took_all base delta m.text end m.took,
  omega (arith, m.size_is, length-append m.text (drop end base), length-drop end base),
)
