-- The header of an interrupting part.
use Rattle.std.proofs.Common.{◌≡◌, ℕ, ◌≤◌, List, [], ◌++◌, length, refl, sym, ap, ◌∙◌, arith, inl, inr, subst}
use Rattle.std.proofs.Common.{take}
use Rattle.hg_types.specs.declared.limits.Limits.{Limits}
use Rattle.hg_types.specs.declared.part.Part.{Part}
use Rattle.hg_params.specs.declared.head.Head.{Head}
use Rattle.hg_stream.specs.declared.block.BlockIn.{BlockIn}
use Rattle.hg_stream.specs.declared.fault.StreamFault.{StreamFault}
use Rattle.hg_stream.specs.declared.interrupting.Verdict.{Verdict}
use Rattle.hg_stream.specs.Block.{sized, IsBlock}
use Rattle.hg_stream.specs.Frames.{max_header, HasHead}
use Rattle.hg_stream.specs.Places.{IsInterrupted, IsInInner, of_interrupting}
use Rattle.hg_stream.specs.Faults.{EndsInnerHeader}
use Rattle.hg_stream.specs.code.Told.{JudgesHeader, ReadsInterrupting, RefusesInterrupting}
use Rattle.hg_stream.specs.Unbundler.{Waits}
use Rattle.hg_stream.specs.code.Steps.{BreaksBundle}
use Rattle.hg_stream.proofs.Steps.{further, header_err, EndsBlock}

has_head : {A : Type 0} (block : List ℕ) (verdict : Verdict) → IsBlock max_header block
    → (j : JudgesHeader A block verdict) → HasHead block j.0
has_head block verdict is j = record { some = is.0; small = is.1; reads = j.1 }

-- the header decides what becomes of the part
judged : {A : Type 0} (limits : Limits) (b after : BlockIn A) (verdict : Verdict)
    (bytes front rest taken : List ℕ) (parts : List (Part A)) (head : Head A) (payload : List ℕ)
    → JudgesHeader A after.block.items verdict → after.most ≡ b.most → EndsBlock b after taken
    → IsInterrupted limits front parts head payload → Waits b max_header rest → bytes ≡ front ++ rest
    → EndsInnerHeader limits (bytes ++ taken) parts verdict
judged limits b after verdict bytes front rest taken parts head payload j same ends is waits spelled =
    let whole = ends rest waits.holds in
    let block : IsBlock max_header after.block.items = subst (λ m. IsBlock m after.block.items) (same
    ∙ waits.most_is) whole.0 in
    record {
      front = front;
      head = head;
      payload = payload;
      interrupted = is;
      header = after.block.items;
      inner_head = j.0;
      reads = has_head after.block.items verdict block j;
      decided = j.2;
      spelled = further bytes front rest taken spelled ∙ ap (λ (x : List ℕ). front ++ x) whole.1;
    }

-- the header is refused, or the part, or memory
pub interrupting_err : {A : Type 0} (fault : StreamFault) (limits : Limits) (b after : BlockIn A)
    (piece : List ℕ) (n : ℕ) → n ≤ length piece → RefusesInterrupting A after.block.items fault
    → after.most ≡ b.most → EndsBlock b after (take n piece)
    → (place : ℕ) × (place ≤ length piece)
    × ((bytes front rest : List ℕ) (parts : List (Part A)) (head : Head A) (payload : List ℕ)
    → IsInterrupted limits front parts head payload → Waits b max_header rest
    → bytes ≡ front ++ rest → BreaksBundle fault limits (bytes ++ take place piece) parts)
interrupting_err fault limits b after piece n within (inl refused) same ends =
    let failed = header_err fault limits b after piece n within refused same ends in (
      failed.0,
      failed.1,
      λ bytes front rest parts head payload is waits spelled.
          failed.2 bytes front rest parts max_header (of_interrupting head payload is refl) waits spelled,
    )
interrupting_err fault limits b after piece n within (inr (inl (e, j))) same ends = (
  n,
  within,
  λ bytes front rest parts head payload is waits spelled.
      subst (λ f. BreaksBundle f limits (bytes ++ take n piece) parts) (sym e)
      (judged limits b after _ bytes front rest (take n piece) parts head payload j same ends is waits
      spelled),
)
interrupting_err fault limits b after piece n within (inr (inr (e, j))) same ends = (
  n,
  within,
  λ bytes front rest parts head payload is waits spelled.
      subst (λ f. BreaksBundle f limits (bytes ++ take n piece) parts) (sym e)
      (judged limits b after _ bytes front rest (take n piece) parts head payload j same ends is waits
      spelled),
)

-- the header opens the part's payload
pub opens_inner : {A : Type 0} (limits : Limits) (front : List ℕ) (parts : List (Part A)) (head : Head A)
    (payload block : List ℕ) → IsInterrupted limits front parts head payload → IsBlock max_header block
    → ReadsInterrupting A block → IsInInner limits (front ++ (sized block ++ [])) parts head payload []
opens_inner limits front parts head payload block is fits j = record {
  front = front;
  interrupted = is;
  header = block;
  inner_head = j.0;
  reads = has_head block _ fits j;
  dropped = j.2;
  chunks = [];
  each = tt;
  inner_is = refl;
  fits = omega arith;
  spelled = refl;
}
