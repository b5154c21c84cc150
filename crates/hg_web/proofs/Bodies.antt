-- The reader of a body.
use Rattle.std.proofs.Common.{◌≡◌, ℕ, ◌+◌, List, [], ◌∷◌, ◌++◌, sym, ap, ◌∙◌, take, drop, take-append-drop}
use Rattle.std.proofs.Common.{length, map, ◌-◌}
use Rattle.std.proofs.lemmas.List.{drop-drop, length-drop, map-append}
use Rattle.std.proofs.Math.Seq.{take-length}
use Rattle.hg_connection.specs.Devices.{ReadsOnce, Gave}
use Rattle.hg_web.specs.code.Bodies.{BodyView, given, input_of}

-- what a slice from a place on has at its front
pub front_from : (n at : ℕ) (xs : List ℕ) →
    take n (take (length xs - at) (drop at xs)) ≡ take n (drop at xs)
front_from n at xs =
    ap (take n) (ap (λ m. take m (drop at xs)) (sym (length-drop at xs)) ∙ take-length (drop at xs))

-- one read of it
pub reads_on : (b : BodyView) (count : ℕ) (front : List ℕ) → front ≡ take count (drop b.at b.bytes) →
    ReadsOnce (input_of b) (input_of (record b { at = b.at + count; reads = b.reads ++ (b.at, count) ∷ [] }))
    (Gave front)
reads_on b count front is = record {
  bytes = sym (take-append-drop count (drop b.at b.bytes))
      ∙ (ap (λ l. l ++ drop count (drop b.at b.bytes)) (sym is)
      ∙ ap (λ l. front ++ l) (drop-drop count b.at b.bytes));
  told = map-append (given b.bytes) b.reads ((b.at, count) ∷ [])
      ∙ ap (λ l. map (given b.bytes) b.reads ++ Gave l ∷ []) (sym is);
}
