-- Steps of a reader of bundles, one after another.
use Rattle.std.proofs.Common.{◌≡◌, ℕ, ◌+◌, ◌-◌, ◌≤◌, ◌<◌, Ok, Err, List, [], ◌++◌, length, take, drop, refl}
use Rattle.std.proofs.Common.{sym, ap, ◌∙◌, append_assoc, arith, subst}
use Rattle.std.proofs.Math.Seq.{take-add}
use Rattle.std.proofs.lemmas.List.{append-nil, take_all, length-drop}
use Rattle.hg_types.specs.declared.part.Part.{Part}
use Rattle.hg_stream.specs.declared.fault.StreamFault.{StreamFault}
use Rattle.hg_stream.specs.declared.unbundler.Unbundler.{Unbundler}
use Rattle.hg_stream.specs.Unbundler.{IsAt, limits_of}
use Rattle.hg_stream.specs.code.Steps.{KeepsParts, Moves, BreaksBundle, MeetsFault, Halts, Steps}
use Rattle.hg_stream.specs.Unbundler.{ready_of}
use Rattle.hg_stream.proofs.Steps.{finishes_none}

pub moves_none : {A : Type 0} (u : Unbundler A) → Moves u u []
moves_none u bytes parts at = ([], finishes_none u u (bytes ++ []) parts refl (rw append-nil at))

pub moves_then : {A : Type 0} (u v w : Unbundler A) (a b : List ℕ) → Moves u v a → Moves v w b
    → Moves u w (a ++ b)
moves_then u v w a b first second bytes parts at =
    let x = first bytes parts at in
    let y = second (bytes ++ a) (parts ++ x.0) x.1.at in
    let at_bytes : IsAt w (bytes ++ (a ++ b)) ((parts ++ x.0) ++ y.0) = subst
    (λ t. IsAt w t ((parts ++ x.0) ++ y.0)) (append_assoc bytes a b) y.1.at in (
      x.0 ++ y.0,
      record {
        ready = y.1.ready ∙ ap (λ (r : List (Part _)). r ++ y.0) x.1.ready
            ∙ append_assoc (ready_of u) x.0 y.0;
        at = subst (λ p. IsAt w (bytes ++ (a ++ b)) p) (append_assoc parts x.0 y.0) at_bytes;
      },
    )

pub halts_then : {A : Type 0} (fault : StreamFault) (u v w : Unbundler A) (a b : List ℕ)
    → limits_of v ≡ limits_of u → limits_of w ≡ limits_of v → KeepsParts v w → Moves u v a → MeetsFault fault v b
    → Halts fault u w (a ++ b)
halts_then fault u v w a b limits same kept first fails bytes parts at =
    let x = first bytes parts at in
    let wrong : BreaksBundle fault (limits_of u) ((bytes ++ a) ++ b) (parts ++ x.0) = subst
    (λ l. BreaksBundle fault l ((bytes ++ a) ++ b) (parts ++ x.0)) limits
    (fails (bytes ++ a) (parts ++ x.0) x.1.at) in (
      x.0,
      kept.0 ∙ x.1.ready,
      ap (λ n. n + length (parts ++ x.0)) kept.1 ∙ x.1.at.left ∙ ap (λ l. l.parts) (sym same),
      subst (λ t. BreaksBundle fault (limits_of u) t (parts ++ x.0)) (append_assoc bytes a b) wrong,
    )

-- what is left of a piece from a place on
pub tail_is : (piece : List ℕ) (i : ℕ) → take (length piece - i) (drop i piece) ≡ drop i piece
tail_is piece i = take_all (length piece - i) (drop i piece) (omega (arith, length-drop i piece))

-- a piece up to a place, and so many bytes of what is left
pub piece_then : (piece : List ℕ) (i n : ℕ) → take i piece
    ++ take n (take (length piece - i) (drop i piece)) ≡ take (i + n) piece
piece_then piece i n = ap (λ (t : List ℕ). take i piece ++ take n t) (tail_is piece i)
    ∙ sym (take-add i n piece)

pub within_piece : (piece : List ℕ) (i n : ℕ) → i ≤ length piece
    → n ≤ length (take (length piece - i) (drop i piece)) → i + n ≤ length piece
within_piece piece i n within more = let is = ap length (tail_is piece i) in
    omega (arith, is, length-drop i piece, within, more)

-- a step that took some bytes, and one that met a fault
pub took : {A : Type 0} (u v : Unbundler A) (piece : List ℕ) (n : ℕ) → n ≤ length piece → 0 < n
    → limits_of v ≡ limits_of u → v.stream_left ≡ u.stream_left → Moves u v (take n piece)
    → Steps u v piece (Ok n)
took u v piece n within some limits left moves =
    record {
      count = within;
      some = some;
      ok = moves;
      err = tt;
      kept = tt;
      limits = limits;
      stream_left = left;
    }

pub stumbled : {A : Type 0} (u v : Unbundler A) (piece : List ℕ) (fault : StreamFault) → KeepsParts u v
    → limits_of v ≡ limits_of u → v.stream_left ≡ u.stream_left
    → (place : ℕ) × (place ≤ length piece) × MeetsFault fault u (take place piece) → Steps u v piece (Err fault)
stumbled u v piece fault kept limits left fails =
    record { count = tt; some = tt; ok = tt; err = fails; kept = kept; limits = limits; stream_left = left }
