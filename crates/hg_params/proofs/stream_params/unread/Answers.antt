use Rattle.std.proofs.Common.{◌≡◌, ◌<◌, List, ℕ, [], ◌∷◌, length, Some, refl, sym, ap, arith}
use Rattle.std.proofs.lemmas.List.{nil_from_length}
use Rattle.hg_params.specs.StreamParams.{pieces, pieces_of}
use Rattle.hg_params.proofs.stream_params.unread.Goals as goal

some_unread : (bytes : List ℕ) → 0 < length bytes → pieces_of (Some bytes) ≡ pieces bytes
unfolding pieces pieces_of
some_unread [] some = absurd (omega arith)
some_unread (byte ∷ bytes) some = refl

none_unread : (bytes : List ℕ) → bytes ≡ [] → [] ≡ pieces bytes
unfolding pieces
none_unread bytes e = ap pieces (sym e)

pub returns-in-empty : goal.returns-in-empty
unfolding pieces_of
returns-in-empty c = none_unread c.args.bytes.now
    (nil_from_length c.args.bytes.now (omega (arith, c.in-empty.len_below)))

pub returns-in-len1-up : goal.returns-in-len1-up
returns-in-len1-up c = some_unread c.args.bytes.now (omega (arith, c.in-len1-up.len_at_least))
