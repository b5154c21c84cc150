-- The pieces of the arguments, one after another.
use Rattle.std.proofs.Common.{◌≡◌, ℕ, zero, suc, ◌+◌, ◌-◌, ◌≤◌, ◌<◌, ◌++◌, List, [], Some, None, ap, sym}
use Rattle.std.proofs.Common.{subst}
use Rattle.std.proofs.Common.{◌∙◌, append_assoc, arith}
use Rattle.std.proofs.lemmas.List.{append-nil}
use Rattle.http_header.specs.FieldValue.{FieldValue}
use Rattle.http_header.specs.HeaderMap.{Entries}
use Rattle.hg_http.specs.Requests.{joined_to, most_pieces, piece_name, pieces_from, value_named}

one_less : (place : ℕ) → place < most_pieces → most_pieces - place ≡ suc (most_pieces - (place + 1))
one_less place less = omega (arith, less)

-- a piece that is there comes first, and then those after it
pub with_piece : (headers : Entries FieldValue) (place : ℕ) (front : List ℕ) (value : FieldValue)
    → place < most_pieces → value_named headers (piece_name (place + 1)) ≡ Some value
    → (front ++ value.bytes) ++ pieces_from headers (place + 1 + 1) (most_pieces - (place + 1))
    ≡ front ++ pieces_from headers (place + 1) (most_pieces - place)
unfolding pieces_from
with_piece headers place front value less e =
    let rest = pieces_from headers (place + 1 + 1) (most_pieces - (place + 1)) in
    append_assoc front value.bytes rest ∙ ap (λ l. front ++ l)
    (ap (λ o. joined_to o rest) (sym e)
    ∙ ap (λ more. pieces_from headers (place + 1) more) (sym (one_less place less)))

-- after one that is not there comes none
pub without_piece : (headers : Entries FieldValue) (place : ℕ) (front : List ℕ)
    → place < most_pieces → value_named headers (piece_name (place + 1)) ≡ None
    → front ≡ front ++ pieces_from headers (place + 1) (most_pieces - place)
unfolding pieces_from
without_piece headers place front less e =
    let rest = pieces_from headers (place + 1 + 1) (most_pieces - (place + 1)) in
    sym (append-nil front) ∙ ap (λ l. front ++ l)
    (ap (λ o. joined_to o rest) (sym e)
    ∙ ap (λ more. pieces_from headers (place + 1) more) (sym (one_less place less)))

-- and none comes after as many as there may be
pub no_more : (headers : Entries FieldValue) (place : ℕ) (front : List ℕ) → most_pieces ≤ place
    → front ≡ front ++ pieces_from headers (place + 1) (most_pieces - place)
unfolding pieces_from
no_more headers place front many =
    let none : 0 ≡ most_pieces - place = omega (arith, many) in
    sym (append-nil front) ∙ ap (λ more. front ++ pieces_from headers (place + 1) more) none
