-- What a request asks (Mercurial's `internals.wireprotocol`, "HTTP Version 1 Transport").
use Rattle.std.specs.Prelude.{ℕ, zero, suc, ◌+◌, Bool, false, not, ◌&&◌, List, [], ◌∷◌, ◌++◌, Option, Some}
use Rattle.std.specs.Prelude.{None}
use Rattle.std.specs.Prelude.{is_some, unwrap_or, codes, decimal, bytes_eq}
use Rattle.http.specs.declared.request.Request.{Request}
use Rattle.http.specs.Request.{head_of, body_of}
use Rattle.http_uri.specs.Uri.{uri_query}
use Rattle.http_header.specs.FieldValue.{FieldValue}
use Rattle.http_header.specs.HeaderMap.{Entries, get}
use Rattle.http_header.specs.Token.{lowercase}
use Rattle.hg_wireproto.specs.declared.form.Field.{Field}
use Rattle.hg_wireproto.specs.Form.{fields_of, value_in}

-- the text after the `?` of its target; the empty one where there is none
abbrev pub query_of : Request (List ℕ) → List ℕ
query_of r = unwrap_or (uri_query (head_of r).uri) []

-- the first value of a header field; the names of fields are known in lower case
abbrev pub value_named : Entries FieldValue → List ℕ → Option FieldValue
value_named headers name = get headers (lowercase name)

-- the header field that holds a piece of the arguments, by its number
abbrev pub piece_name : ℕ → List ℕ
piece_name number = codes "x-hgarg-" ++ decimal number

-- the value of a field, and then the rest; nothing where there is no such field
abbrev pub joined_to : Option FieldValue → List ℕ → List ℕ
joined_to None rest = []
joined_to (Some value) rest = value.bytes ++ rest

-- the pieces from that number on, joined with nothing between, up to the first that is not there; so many at
-- most
unfoldable pub pieces_from : Entries FieldValue → ℕ → ℕ → List ℕ
pieces_from headers number zero = []
pieces_from headers number (suc more) =
    joined_to (value_named headers (piece_name number)) (pieces_from headers (number + 1) more)

-- a head has so many fields at most
abbrev pub most_pieces : ℕ
most_pieces = 64

-- the arguments: the fields of the query, and then those of the pieces
unfoldable pub arguments_of : {A : Type 0} → Request (List ℕ) → List (Field A)
arguments_of r = fields_of (query_of r ++ 38 ∷ pieces_from (head_of r).headers 1 most_pieces)

-- an argument; one that is not there is empty, and of two of a name the later counts
unfoldable pub argument_in : {A : Type 0} → List (Field A) → List ℕ → List ℕ
argument_in fields name = unwrap_or (value_in fields name) []

-- the name of the command: the query's `cmd`
unfoldable pub name_of : (A : Type 0) → Request (List ℕ) → List ℕ
name_of A r = argument_in {A = A} (fields_of (query_of r)) (codes "cmd")

-- the bytes of a field; none where there is no such field
abbrev pub bytes_in : Option FieldValue → List ℕ
bytes_in None = []
bytes_in (Some value) = value.bytes

-- the name of who pushes: what the field says that is believed, and no bytes where none is
abbrev pub user_of : Option (List ℕ) → Request (List ℕ) → List ℕ
user_of None r = []
user_of (Some field) r = bytes_in (value_named (head_of r).headers field)

-- the content type is that of the protocol
abbrev pub is_protocol : Option FieldValue → Bool
is_protocol None = false
is_protocol (Some value) = bytes_eq value.bytes (codes "application/mercurial-0.1")

-- It came by POST, with the content type of the protocol and without the field `origin`: so no page in a
-- browser sent it.
unfoldable pub is_from_client : Request (List ℕ) → Bool
is_from_client r = bytes_eq (head_of r).method (codes "POST")
    && (not (is_some (value_named (head_of r).headers (codes "origin")))
    && is_protocol (value_named (head_of r).headers (codes "content-type")))
