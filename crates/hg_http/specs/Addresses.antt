-- Which requests a server answers: those for its name, at its path, with a command that stands there plainly.
use Rattle.std.specs.Prelude.{ℕ, ◌==◌, Bool, true, false, not, ◌&&◌, ◌||◌, List, [], ◌∷◌, length, take, drop, codes}
use Rattle.std.specs.Prelude.{Option, Some, None, is_some, if◌then◌else◌, bytes_eq, nat_eq, nat_le, map}
use Rattle.std.specs.List.{starts_with}
use Rattle.std.specs.Option.{option_copied}
use Rattle.http.specs.declared.request.Request.{Request}
use Rattle.http.specs.Request.{head_of}
use Rattle.http_uri.specs.Uri.{uri_path}
use Rattle.http_header.specs.FieldValue.{FieldValue}
use Rattle.http_header.specs.Token.{lowercase}
use Rattle.hg_wireproto.specs.Once.{stands_once}
use Rattle.hg_http.specs.declared.address.Address.{Address}
use Rattle.hg_http.specs.declared.address.AddressFault.{AddressFault}
use Rattle.hg_http.specs.declared.address.AddressFault.TheVariants.{OtherName, OtherPath, UnclearCommand}
use Rattle.hg_http.specs.declared.command.Command.{Command}
use Rattle.hg_http.specs.Requests.{query_of, value_named}

-- nothing, or a colon and what is behind it
abbrev pub is_port : List ℕ → Bool
is_port [] = true
is_port (byte ∷ more) = byte == 58

-- a field gives this name, whatever the case of its letters, and perhaps a port
unfoldable pub gives_name : List ℕ → List ℕ → Bool
gives_name name value = nat_le (length name) (length value)
    && (bytes_eq (lowercase (take (length name) value)) (lowercase name) && is_port (drop (length name) value))

-- where a name is wanted, no other one is given
abbrev pub is_for_name : Option (List ℕ) → Option FieldValue → Bool
is_for_name None field = true
is_for_name (Some name) None = true
is_for_name (Some name) (Some value) = gives_name name value.bytes

-- what stands behind a path, in one that begins with it
unfoldable pub behind : List ℕ → List ℕ → Option (List ℕ)
behind base path = if starts_with nat_eq path base then Some (drop (length base) path) else None

-- nothing more, or a slash
abbrev pub is_end : List ℕ → Bool
is_end rest = bytes_eq rest (codes "") || bytes_eq rest (codes "/")

-- the path of a server, with a slash at its end or without one
abbrev pub is_home : Option (List ℕ) → Bool
is_home None = false
is_home (Some rest) = is_end rest

-- what of a request's path stands behind that of the server
abbrev pub place_of : Address → Request (List ℕ) → Option (List ℕ)
place_of address r = behind address.path.now (uri_path (head_of r).uri)

-- Why a request is not answered: it is for another name; its command is at another path; or the query has `cmd` twice,
-- or with an escape, so that who stands before the server may read another command.
unfoldable pub fault_of : Address → Option Command → Request (List ℕ) → Option AddressFault
fault_of address command r =
    if not (is_for_name (option_copied address.name) (value_named (head_of r).headers (codes "host")))
    then Some OtherName
    else if is_some command && not (is_home (place_of address r)) then Some OtherPath
    else if not (stands_once (codes "cmd") (query_of r)) then Some UnclearCommand
    else None
