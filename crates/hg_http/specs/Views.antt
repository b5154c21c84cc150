-- What is asked for without a command.
use Rattle.std.specs.Prelude.{ℕ, Bool, true, false, not, ◌&&◌, List, ◌∷◌, ◌++◌, Option, Some, None, codes}
use Rattle.std.specs.Prelude.{bytes_eq, if◌then◌else◌, is_some}
use Rattle.http.specs.declared.request.Request.{Request}
use Rattle.http.specs.Request.{head_of}
use Rattle.http_uri.specs.Uri.{uri_query}
use Rattle.hg_http.specs.declared.address.Address.{Address}
use Rattle.hg_http.specs.declared.view.StatusView.{StatusView}
use Rattle.hg_http.specs.declared.view.StatusView.TheVariants.{Page, Report, Metrics}
use Rattle.hg_http.specs.Addresses.{is_end, place_of}
use Rattle.hg_http.specs.Requests.{query_of}

-- by what stands behind the path of the server; the page has no query
unfoldable pub view_at : List ℕ → Bool → Option StatusView
view_at rest has_query =
    if bytes_eq rest (codes "/report") then Some Report
    else if bytes_eq rest (codes "/metrics") then Some Metrics
    else if is_end rest && not has_query then Some Page
    else None

-- none where the path is another one
abbrev pub view_behind : Option (List ℕ) → Bool → Option StatusView
view_behind None has_query = None
view_behind (Some rest) has_query = view_at rest has_query

-- the view that a request asks for, if it is one
unfoldable pub view_of : Address → Request (List ℕ) → Option StatusView
view_of address r =
    if bytes_eq (head_of r).method (codes "GET")
    then view_behind (place_of address r) (is_some (uri_query (head_of r).uri))
    else None

-- an address with the query of the request
abbrev pub moved_to : List ℕ → Request (List ℕ) → List ℕ
moved_to address r = address ++ 63 ∷ query_of r
