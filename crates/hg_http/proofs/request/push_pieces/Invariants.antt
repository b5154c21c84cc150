use Rattle.std.proofs.Common.{◌≡◌, ◌+◌, ◌-◌, ◌++◌}
use Rattle.hg_http.specs.Requests.{most_pieces, pieces_from}
use Rattle.hg_http.proofs.request.push_pieces.Given as goal

-- what is there so far, and the pieces from the next one on, are all
abbrev pub invariant-pieces : goal.invariant-pieces
invariant-pieces g l = l.form.items ++ pieces_from l.headers (l.place + 1) (most_pieces - l.place)
    ≡ l.initial.form.items ++ pieces_from l.headers 1 most_pieces
