use Rattle.std.proofs.Common.{◌≡◌, ◌∙◌, ap}
use Rattle.http_header.specs.HeaderMap.{get}
use Rattle.http_header.specs.Token.{lowercase}
use Rattle.hg_http.proofs.request.piece.Goals as goal

pub returns : goal.returns
returns g c = c.get.ensures.value
    ∙ ap (λ name. get c.args.headers.now (lowercase name)) (c.as_str.ensures.value ∙ c.in_ok-name.ensures.ok)
