use Rattle.std.proofs.Common.{◌∙◌, ap}
use Rattle.hg_web.proofs.Served.{converses_as, converses_from, not_failed}
use Rattle.hg_web.proofs.serve.serve_http.Goals as goal

pub returns : goal.returns
returns g c =
    let ended = c.serve_stretches-ended in
    let back = c.into_parts-client in
    let last = c.end_of in
    record {
      config = _;
      room = ap (λ l. l.stream) (c.limits.ensures.value ∙ c.limits.ensures.first);
      heads = c.default-config.ensures.3;
      last = ended.new.wire;
      converses = converses_from _ _ _ _ _ _ _ _ _ _ c.new-wire.ensures
          (converses_as _ _ _ _ _ _ _ _ _ _ (λ broke is. broke (last.ensures.done is)) ended.ensures);
      seen = back.ensures.later;
      all = λ other. back.ensures.same (not_failed back.result.2 last.result last.ensures.failed other);
      said_is = λ other. back.ensures.asked (not_failed back.result.2 last.result last.ensures.failed other);
    }
