use Rattle.std.proofs.Common.{rules}
use Rattle.hg_host.proofs.Beats.{by_beats}
use Rattle.hg_host.proofs.service.HostService.serve.Goals as goal

pub returns : goal.returns
returns g c = record {
  recovered = let i = c.self.invariant in let e = c.self.view_is in search rules;
  terms = _;
  count = let i = c.self.invariant in let e = c.self.view_is in search rules;
  serves = by_beats _ _ _ _ _ _ _ _ _ _ _ _ _ _ _ _ _ c.self.invariant.2 c.serve_http.ensures;
}
