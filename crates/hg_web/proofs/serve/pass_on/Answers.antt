use Rattle.std.proofs.Common.{◌≡◌, true, false, [], refl, sym, append-nil}
use Rattle.hg_web.proofs.serve.pass_on.Goals as goal

pub returns-in-true-clause-given : goal.returns-in-true-clause-given
returns-in-true-clause-given c = (
  [],
  c.args.bytes.now,
  refl,
  record { received = sym (append-nil _); sent = refl; calls = refl; state = refl; pending = refl },
  λ wrong. absurd (let e : false ≡ true = wrong in cc),
)
