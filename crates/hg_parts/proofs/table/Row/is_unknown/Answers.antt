use Rattle.std.proofs.Common.{ap, bytes_eq, not}
use Rattle.hg_parts.proofs.Tables.{list_any-map}
use Rattle.hg_parts.proofs.table.Row.is_unknown.Goals as goal

pub returns-then-param : goal.returns-then-param
returns-then-param g c =
    rw (c.knows.ensures, c.as_slice.ensures, c.if-param.true)
    (ap not (list_any-map (λ name. bytes_eq name c.args.param.now.key)
    (λ name. name.now) c.args.self.now.known.now))
