use Rattle.std.proofs.Common.{◌∙◌, ap}
use Rattle.hg_store.specs.declared.head.Version.TheVariants.{Second}
use Rattle.hg_store.proofs.Frames.{frame_put}
use Rattle.hg_store.proofs.sealed.Sealed.put.Goals as goal

pub returns-clause-record : goal.returns-clause-record
returns-clause-record g c = (
  c.chained-digest.ensures,
  frame_put Second c.args.before.now c.args.self.now c.args.out.now.items c.put_parts.new.out.items
      c.name.result.now c.chained-digest.result c.bundle.result.now c.numbers.result c.numbers.ensures.numbers
      (c.name.ensures ∙ ap (λ (s : _). s.name) c.stamp.ensures) c.chained-digest.ensures c.bundle.ensures
      c.in_ok-put_parts.ensures,
)
