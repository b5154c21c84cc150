use Rattle.std.proofs.Common.{◌∙◌, ap}
use Rattle.hg_store.specs.Records.{frames}
use Rattle.hg_store.specs.declared.head.Version.{Version}
use Rattle.hg_store.proofs.AtRest.{rest_is}
use Rattle.hg_store.proofs.place.bytes_at_rest.Goals as goal

pub returns : goal.returns
returns g c =
    rest_is c.args.head.now c.args.records.now c.new-bytes.result.items c.put.new.out.items c.deref.result.now
    c.digest.result c.in_ok-frames.frames.items c.deref-2.result.now c.extend_from_slice.new.self.items
    c.push.new.self.items c.new-bytes.ensures.items c.in_ok-put.ensures c.deref.ensures.value c.digest.ensures
    (c.in_ok-frames.ensures.0
    ∙ ap (λ (v : Version). frames v c.digest.result c.args.records.now) c.version.ensures) c.deref-2.ensures.value c.in_ok-extend_from_slice.ensures.items
    c.in_ok-push.ensures.items
