use Rattle.std.proofs.Common.{All, sym, subst}
use Rattle.hg_store_tools.specs.code.Canonical.{WasRead}
use Rattle.hg_store_tools.proofs.Parts.{were_read}
use Rattle.hg_store_tools.proofs.canonical.canonical_bundle.Goals as goal

pub write_canonical-requires : goal.write_canonical-requires
write_canonical-requires g c =
    subst (All WasRead) (sym c.deref.ensures.value)
    (were_read c.args.limits c.args.bytes.now c.in-Ok.parts.items c.requires c.in-Ok.ensures.ok)
