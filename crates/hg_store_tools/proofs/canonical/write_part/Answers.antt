use Rattle.std.proofs.Common.{◌≡◌, ◌∙◌, ap, map}
use Rattle.hg_store_tools.specs.Canonical.{params_named}
use Rattle.hg_store_tools.proofs.Headers.{stands_named}
use Rattle.hg_store_tools.proofs.canonical.write_part.Goals as goal

pub write_header-requires : goal.write_header-requires
write_header-requires g c =
    let names = map (λ name. name.now) c.args.names.now in
    let params : c.as_slice-3.result.now ≡ params_named names c.args.part.now.params = c.as_slice-3.ensures
    ∙ c.in_ok-params.ensures ∙ ap (params_named names) c.as_slice.ensures in
    rw (c.as_slice-2.ensures, params) (stands_named names c.requires.header _ c.requires.reads).can
