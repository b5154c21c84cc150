use Rattle.std.proofs.Common.{◌∙◌, ap, map}
use Rattle.std.specs.Prelude.{bytes_eq}
use Rattle.std.specs.List.{list_any}
use Rattle.hg_store_tools.proofs.Kept.{list_any-map}
use Rattle.hg_store_tools.proofs.changing.is_named.Goals as goal

pub returns : goal.returns
returns g c =
    c.is_among.ensures
    ∙ list_any-map (λ name. bytes_eq name c.as_slice.result.now) (λ name. name.now) c.args.names.now
    ∙ ap (λ key. list_any (λ name. bytes_eq name key) (map (λ name. name.now) c.args.names.now)) c.as_slice.ensures
