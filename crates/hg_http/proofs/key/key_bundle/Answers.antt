use Rattle.std.proofs.Common.{◌≡◌, ◌∙◌, sym, subst, ap, List, Result, Ok, Err}
use Rattle.std.specs.Prelude.{All, IfOk}
use Rattle.hg_types.specs.declared.part.Part.{Part}
use Rattle.hg_stream.specs.Written.{bundle_bytes, CanBeWritten}
use Rattle.hg_http.proofs.Keys.{are_written}
use Rattle.hg_http.proofs.key.key_bundle.Goals as goal

pub write_bundle-requires-clause-parts : goal.write_bundle-requires-clause-parts
write_bundle-requires-clause-parts g c =
    subst (λ (parts : List (Part g.row.A.Denot)). All CanBeWritten parts)
    (sym (c.as_slice.ensures ∙ c.in_ok-parts.ensures)) (are_written _ _ _ _ c.requires)

pub returns : goal.returns
returns g c =
    let same = c.as_slice.ensures ∙ c.in_ok-parts.ensures in
    subst (λ (parts : List (Part g.row.A.Denot)). IfOk c.write_bundle.result (λ bundle. bundle.items ≡ bundle_bytes parts))
    same c.write_bundle.ensures
