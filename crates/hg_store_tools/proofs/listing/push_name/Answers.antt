use Rattle.std.proofs.Common.{◌≡◌, ◌∙◌, ◌++◌, ◌<◌, ℕ, List, ap, arith, string_bytes}
use Rattle.std.proofs.lemmas.List.Elements.{All-from_get_or}
use Rattle.percent_encoding.specs.Iter.{encoded_text}
use Rattle.hg_repo.specs.Report.{escaped}
use Rattle.hg_store_tools.proofs.Escapes.{name_escaped}
use Rattle.hg_store_tools.proofs.listing.push_name.Goals as goal

pub returns : goal.returns
returns g c =
    let name = c.args.name.now in
    let small = All-from_get_or (λ (b : ℕ). b < 256) name 0 (λ i within. omega (arith, c.type_inv.name i)) in
    let written : encoded_text c.percent_encode-name.result ≡ escaped name =
    c.percent_encode-name.ensures.text ∙ name_escaped name small in
    c.in_ok-write.ensures.bytes ∙ ap (λ (word : List ℕ). string_bytes c.args.line.now ++ word) written
