use Rattle.std.proofs.Common.{◌≡◌, ◌∙◌, ◌++◌, ◌∷◌, [], ◌<◌, ℕ, codes, ap, arith}
use Rattle.std.specs.String.{string_bytes}
use Rattle.std.proofs.lemmas.List.Elements.{All-from_get_or}
use Rattle.hex.specs.Hex.{encode_lower}
use Rattle.percent_encoding.specs.Iter.{encoded_text}
use Rattle.hg_repo.specs.Report.{escaped, line, bookmark_line}
use Rattle.hg_repo.proofs.Escapes.{name_escaped}
use Rattle.hg_repo.proofs.report.write_bookmark.Goals as goal

pub returns : goal.returns
unfolding bookmark_line
returns g c =
    let old = string_bytes c.args.text.now in
    let name = c.args.name.now in
    let small = All-from_get_or (λ (b : ℕ). b < 256) name 0 (λ i within. omega (arith, c.type_inv.name i)) in
    let encoded = encoded_text c.percent_encode-name.result in
    let written : encoded ≡ escaped name = c.percent_encode-name.ensures.text ∙ name_escaped name small in
    let digits = encode_lower c.args.node.now.0 in
    let id : string_bytes c.in_ok-id.id ≡ digits = c.in_ok-id.ensures ∙ ap encode_lower c.as_slice.ensures in
    c.in_ok-writeln.ensures.bytes
    ∙ ap (λ word. old ++ line (codes "B") (word ∷ encoded ∷ [])) id
    ∙ ap (λ word. old ++ line (codes "B") (digits ∷ word ∷ [])) written
