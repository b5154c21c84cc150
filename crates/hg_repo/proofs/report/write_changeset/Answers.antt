use Rattle.std.proofs.Common.{◌≡◌, ◌∙◌, ◌++◌, ◌∷◌, [], ℕ, List, codes, ap, sym}
use Rattle.std.specs.Prelude.{decimal}
use Rattle.std.specs.String.{string_bytes}
use Rattle.hex.specs.Hex.{encode_lower}
use Rattle.hg_types.specs.Phase.{number_of}
use Rattle.hg_log.specs.Changeset.{Changeset}
use Rattle.hg_log.specs.HeadCount.{id_at}
use Rattle.hg_phases.specs.Order.{phase_at}
use Rattle.hg_repo.specs.Reading.{is_obsolete}
use Rattle.hg_repo.specs.Report.{line, digit_of, changeset_line}
use Rattle.hg_repo.proofs.Lines.{has_id, node_of, told_digit}
use Rattle.hg_repo.proofs.report.write_changeset.Goals as goal

pub returns : goal.returns
unfolding changeset_line
returns g c =
    let old = string_bytes c.args.text.now in
    let repo = c.args.repo.now in
    let rev = c.args.rev in
    let rows = c.log.result.now.rows in
    let node = c.node-node.result in
    let id = id_at repo.rows rev in
    let has = has_id rows rev node.0 c.node-node.ensures in
    let here : id ≡ node.0 = ap (λ (rows : List Changeset). id_at rows rev) (sym c.log.ensures) ∙ has in
    let digits : string_bytes c.in_ok-id.id ≡ encode_lower id =
    c.in_ok-id.ensures ∙ ap encode_lower (c.as_slice.ensures ∙ sym here) in
    let number = decimal (number_of (phase_at repo.phases rev)) in
    let phase : decimal c.number-phase.result ≡ number =
    ap decimal (c.number-phase.ensures ∙ ap number_of c.phase_at.ensures) in
    let asked : c.is_obsolete.result ≡ is_obsolete repo (node_of id) =
    c.is_obsolete.ensures ∙ ap (λ id. is_obsolete repo (node_of id)) (sym here) in
    let told = decimal c.from-obsolete.result in
    let obsolete : told ≡ digit_of (is_obsolete repo (node_of id)) =
    ap decimal c.from-obsolete.ensures ∙ told_digit c.is_obsolete.result ∙ ap digit_of asked in
    let words = λ (id phase last : List ℕ). old ++ line (codes "C") (decimal rev ∷ id ∷ phase ∷ last ∷ []) in
    let shown = decimal c.number-phase.result in
    let written : string_bytes c.writeln.new.self ≡ words (string_bytes c.in_ok-id.id) shown told =
    c.in_ok-writeln.ensures.bytes in
    written
    ∙ ap (λ word. words word shown told) digits
    ∙ ap (λ word. words (encode_lower id) word told) phase
    ∙ ap (λ word. words (encode_lower id) number word) obsolete
