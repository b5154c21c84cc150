use Rattle.std.proofs.Common.{◌∙◌, ◌++◌, List, ℕ, ap, append_assoc, codes}
use Rattle.std.specs.String.{string_bytes}
use Rattle.hg_status.specs.Rows.{id_cell, id_text}
use Rattle.hg_status.proofs.rows.push_id_cell.Goals as goal

pub returns : goal.returns
unfolding id_cell
returns g c =
    let id = id_text c.args.node.now.0 in
    c.in_ok-push_id.ensures
    ∙ ap (λ (text : List ℕ). text ++ id) c.in_ok-push_str.ensures.bytes
    ∙ append_assoc (string_bytes c.args.row.now) (codes "<tr><td><code>") id
