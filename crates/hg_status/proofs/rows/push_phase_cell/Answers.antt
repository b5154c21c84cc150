use Rattle.std.proofs.Common.{◌∙◌, ◌++◌, List, ℕ, ap, append_assoc, codes}
use Rattle.std.specs.String.{string_bytes}
use Rattle.hg_status.specs.Rows.{phase_cell, phase_text}
use Rattle.hg_status.proofs.rows.push_phase_cell.Goals as goal

pub returns : goal.returns
unfolding phase_cell
returns g c =
    let phase = phase_text c.args.phase in
    c.in_ok-push_phase.ensures
    ∙ ap (λ (text : List ℕ). text ++ phase) c.in_ok-push_str.ensures.bytes
    ∙ append_assoc (string_bytes c.args.row.now) (codes "</code><td class=") phase
