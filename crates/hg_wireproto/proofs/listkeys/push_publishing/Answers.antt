use Rattle.std.proofs.Common.{◌∙◌, ap, refl, List, ℕ, Bool}
use Rattle.std.specs.Prelude.{codes}
use Rattle.hg_wireproto.specs.ListKeys.{key_line}
use Rattle.hg_wireproto.proofs.Lines.{line_told}
use Rattle.hg_wireproto.proofs.listkeys.push_publishing.Goals as goal

pub returns-in_ok-push_line : goal.returns-in_ok-push_line
returns-in_ok-push_line g c =
    let key = c.as_slice.result.now in
    let value = c.as_slice-then-publishing.result.now in
    line_told (λ (b : Bool). b) (λ (b : Bool). key_line (codes "publishing") (codes "True"))
    c.args.publishing c.args.publishing c.args.lines.now.items c.push_line.new.lines.items (key_line key value)
    refl c.if-publishing.true
    (ap (λ (k : List ℕ). key_line k value) c.as_slice.ensures
    ∙ ap (λ (v : List ℕ). key_line (codes "publishing") v) c.as_slice-then-publishing.ensures)
    c.in_ok-push_line.ensures
