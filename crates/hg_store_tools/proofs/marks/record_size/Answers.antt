use Rattle.std.proofs.Common.{ℕ, ◌+◌, ◌∙◌, ap, length}
use Rattle.hg_store.specs.Entries.{Stamp}
use Rattle.hg_store_tools.proofs.Walks.{size_so}
use Rattle.hg_store_tools.proofs.marks.record_size.Goals as goal

pub returns : goal.returns
returns g c =
    size_so c.args.version c.args.entry.now c.in_ok-size.size c.size_beside.result c.name.result.now
    c.bundle.result.now
    (c.in_ok-size.ensures.1 ∙ ap (λ (n : ℕ). n + length c.bundle.result.now) c.in_ok-named.ensures.1)
    c.size_beside.ensures
    (c.name.ensures ∙ ap (λ (s : Stamp). s.name) c.stamp.ensures) c.bundle.ensures
