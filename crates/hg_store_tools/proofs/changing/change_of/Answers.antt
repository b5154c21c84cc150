use Rattle.std.proofs.Common.{List, ap, find, option_copied, ◌∙◌}
use Rattle.std.specs.Str.{str_eq_ignore_ascii_case}
use Rattle.hg_store_tools.specs.code.Changing.{Change, change_value}
use Rattle.hg_store_tools.proofs.Kept.{found-map}
use Rattle.hg_store_tools.proofs.changing.change_of.Goals as goal

pub returns : goal.returns
returns c =
    found-map (λ change. str_eq_ignore_ascii_case change.name c.args.kind.now) change_value c.changes.result.now
    (option_copied c.find_change.result) c.find_change.ensures
    ∙ ap (λ (changes : List Change). find (λ change. str_eq_ignore_ascii_case change.name c.args.kind.now) changes)
    c.changes.ensures
