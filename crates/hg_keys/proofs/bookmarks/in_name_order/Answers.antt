use Rattle.std.proofs.Common.{◌≡◌, rules, subst}
use Rattle.std.specs.List.Sorted.{IsStableBy}
use Rattle.std.specs.Ordering.{is_lt}
use Rattle.std.proofs.lemmas.Cmp.{nat_list_cmp_total}
use Rattle.std.proofs.lemmas.Fn.{always_returns_same}
use Rattle.std.proofs.lemmas.List.Sorted.{ranks_by}
use Rattle.hg_keys.proofs.SortLemmas.{by_name, stays_by_name}
use Rattle.hg_keys.proofs.bookmarks.in_name_order.Goals as goal

pub returns : goal.returns
returns g c =
    stays_by_name c.args.entries c.sort_by.new.self.items
    (subst (λ entries. IsStableBy by_name entries c.sort_by.new.self.items) c.into_vec-entries.ensures
    (c.sort_by.ensures.stable by_name (ranks_by nat_list_cmp_total (λ entry. entry.1))
    (always_returns_same _ (λ a r. is_lt r ≡ by_name a.0.now a.1.0.now) _ (λ a r q k. search rules))))
