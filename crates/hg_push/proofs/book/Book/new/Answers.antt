use Rattle.std.proofs.Common.{List, map, refl, ap}
use Rattle.hg_types.specs.declared.limits.Settings.{Settings}
use Rattle.hg_parts.specs.declared.refusal.Refusal.{Refusal}
use Rattle.hg_repo.specs.declared.done.Done.{Done}
use Rattle.hg_push.specs.declared.row.Row.{Row}
use Rattle.hg_push.specs.Run.{run_push}
use Rattle.hg_push.proofs.Beginning.{holds_none}
use Rattle.hg_push.proofs.book.Book.new.Goals as goal

pub returns-clause-holds : goal.returns-clause-holds
returns-clause-holds g c = holds_none run_push c.args.repo _ refl c.new.ensures.items refl

pub returns-clause-follows : goal.returns-clause-follows
returns-clause-follows g c = record {
  holds = holds_none run_push c.args.repo _ refl c.new.ensures.items refl;
  first_push = ap (λ (s : Settings). s.first_push) c.settings.ensures;
  next = ap (λ (s : Settings). s.first_push) c.settings.ensures;
  limit = ap (λ (s : Settings). s.limits.rows) c.settings-2.ensures;
  waiting = ap (λ (rows : List (Row (Done g.row.A.Denot) (Refusal g.row.A.Denot) g.row.A.Denot)).
      map (λ row. row.push) rows) c.new-2.ensures.items;
}
