-- What an answer promises, and what a look at the repository promises.
use Rattle.std.specs.Prelude.{◌≡◌, ℕ, ◌≤◌, ◌<◌, List, length, Some}
use Rattle.std.specs.List.{range_with_len}
use mathlib.Core.List.{IsPrefix}
use Rattle.hg_parts.specs.declared.item.Item.{Item}
use Rattle.hg_parts.specs.declared.item.Taken.{Taken}
use Rattle.hg_repo.specs.declared.done.Done.{Done}
use Rattle.hg_parts.specs.declared.refusal.Refusal.{Refusal}
use Rattle.hg_queue.specs.History.{of, items_of}
use Rattle.hg_push.specs.declared.outcome.Outcome.{Outcome}
use Rattle.hg_push.specs.declared.outcome.Outcome.TheVariants.{Done as done_with, Aborted}
use Rattle.hg_push.specs.declared.outcome.Reason.TheVariants.{NoMemory}
use Rattle.hg_push.specs.Complete.{IsComplete}
use Rattle.hg_push.specs.History.{IsHistory, parts}
use Rattle.hg_push.specs.Reply.{CanBeTold}
use Rattle.hg_push.specs.Run.{RepositoryOf}
use Rattle.hg_push.specs.World.{all_parts}
use Rattle.hg_serve.specs.Histories.{newest_first, ending, serial_run, ClosesLast}

-- A push that put these items was answered so, at a history which goes on from the one that its client had
-- seen.
pub record Answers {A : Type 0} (capacity : ℕ) (first : RepositoryOf A) (push : ℕ) (put : List (Item A))
    (before : List (Taken A))
    (how : Outcome (Done A) (Refusal A)) (takes : ℕ) (after : List (Taken A)) : Type 0 where
  -- what its client had seen begins the history, refusals included
  pub earlier : IsPrefix before after
  -- of the push, what was taken is a front of what it put, and all of it where memory was not refused for it
  pub taken : IsPrefix (of push (items_of after)) put
  pub all : (how ≡ Aborted NoMemory → ⊥) → of push (items_of after) ≡ put
  -- each refusal of memory is at a place where it can be, and the push ended so
  pub legal : IsHistory (newest_first after)
  pub ended : ending first push after ≡ Some how
  -- a done push was run on all parts that it put, in their order, and its end mark is the last item that it
  -- put; it handled each part once
  pub complete : (done : Done A) → how ≡ done_with done → IsComplete put (parts push (newest_first after))
  pub handled : (done : Done A) → how ≡ done_with done →
      done.handled ≡ range_with_len 0 (length (all_parts put))
  -- the reply can be written
  pub told : CanBeTold how
  -- no more was taken for it than the queue holds, and nothing past the place that closed it
  pub bound : takes ≤ capacity
  pub last : 0 < takes → ClosesLast first push after

-- A client that had seen one history has seen another one now, which goes on from it, and heard of this
-- repository: the one that the done pushes of that history give, run one by one.
pub record Looks {A : Type 0} (first : RepositoryOf A) (before after : List (Taken A))
    (repo : RepositoryOf A) : Type 0 where
  pub earlier : IsPrefix before after
  pub legal : IsHistory (newest_first after)
  pub ran : (serial_run first after).repo ≡ repo
