use Rattle.std.proofs.Common.{◌≡◌, ◌≤◌, ◌+◌, length, vec_len, vec_capacity}
use Rattle.hg_parts.specs.Store.{repository_of, IsSound, IsGrown}
use Rattle.hg_repo.specs.Replies.{AreReplies}
use Rattle.hg_repo.proofs.PreparedRuns.{IsReachedBy}
use Rattle.hg_repo.proofs.run.run_prepared.Given as goal

-- the parts so far are handled, what they left is kept, and the others are left, with room for their places
abbrev pub invariant-loop-part : goal.invariant-loop-part
invariant-loop-part g l = record {
  count : l.place + length l.left ≡ length l.fn.prepared;
  room : vec_len l.handled + length l.left ≤ vec_capacity l.handled;
  sound : IsSound l.settings l.store;
  grown : IsGrown l.fn.store l.store;
  replies : AreReplies l.place l.replies;
  reached : IsReachedBy l.source (repository_of l.settings l.fn.store) l.fn.prepared l.left l.place
      (record {
        repo = repository_of l.settings l.store;
        replying = l.replying;
        replies = l.replies;
        handled = l.handled.items;
      });
}

abbrev pub decreases-loop-part : goal.decreases-loop-part
decreases-loop-part g l = length l.left
