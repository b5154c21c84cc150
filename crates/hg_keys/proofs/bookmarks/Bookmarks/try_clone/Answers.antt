use Rattle.hg_keys.proofs.bookmarks.Bookmarks.try_clone.Goals as goal

pub invariant_of-result : goal.invariant_of-result
invariant_of-result g c = record {
  back = λ saved. cc;
  room = λ saved. cc;
}
