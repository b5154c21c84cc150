use Rattle.std.proofs.Common.{arith}
use Rattle.hg_theorems.proofs.Seen.{among}
use Rattle.hg_theorems.proofs.recovery.what_a_client_saw_done_is_recovered.Goals as goal

pub returns : goal.returns
returns g c = λ publishing head stored first client witness whole count device promise p place begun mine theirs kept at
    low file left.
    let opened = c.fronts_are_recovered.ensures publishing head stored first witness promise.count file begun
    (kept.left file left) in
    let j = c.journals_grow.ensures in (
      opened,
      among j.journal j.parts j.places c.done_pushes_have_a_place.ensures.no_other
          c.closed_pushes_have_ended.ensures first client witness whole _ p place mine theirs opened.after.done
          (omega (arith, low, opened.enough)) at,
    )
