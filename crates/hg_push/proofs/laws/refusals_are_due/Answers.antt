use Rattle.hg_push.proofs.Leaving.{refused_no_cut, refused_open, refused_right}
use Rattle.hg_push.proofs.laws.refusals_are_due.Goals as goal

pub returns : goal.returns
returns g c = record { was_open = refused_open; no_cut = refused_no_cut; right_index = refused_right }
