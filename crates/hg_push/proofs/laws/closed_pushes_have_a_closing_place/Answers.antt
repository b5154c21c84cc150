use Rattle.hg_push.proofs.Closings.{closed_at, closing_stays, one_closing}
use Rattle.hg_push.proofs.laws.closed_pushes_have_a_closing_place.Goals as goal

pub returns : goal.returns
returns g c = record {
  closed = closed_at;
  closes = closing_stays;
  alone = λ p late before late' before' x y one two same. one_closing p late before x late' before' y one two same;
}
