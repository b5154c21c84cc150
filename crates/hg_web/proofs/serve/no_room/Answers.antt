use Rattle.std.proofs.Common.{ap, sym}
use Rattle.hg_params.specs.Header.{spelling}
use Rattle.hg_params.specs.Writing.{cased, header_bytes}
use Rattle.hg_web.specs.Serving.{no_room_text}
use Rattle.hg_web.proofs.serve.no_room.Goals as goal

pub returns-in-true : goal.returns-in-true
unfolding header_bytes spelling cased
returns-in-true c = ap no_room_text (sym c.in-true.is)

pub returns-in-false : goal.returns-in-false
unfolding header_bytes spelling cased
returns-in-false c = ap no_room_text (sym c.in-false.is)
