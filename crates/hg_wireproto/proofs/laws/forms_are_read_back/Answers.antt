use Rattle.hg_wireproto.proofs.FormLaws.{forms_back}
use Rattle.hg_wireproto.proofs.laws.forms_are_read_back.Goals as goal

pub returns : goal.returns
returns g c = λ text fields form. forms_back text fields form
