use Rattle.std.proofs.lemmas.List.{take_rest}
use Rattle.hg_types.proofs.payload.rest_at.Goals as goal

pub returns : goal.returns
returns c = take_rest c.args.bytes.now c.args.at
