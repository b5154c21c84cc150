use Rattle.std.proofs.Common.{◌≡◌, arith, length, refl, rules}
use Rattle.hg_wireproto.proofs.NumberSets.{number_added}
use Rattle.hg_wireproto.proofs.set.NumberSet.add.Goals as goal

pub returns : goal.returns
returns c =
    let long : length c.args.self.now.words ≡ 8 = search rules in
    number_added c.args.self.now.words _ c.args.number (omega (arith, long, c.requires)) refl
