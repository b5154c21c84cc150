use Rattle.hg_commands.proofs.Statuses.{of_one}
use Rattle.hg_commands.proofs.commands.one.Goals as goal

pub returns : goal.returns
returns g c = of_one c.args.publishing _ _ _ _ _ c.run_one.ensures
