use Rattle.hg_commands.proofs.Statuses.{of_replay}
use Rattle.hg_commands.proofs.commands.replay.Goals as goal

pub returns-in-Ok : goal.returns-in-Ok
returns-in-Ok g c = of_replay c.args.publishing _ _ _ _ _ c.run_replay.ensures
