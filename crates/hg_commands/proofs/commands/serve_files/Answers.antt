use Rattle.hg_commands.proofs.Statuses.{of_serve}
use Rattle.hg_commands.proofs.commands.serve_files.Goals as goal

pub returns : goal.returns
returns g c = of_serve _ _ _ _ _ _ _ _ _ c.serve_on-status.ensures
