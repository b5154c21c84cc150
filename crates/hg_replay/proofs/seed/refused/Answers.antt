use Rattle.hg_replay.proofs.seed.refused.Goals as goal

pub returns-in-NoMemory : goal.returns-in-NoMemory
returns-in-NoMemory g c = c.in-NoMemory.is

pub returns-in_default : goal.returns-in_default
returns-in_default g c = c.in_default.not-NoMemory
