use Rattle.hg_store.proofs.OneReading.{end_or_torn, end_or_damage, record_or_none}
use Rattle.hg_store.proofs.laws.one_gate.Goals as goal

pub returns-clause-torn : goal.returns-clause-torn
returns-clause-torn c = end_or_torn

pub returns-clause-damaged : goal.returns-clause-damaged
returns-clause-damaged c = end_or_damage

pub returns-clause-record : goal.returns-clause-record
returns-clause-record c = record_or_none
