use Rattle.hg_store_tools.proofs.Marked.{listed_so, logged_so, shelved_so}
use Rattle.hg_store_tools.proofs.laws.a_log_from_a_mark.Goals as goal

pub returns-clause-logged : goal.returns-clause-logged
returns-clause-logged g c form file head mark rest from ending before after has within =
    logged_so file head mark rest has from ending within form g.row.A.Denot before after

pub returns-clause-shelved : goal.returns-clause-shelved
returns-clause-shelved g c form file head mark rest from ending before after has within =
    shelved_so file head mark rest has from ending within form g.row.A.Denot before after

pub returns-clause-listed : goal.returns-clause-listed
returns-clause-listed g c file head mark rest from ending before after has within =
    listed_so file head mark rest has from ending within g.row.A.Denot before after
