use Rattle.std.proofs.Common.{◌∙◌, sym, inr, arith}
use Rattle.hg_phases.proofs.EntryLemmas.{entries_short, entries_whole, found_where, given_where}
use Rattle.hg_phases.proofs.entries.read_entries.Goals as goal

pub returns-then-not-is_empty-clause-exact : goal.returns-then-not-is_empty-clause-exact
returns-then-not-is_empty-clause-exact g c =
    inr (entries_short c.args.bytes.now c.as_chunks.result.1.now c.as_chunks.ensures.back_len
    (sym c.is_empty.ensures ∙ c.if-not-is_empty.true))

pub returns-clause-found : goal.returns-clause-found
returns-clause-found g c =
    found_where c.args.bytes.now c.read_each.result (λ i. omega (arith, c.type_inv.bytes i))
    (given_where c.args.bytes.now c.as_chunks.result.0.now c.read_each.result
    (entries_whole c.args.bytes.now c.as_chunks.result.0.now c.as_chunks.result.1.now
    c.as_chunks.ensures.front c.as_chunks.ensures.back_len (sym c.is_empty.ensures
    ∙ c.if-not-is_empty.false)) c.read_each.ensures)

pub returns-clause-exact : goal.returns-clause-exact
returns-clause-exact g c =
    given_where c.args.bytes.now c.as_chunks.result.0.now c.read_each.result
    (entries_whole c.args.bytes.now c.as_chunks.result.0.now c.as_chunks.result.1.now
    c.as_chunks.ensures.front c.as_chunks.ensures.back_len (sym c.is_empty.ensures
    ∙ c.if-not-is_empty.false)) c.read_each.ensures
