use Rattle.std.specs.Cmp.{both_ways}
use Rattle.hg_log.specs.Parents.{is_ancestor}
use Rattle.hg_log.specs.code.Inside.{rows_of}
use Rattle.hg_log.proofs.Wholes.{ancestor_by_number, ancestor_by_id}
use Rattle.hg_log.proofs.ParentLemmas.{ancestor_test}
use Rattle.hg_log.proofs.changelog.Changelog.is_ancestor.Goals as goal

pub returns : goal.returns
returns g c =
    let rows = rows_of c.self.inside.rows.entries in
    let graph = c.self.inside.graph in
    let whole = c.self.invariant in
    let there = ancestor_by_id rows graph c.self.inside.limits whole c.args.ancestor c.args.rev in
    let here = ancestor_by_number rows graph c.self.inside.limits whole c.args.ancestor c.args.rev in
    let test = ancestor_test rows whole.lawful c.args.ancestor c.args.rev in
    rw (← c.self.view_is) (record {
      answer = ((λ is. there (c.in_ok-answer.ensures.0 is)), (λ is. c.in_ok-answer.ensures.1 (here is)));
      value = both_ways c.in_ok-answer.answer (is_ancestor rows c.args.ancestor c.args.rev)
          (λ is. test.1 (there (c.in_ok-answer.ensures.0 is)))
          (λ is. c.in_ok-answer.ensures.1 (here (test.0 is)));
    })
