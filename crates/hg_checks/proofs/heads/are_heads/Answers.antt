use Rattle.std.proofs.Common.{rules, ◌≡◌, ◌≢◌, ◌↔◌, sym, ◌∙◌, true, false, arith, length, AllPairs, IsTrue}
use Rattle.std.proofs.lemmas.Result.{IfOk-weaker}
use Rattle.hg_log.specs.HeadCount.{head_ids}
use Rattle.hg_checks.specs.Checks.{are_same_ids}
use Rattle.hg_checks.proofs.HeadTests.{other_number, no_head, heads_or_twice}
use Rattle.hg_checks.proofs.heads.are_heads.Goals as goal
use Rattle.hg_checks.proofs.heads.are_heads.Goals.{then-ids-head_count-via-then-ids-head_count}
use Rattle.hg_checks.proofs.heads.are_heads.Goals.{then-ids-head_count-via-else-ids-head_count+then-not-are_of_heads}

pub returns-then-ids-head_count : goal.returns-then-ids-head_count
returns-then-ids-head_count g c =
    let rows = c.args.log.now.rows in
    elim c.then-ids-head_count.branch [
      | then-ids-head_count-via-then-ids-head_count w ↦
          let other : length c.args.ids.now ≢ c.head_count.result = search rules in
          other_number rows c.head_count.ensures.lawful c.args.ids.now
          (λ as_many. other (as_many ∙ sym c.head_count.ensures.count))
      | then-ids-head_count-via-else-ids-head_count+then-not-are_of_heads w ↦
          let some : w.are_of_heads.result ≡ false = search rules in
          no_head rows c.head_count.ensures.lawful c.args.ids.now (sym w.are_of_heads.ensures ∙ some)
    ]

pub returns : goal.returns
returns g c =
    let rows = c.args.log.now.rows in
    let ids = c.args.ids.now in
    let as_many : length ids ≡ c.head_count.result = first_of (search rules, omega arith) in
    let all : c.are_of_heads.result ≡ true = search rules in
    IfOk-weaker c.are_distinct.result (λ answer. IsTrue answer ↔ AllPairs (λ a b. a ≢ b) ids)
    (λ answer. answer ≡ are_same_ids ids (head_ids rows))
    (heads_or_twice rows c.head_count.ensures.lawful ids (as_many ∙ c.head_count.ensures.count)
    (sym c.are_of_heads.ensures ∙ all)) c.are_distinct.ensures
