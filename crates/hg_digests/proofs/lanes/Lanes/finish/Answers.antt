use Rattle.std.proofs.Common.{◌≡◌, length, ap, ◌∙◌}
use Rattle.std.proofs.lemmas.List.{length-map}
use Rattle.hg_digests.specs.declared.lanes.Lanes.{Lanes}
use Rattle.hg_digests.specs.Messages.{message_at}
use Rattle.hg_digests.specs.code.Hashing.{messages_at}
use Rattle.hg_digests.proofs.HashingLemmas.{all-right, hashing-turned, right-digests}
use Rattle.hg_digests.proofs.lanes.Lanes.finish.Goals as goal

pub run-requires-2-clause-hashing : goal.run-requires-2-clause-hashing
run-requires-2-clause-hashing c =
    let messages = messages_at c.args.bytes.now c.args.places.now in
    rw c.turned-lanes.ensures (hashing-turned messages c.run.new.digests c.run.result c.run.ensures.hashing)

pub run-requires-3-clause-hashing : goal.run-requires-3-clause-hashing
run-requires-3-clause-hashing c =
    let messages = messages_at c.args.bytes.now c.args.places.now in
    rw c.turned-lanes-2.ensures (hashing-turned messages c.run-2.new.digests c.run-2.result c.run-2.ensures.hashing)

pub run-done-requires-clause-hashing : goal.run-done-requires-clause-hashing
run-done-requires-clause-hashing c =
    let messages = messages_at c.args.bytes.now c.args.places.now in
    rw c.turned-lanes-3.ensures (hashing-turned messages c.run-3.new.digests c.run-3.result c.run-3.ensures.hashing)

pub returns : goal.returns
returns c =
    let bytes = c.args.bytes.now in
    let places = c.args.places.now in
    let one : c.turned-lanes.result.d.left ≡ 0 = ap (λ (l : Lanes). l.d.left) c.turned-lanes.ensures ∙ c.run.ensures.first in
    let two_c : c.turned-lanes-2.result.c.left ≡ 0 = ap (λ (l : Lanes). l.c.left) c.turned-lanes-2.ensures ∙ c.run-2.ensures.others.2 one in
    let two_d : c.turned-lanes-2.result.d.left ≡ 0 = ap (λ (l : Lanes). l.d.left) c.turned-lanes-2.ensures ∙ c.run-2.ensures.first in
    let three_b : c.turned-lanes-3.result.b.left ≡ 0 = ap (λ (l : Lanes). l.b.left) c.turned-lanes-3.ensures ∙ c.run-3.ensures.others.1 two_c in
    let three_c : c.turned-lanes-3.result.c.left ≡ 0 = ap (λ (l : Lanes). l.c.left) c.turned-lanes-3.ensures ∙ c.run-3.ensures.others.2 two_d in
    let three_d : c.turned-lanes-3.result.d.left ≡ 0 = ap (λ (l : Lanes). l.d.left) c.turned-lanes-3.ensures ∙ c.run-3.ensures.first in
    let begun : c.run-done.result.begun ≡ length places =
    c.run-done.ensures.begun ∙ ap (λ (l : Lanes). l.begun) c.turned-lanes-3.ensures
    ∙ c.run-3.ensures.begun ∙ ap (λ (l : Lanes). l.begun) c.turned-lanes-2.ensures
    ∙ c.run-2.ensures.begun ∙ ap (λ (l : Lanes). l.begun) c.turned-lanes.ensures
    ∙ c.run.ensures.begun ∙ c.soonest_first.ensures.begun ∙ c.requires.all in
    let right = all-right (messages_at bytes places) c.run-done.new.digests c.run-done.result c.run-done.ensures.hashing c.run-done.ensures.first
    (c.run-done.ensures.others.0 three_b) (c.run-done.ensures.others.1 three_c) (c.run-done.ensures.others.2 three_d) in
    let room : length c.run-done.new.digests ≡ length places = c.run-done.ensures.hashing.room ∙ length-map places (message_at bytes) in
    right-digests bytes places c.run-done.new.digests room (λ i below. right i (rw begun below))
