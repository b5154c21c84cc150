use Rattle.std.proofs.Common.{lit<, ap, ◌∙◌, arith}
use Rattle.sha1.specs.Sha1.{compress}
use Rattle.hg_digests.specs.code.Hashing.{messages_at}
use Rattle.hg_digests.proofs.HashingLemmas.{hashing-stepped}
use Rattle.hg_digests.proofs.lanes.Lanes.step.Goals as goal

pub returns-clause-hashing : goal.returns-clause-hashing
returns-clause-hashing c =
    let messages = messages_at c.args.bytes.now c.args.places.now in
    let held = c.requires.hashing in
    hashing-stepped messages c.args.digests.now c.advance.new.digests c.advance-2.new.digests c.advance-3.new.digests c.advance-4.new.digests
    c.args.self c.advance.result c.advance-2.result c.advance-3.result c.advance-4.result held
    (c.advance.ensures.advances messages held.a (λ busy. c.compress.ensures 0 (lit< tt) ∙ ap (compress c.args.self.a.hash) (c.next_block.ensures busy)))
    (c.advance-2.ensures.advances messages held.b (λ busy. c.compress.ensures 1 (lit< tt) ∙ ap (compress c.args.self.b.hash) (c.next_block-2.ensures busy)))
    (c.advance-3.ensures.advances messages held.c (λ busy. c.compress.ensures 2 (lit< tt) ∙ ap (compress c.args.self.c.hash) (c.next_block-3.ensures busy)))
    (c.advance-4.ensures.advances messages held.d (λ busy. c.compress.ensures 3 (lit< tt) ∙ ap (compress c.args.self.d.hash) (c.next_block-4.ensures busy)))
    (omega arith)
