use Rattle.std.proofs.Common.{ℕ, List, ◌++◌, take, slice_set, ap, ◌∙◌, arith}
use Rattle.hg_digests.specs.code.Blocks.{bits_of}
use Rattle.hg_digests.proofs.BlockLemmas.{closed-full, closed-marked, closed-whole}
use Rattle.hg_digests.proofs.block.closed.Goals as goal

pub returns-then-used-eq-BLOCK : goal.returns-then-used-eq-BLOCK
returns-then-used-eq-BLOCK c = λ content e size. e ∙ closed-full content c.args.used c.args.size size (omega arith)

pub returns-then-used-lt-LENGTH : goal.returns-then-used-lt-LENGTH
returns-then-used-lt-LENGTH c = λ content e size.
    c.with_length.ensures ∙ ap (λ (b : List ℕ). take 56 (slice_set b c.args.used 0x80) ++ bits_of c.args.size) e
    ∙ closed-whole content c.args.used c.args.size size (c.requires.ends (omega arith)) (omega arith)

pub returns : goal.returns
returns c = λ content e size.
    ap (λ (b : List ℕ). slice_set b c.args.used 0x80) e ∙ closed-marked content c.args.used c.args.size size (c.requires.ends (omega arith)) (omega arith)
