use Rattle.hg_sizes.proofs.Reading.{behind_header, is_short, reads_back, reads_past, reads_short, reads_whole}
use Rattle.hg_sizes.proofs.delta.read_hunk.Goals as goal

pub returns-then-bytes-lt-HEADER-clause-read : goal.returns-then-bytes-lt-HEADER-clause-read
returns-then-bytes-lt-HEADER-clause-read c =
    is_short c.args.size c.args.before c.args.bytes.now c.if-bytes-lt-HEADER.true

pub returns-then-start-before-clause-read : goal.returns-then-start-before-clause-read
returns-then-start-before-clause-read c =
    reads_back c.args.size c.args.before c.args.bytes.now _ _ _ c.number_at-start.ensures c.number_at-end.ensures
    c.number_at-wanted.ensures c.if-bytes-lt-HEADER.false c.then-start-before.either

pub returns-then-size-end-clause-read : goal.returns-then-size-end-clause-read
returns-then-size-end-clause-read c =
    reads_past c.args.size c.args.before c.args.bytes.now _ _ _ c.number_at-start.ensures c.number_at-end.ensures
    c.number_at-wanted.ensures c.if-bytes-lt-HEADER.false c.if-start-before.false c.if-end-start.false c.if-size-end.true

pub returns-then-rest-wanted-clause-read : goal.returns-then-rest-wanted-clause-read
returns-then-rest-wanted-clause-read c =
    reads_short c.args.size c.args.before c.args.bytes.now _ _ _ c.number_at-start.ensures c.number_at-end.ensures
    c.number_at-wanted.ensures c.if-bytes-lt-HEADER.false _ (behind_header c.args.bytes.now) c.if-start-before.false
    c.if-end-start.false c.if-size-end.false c.if-rest-wanted.true

pub returns-clause-read : goal.returns-clause-read
returns-clause-read c =
    reads_whole c.args.size c.args.before c.args.bytes.now _ _ _ c.number_at-start.ensures c.number_at-end.ensures
    c.number_at-wanted.ensures c.if-bytes-lt-HEADER.false _ _ _ (behind_header c.args.bytes.now) c.if-start-before.false
    c.if-end-start.false c.if-size-end.false c.if-rest-wanted.false c.split_at.ensures.front c.split_at.ensures.back
