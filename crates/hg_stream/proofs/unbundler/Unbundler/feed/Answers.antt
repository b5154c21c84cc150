use Rattle.hg_stream.proofs.Telling.{goes_on, stage_ended, stage_failed}
use Rattle.hg_stream.proofs.Feeding.{fed_ok, fed_err}
use Rattle.hg_stream.proofs.unbundler.Unbundler.feed.Goals as goal

pub returns-in_default : goal.returns-in_default
returns-in_default g c =
    let going = goes_on c.args.self.now.stage c.in_default.not-Ended c.in_default.not-Failed in
    record {
      count = c.feed_on.ensures.count;
      all = c.feed_on.ensures.all;
      ok = fed_ok c.feed_on.result c.args.self.now c.feed_on.new.self c.args.piece.now going
          c.feed_on.ensures.ok;
      err = fed_err c.feed_on.result c.args.self.now c.feed_on.new.self c.args.piece.now going
          c.feed_on.ensures.err;
      failed = c.feed_on.ensures.failed;
      goes_on = c.feed_on.ensures.goes_on;
      not_truncated = c.feed_on.ensures.not_truncated;
      still_failed = λ fault e.
          absurd (c.in_default.not-Failed fault (stage_failed c.args.self.now.stage fault e));
      still_ended = λ e. absurd (c.in_default.not-Ended (stage_ended c.args.self.now.stage e));
      limits = c.feed_on.ensures.limits;
    }
