use Rattle.std.proofs.Common.{subst}
use Rattle.std.specs.Io.BufRead.{FillKeeps}
use Rattle.std.specs.Io.KnownBytes.{Consumes}
use Rattle.std.proofs.BufReadLemmas.{Consumes_shown}
use Rattle.hg_web.specs.code.Following.{GoesOn}
use Rattle.hg_web.proofs.Pieces.{found_on, found_within}
use Rattle.hg_web.proofs.serve.read_on.Goals as goal

pub returns-clause-ok : goal.returns-clause-ok
returns-clause-ok g c =
    let shown = c.in_ok-bytes.bytes.now in
    let count = c.follow-found.result.1 in
    let rested = c.fill_buf.follows.lender-at-none in
    let filled = subst (FillKeeps _ (g.I.Read.remaining rested) (g.I.BufRead.consumable_len rested))
    c.in_ok-bytes.was c.fill_buf.follows.holds-at-none in
    let moved = Consumes_shown _ _ _ _ shown count (found_within _ _ _ _ _ c.follow-found.ensures.1)
    c.in_ok-bytes.ensures.front c.in_ok-bytes.ensures.end filled.0 filled.1 c.consume.ensures.bytes in
    let given = c.pass_on-is_held.ensures.given in
    record {
      given = given.0;
      dropped = given.1;
      read = subst (λ bytes. Consumes (g.I.Read.remaining c.args.reader.now) (g.I.Read.remaining c.consume.new.self) bytes)
          given.2 moved.0;
      has_read = given.3;
      all = given.4;
      limits = c.follow-found.ensures.0;
      follows = subst (λ bytes. GoesOn c.is_end.result c.args.follower.now c.follow-found.new.self bytes) given.2
          (found_on _ _ _ shown count _ c.is_end.ensures.yes c.is_end.ensures.no c.follow-found.ensures.1);
    }
