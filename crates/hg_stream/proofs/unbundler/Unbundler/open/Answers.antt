use Rattle.std.proofs.Common.{List, ℕ, [], ◌++◌, sym, ap, ◌∙◌}
use Rattle.std.proofs.lemmas.List.{append-nil}
use Rattle.hg_stream.specs.Block.{sized}
use Rattle.hg_stream.specs.code.Told.{ReadsHeaderAt}
use Rattle.hg_stream.proofs.Levels.{opens_at}
use Rattle.hg_stream.proofs.unbundler.Unbundler.open.Goals as goal

pub returns-clause-ok : goal.returns-clause-ok
returns-clause-ok g c front parts before fits left =
    let block = c.args.self.now.block.block.items in
    let read : ReadsHeaderAt c.args.level block c.args.self.now.head c.read_head_at.new.head =
    rw c.as_slice.ensures.value at c.in_ok-read_head_at.ensures.ok in
    record {
      left = left;
      place = record {
        front = front ++ (sized block ++ []);
        rest = [];
        whole = [];
        inside = opens_at c.args.level c.args.self.now.limits c.args.self.now.head c.read_head_at.new.head
            c.args.self.now.payloads c.begin.new.self front parts block c.begin.ensures.other before fits
            read;
        goes_on = record {
          holds = c.begin.ensures.begins.holds;
          limit = c.begin.ensures.begins.limit_is;
          reading = c.begin.ensures.begins.reading;
        };
        spelled = ap (λ (x : List ℕ). front ++ x) (sym (append-nil (sized block))) ∙ sym (append-nil _);
      };
    }
