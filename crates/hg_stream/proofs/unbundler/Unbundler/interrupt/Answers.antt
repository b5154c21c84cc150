use Rattle.std.proofs.Common.{[], ◌++◌, refl, sym}
use Rattle.std.proofs.lemmas.List.{append-nil}
use Rattle.hg_chunks.specs.Payload.{interruption}
use Rattle.hg_stream.proofs.unbundler.Unbundler.interrupt.Goals as goal

pub returns-in-Part-clause-ok : goal.returns-in-Part-clause-ok
returns-in-Part-clause-ok g c front parts whole inside goes_on left =
    let in_payload = rw c.in-Part.is at inside in
    let takes = rw c.in-Part.is at goes_on in
    record {
      left = left;
      place = record {
        front = front ++ interruption;
        rest = [];
        before = record {
          whole = whole;
          interrupted = record { front = front; inside = in_payload; spelled = refl };
          goes_on = takes;
        };
        waits = record { holds = c.restart.ensures.empty; most_is = c.restart.ensures.most };
        spelled = sym (append-nil _);
      };
    }
