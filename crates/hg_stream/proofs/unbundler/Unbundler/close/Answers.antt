use Rattle.std.proofs.Common.{[], ◌++◌, refl, sym}
use Rattle.std.proofs.lemmas.List.{append-nil}
use Rattle.hg_chunks.specs.Payload.{closing}
use Rattle.hg_stream.proofs.Chunks.{ends_inner}
use Rattle.hg_stream.proofs.Steps.{finishes_none}
use Rattle.hg_stream.proofs.unbundler.Unbundler.close.Goals as goal

pub returns-in-Interrupting-clause-ok : goal.returns-in-Interrupting-clause-ok
returns-in-Interrupting-clause-ok g c front parts inside left =
    let aside = rw c.in-Interrupting.is at inside in (
      [],
      finishes_none _ _ _ parts refl (record {
        left = left;
        place = record {
          front = front ++ closing;
          rest = [];
          whole = aside.whole;
          inside = ends_inner c.args.self.now.limits front parts c.args.self.now.head aside.whole
              c.args.payload aside.inside;
          goes_on = aside.goes_on;
          spelled = sym (append-nil _);
        };
      }),
    )
