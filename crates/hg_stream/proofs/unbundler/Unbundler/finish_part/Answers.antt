use Rattle.std.proofs.Common.{◌≡◌, ◌+◌, ◌∷◌, [], ◌++◌, length, arith, rules, sym, ◌∙◌, ap}
use Rattle.std.proofs.lemmas.List.{append-nil, length-append}
use Rattle.hg_chunks.specs.Payload.{closing}
use Rattle.hg_stream.specs.Frames.{part_of}
use Rattle.hg_stream.proofs.Steps.{room_is}
use Rattle.hg_stream.proofs.Chunks.{closes_part}
use Rattle.hg_stream.proofs.unbundler.Unbundler.finish_part.Goals as goal

pub returns-clause-ok : goal.returns-clause-ok
returns-clause-ok g c = λ front parts inside left.
    let pushed : c.push_back.new.self.items ≡ c.args.self.now.ready.items ++ c.make_part.result
    ∷ [] = search rules in
    let is : c.make_part.result ≡ part_of c.args.self.now.head c.args.payload = c.make_part.ensures
    ∙ ap (λ h. part_of h c.args.payload) c.replace-head.ensures.value in
    let now : c.saturating_sub-self.result + length (parts ++ part_of c.args.self.now.head c.args.payload
    ∷ []) ≡ c.args.self.now.limits.parts =
    omega (
      arith,
      length-append parts (part_of c.args.self.now.head c.args.payload ∷ []),
      c.saturating_sub-self.ensures,
      left,
      inside.few,
    ) in
    record {
      ready = pushed ∙ ap (λ p. c.args.self.now.ready.items ++ p ∷ []) is;
      at = record {
        left = now;
        place = record {
          front = front ++ closing;
          rest = [];
          before = closes_part _ front parts _ _ inside;
          waits = record {
            holds = c.restart.ensures.empty;
            most_is = c.restart.ensures.most
                ∙ c.header_room.ensures ∙ room_is c.saturating_sub-self.result c.args.self.now.limits _ now;
          };
          spelled = sym (append-nil _);
        };
      };
    }
