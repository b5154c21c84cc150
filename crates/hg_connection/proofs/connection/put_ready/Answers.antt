use Rattle.std.proofs.Common.{List, ◌++◌, ◌∷◌, [], ◌∙◌, ap, refl, sym, arith, append_assoc}
use Rattle.hg_types.specs.declared.part.Part.{Part}
use Rattle.hg_stream.specs.Unbundler.{ready_of}
use Rattle.hg_connection.proofs.Putting.{has_room, holds_more, holds_none, puts_more, puts_none}
use Rattle.hg_connection.proofs.connection.put_ready.Goals as goal

pub parts-init : goal.parts-init
parts-init g c = record {
  taken = [];
  spelled = refl;
  put = puts_none c.args.sender.now;
  holds = λ given bytes holds. holds_none c.args.bundle.now given bytes holds;
  state = refl;
  limits = refl;
}

pub unreachable-requires : goal.unreachable-requires
unreachable-requires g c =
    let i = c.parts.invariant in
    let e = c.in-Some.ensures in
    let room = has_room c.args.sender.now c.parts.sender (ready_of c.args.bundle.now) i.taken
    (ready_of c.next_part.new.self) c.in-Some.part i.put
    (i.spelled ∙ ap (λ (l : List (Part g.row.A.Denot)). i.taken ++ l) e.part) c.requires in
    let full = c.in-Err.ensures.2 in
    omega (arith, room, full)

pub parts-preserved : goal.parts-preserved
parts-preserved g c =
    let i = c.parts.invariant in
    let e = c.in-Some.ensures in
    record {
      taken = i.taken ++ c.in-Some.part ∷ [];
      spelled = i.spelled ∙ ap (λ (l : List (Part g.row.A.Denot)). i.taken ++ l) e.part
          ∙ sym (append_assoc i.taken (c.in-Some.part ∷ []) (ready_of c.next_part.new.self));
      put = puts_more c.args.sender.now c.parts.sender c.put.new.sender i.taken c.in-Some.part i.put
          (rw c.read_ahead.ensures at c.in-Ok.ensures);
      holds = λ given bytes begun. holds_more c.next_part.new.self given i.taken (c.in-Some.part ∷ []) bytes
          (e.holds (given ++ i.taken) bytes (i.holds given bytes begun));
      state = e.state ∙ i.state;
      limits = e.limits ∙ i.limits;
    }
