use Rattle.std.proofs.Common.{◌∙◌, ◌++◌, [], ap, sym, subst}
use Rattle.std.proofs.lemmas.List.Elements.{All-get_or}
use Rattle.hg_store_tools.specs.code.Canonical.{WasRead}
use Rattle.std.proofs.lemmas.List.{append-nil}
use Rattle.hg_stream.specs.Block.{sized}
use Rattle.hg_stream.specs.Frames.{magic}
use Rattle.hg_store_tools.proofs.Plain.{dropped_part, kept_part, one_part}
use Rattle.hg_store_tools.proofs.canonical.write_canonical.Goals as goal
use Rattle.hg_store_tools.proofs.canonical.write_canonical.Goals.{in-Some+in_ok-write_part-in-Some, in-None}

pub write_part-requires : goal.write_part-requires
write_part-requires g c =
    subst (λ part. WasRead part) (sym c.part-item.is)
    (All-get_or WasRead c.args.parts.now c.loop-part.part-index c.part-item.result c.loop-part-test.true c.requires)

pub loop-part-preserved : goal.loop-part-preserved
loop-part-preserved g c =
    let before = c.loop-part.invariant in
    let within = c.loop-part-test.true in
    elim c.match-kept_names.branch [
      | in-Some+in_ok-write_part-in-Some w ↦
          one_part c.loop-part.out.items c.match-kept_names.out.items (magic ++ sized []) c.args.parts.now
          c.loop-part.part-index c.part-item.result _ before within c.part-item.is
          (kept_part c.part-item.result _ w.in-Some.ensures.some)
          (ap (λ v. v.items) w.out-is ∙ w.in_ok-write_part-in-Some.ensures)
      | in-None w ↦
          one_part c.loop-part.out.items c.match-kept_names.out.items (magic ++ sized []) c.args.parts.now
          c.loop-part.part-index c.part-item.result [] before within c.part-item.is
          (dropped_part c.part-item.result w.in-None.ensures.none)
          (ap (λ v. v.items) w.out-is ∙ sym (append-nil c.loop-part.out.items))
    ]
