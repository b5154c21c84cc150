use Rattle.std.proofs.Common.{◌≡◌, ◌↔◌, ◌<◌, ap, arith, get_or, length, refl, sym, true, false}
use Rattle.std.proofs.lemmas.List.{get_or_default, length_push}
use Rattle.hg_wireproto.specs.Hidden.{IsHidden}
use Rattle.hg_wireproto.proofs.Hiding.{each_more, hidden_here}
use Rattle.hg_wireproto.proofs.hidden.hidden_with.Goals as goal

pub loop-rev-preserved : goal.loop-rev-preserved
loop-rev-preserved g c =
    let rows = c.args.copied.now.rows in
    let markers = c.args.copied.now.markers in
    let phases = c.args.copied.now.phases in
    let hidden = c.loop-rev.hidden.items in
    let own = c.args.kept.now in
    let behind = c.args.behind.now in
    let rev = c.loop-rev.rev in
    let held = c.loop-rev.invariant in
    let pushed = c.in_ok-push.ensures.items in
    let within : rev < length rows = omega (arith, c.loop-rev-test.true) in (
      omega (arith, ap length pushed, length_push hidden c.is_hidden.result, held.0),
      omega (arith, within),
      each_more (λ r b. (b ≡ true) ↔ IsHidden rows markers phases r) hidden _ c.is_hidden.result false rev held.0
          pushed held.2
          (hidden_here rows markers phases own own behind
          c.requires.kept c.requires.len refl c.requires.behind
          rev (get_or own rev 0) (get_or behind rev 0) c.is_hidden.result within
          (sym (get_or_default own rev (get_or own rev 0) 0 (omega (arith, within, c.requires.len))))
          (sym (get_or_default behind rev (get_or behind rev 0) 0 (omega (arith, within, c.requires.behind.as_long))))
          c.is_hidden.ensures),
    )
