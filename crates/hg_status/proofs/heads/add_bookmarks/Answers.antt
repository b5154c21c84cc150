use Rattle.std.proofs.Common.{◌≡◌, ◌∙◌, ◌++◌, ℕ, List, ap, arith, drop, length, map, subst, sym, take}
use Rattle.std.proofs.lemmas.List.{length-map, take_at}
use Rattle.hg_types.specs.declared.node.Node.{Node}
use Rattle.hg_keys.specs.Bookmarks.{Pairs}
use Rattle.hg_status.specs.Heads.{AreOf}
use Rattle.hg_status.specs.code.Giving.{given}
use Rattle.hg_status.proofs.HeadsShown.{next_given, next_taken, no_more}
use Rattle.hg_status.proofs.heads.add_bookmarks.Goals as goal

pub loop-place-preserved : goal.loop-place-preserved
loop-place-preserved g c =
    let pairs = c.args.bookmarks.now.current in
    let i = c.loop-place._place in
    let held = c.loop-place.invariant in
    let pair : List ℕ × Node = (c.in-Some.name.now, c.in-Some.node) in
    let next = sym held.0 ∙ c.in-Some.ensures.some in
    let slice : c.as_mut_slice.result.now ≡ c.loop-place.heads.items = c.as_mut_slice.ensures.value in
    let new = c.give_bookmark.new.heads in
    let after = take c.loop-place.heads.len (new ++ drop (length new) c.loop-place.heads.items) in
    let written : after ≡ new = take_at new (drop (length new) c.loop-place.heads.items) c.loop-place.heads.len
    (ap length c.in_ok-give_bookmark.ensures ∙ length-map c.as_mut_slice.result.now (given pair)
    ∙ c.as_mut_slice.ensures.len) in (
      sym (next_taken i pairs c.next.new.self pair next).1,
      omega (arith, c.loop-place-test.true),
      λ rows phases revs are. next_given rows phases pairs c.next.new.self pair i revs c.loop-place.heads.items
          after (omega (arith, c.loop-place-test.true, c.requires)) next
          (written ∙ c.in_ok-give_bookmark.ensures ∙ ap (map (given pair)) slice) (held.2 rows phases revs are),
    )

pub returns-in_default : goal.returns-in_default
returns-in_default g c =
    let pairs = c.args.bookmarks.now.current in
    let held = c.loop-place.invariant in
    let same = no_more pairs c.loop-place._place c.args.len (sym held.0 ∙ c.in_default.ensures.none) held.1 in
    λ rows phases revs are. subst (λ (ps : Pairs). AreOf rows phases ps revs c.loop-place.heads.items) same
    (held.2 rows phases revs are)

pub returns : goal.returns
returns g c =
    let pairs = c.args.bookmarks.now.current in
    let held = c.loop-place.invariant in
    let all : c.loop-place._place ≡ c.args.len = omega (arith, held.1, c.loop-place-test.false) in
    λ rows phases revs are. subst (λ (n : ℕ). AreOf rows phases (take n pairs) revs c.loop-place.heads.items) all
    (held.2 rows phases revs are)
