use Rattle.std.proofs.Common.{◌≡◌, ◌∙◌, List, ap, drop, length, refl, subst, sym, take, ℕ}
use Rattle.hg_store.specs.Log.{at_rest}
use Rattle.hg_store_tools.specs.Cutting.{CutSoFar, HasPlace, IsRestKept, joined, placed, unplaced}
use Rattle.hg_store_tools.proofs.cut.put_cut.Goals as goal

pub returns-in-Ok-keep_rest-clause-cut : goal.returns-in-Ok-keep_rest-clause-cut
returns-in-Ok-keep_rest-clause-cut g c =
    let cut = c.in-Ok.ensures.ok in
    let head = cut.2 in
    let records = cut.3 in
    let at = c.args.at in
    let rest = c.in-Ok.rest in
    let whole = c.place.ensures.whole head at records cut.6 in
    let count : c.files.inside.count ≡ length records =
    ap (λ (f : CutSoFar). f.count) c.files.view_is ∙ cut.6.count_is in (
      cut.0,
      cut.1,
      placed c.files.inside.count (joined (drop at records)) (at_rest head (take at records)) rest.tail.items
          (record {
            head = head;
            records = records;
            stop = rest.stop;
            front = cut.4;
            whole_is = count;
            place = subst (λ (n : ℕ). HasPlace at n rest.stop rest.tail.items) (sym count) cut.5;
            kept_is = refl;
            left_is = refl;
          })
          (subst (λ (l : List ℕ). IsRestKept c.files.inside.count l (g.T.TailKeeper.done c.args.keeper.now)
          (g.T.TailKeeper.done c.keep_rest.new.keeper)) c.deref.ensures.value c.in-Ok-keep_rest.ensures.kept)
          whole.0 whole.1 (c.place.ensures.kept_first cut.6.left.filled.unplaced),
    )

pub returns-clause-cut : goal.returns-clause-cut
returns-clause-cut g c =
    let cut = c.in-Ok.ensures.ok in (
      cut.0,
      cut.1,
      unplaced (cut.6.kept.unplaced, cut.6.left.filled.unplaced) c.in-Err-keep_rest.ensures.err,
    )

pub returns-clause-err : goal.returns-clause-err
returns-clause-err g c =
    let cut = c.in-Ok.ensures.ok in (
      (cut.6.kept.unplaced, cut.6.left.filled.unplaced),
      cut.0,
      cut.1,
      record {
        head = cut.2;
        records = cut.3;
        stop = c.in-Ok.rest.stop;
        tail = c.in-Ok.rest.tail.items;
        front = cut.4;
        whole_is = ap (λ (f : CutSoFar). f.count) c.files.view_is ∙ cut.6.count_is;
      },
    )
