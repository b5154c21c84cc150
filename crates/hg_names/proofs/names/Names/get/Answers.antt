use Rattle.std.proofs.Common.{◌≡◌, ℕ, ◌<◌, List, length, Some, sym, ap, subst, ◌∙◌, arith}
use Rattle.std.specs.List.{slice_get}
use Rattle.hg_names.specs.declared.blocks.Block.{Block}
use Rattle.hg_names.specs.Names.{Held}
use Rattle.hg_names.specs.code.Blocks.{pairs_in, place_at, IsSpot}
use Rattle.hg_names.proofs.Own.{items, read_of}
use Rattle.std.proofs.Common.{refl}
use Rattle.std.proofs.lemmas.Option.{slice_get_read}
use Rattle.std.proofs.lemmas.List.Folds.{length-flat_map-take}
use Rattle.hg_names.proofs.names.Names.get.Goals as goal

pub returns-clause-found : goal.returns-clause-found
returns-clause-found g c =
    let blocks = c.self.inside.blocks.items in
    let spot = c.spot_at-spot.result in
    let block = c.index.result.now in
    let pair = c.index-pair.result.now in
    let same : IsSpot blocks spot = subst (λ (bs : List (Block g.row.A.Denot)). IsSpot bs spot)
    c.as_slice.ensures.value c.spot_at-spot.ensures.spot in
    let place : place_at blocks spot ≡ c.args.place = subst (λ (bs : List (Block g.row.A.Denot)).
    place_at bs spot ≡ c.args.place) c.as_slice.ensures.value c.spot_at-spot.ensures.place in
    let own = same.within block in
    let lt : spot.1 < length (items block) = rw c.index.ensures own in
    let fits = length-flat_map-take items blocks spot.0 block same.block in
    let read = read_of blocks spot.0 spot.1 block pair same.block c.index.ensures lt c.index-pair.ensures pair in
    ap (λ (h : Held). slice_get h.pairs c.args.place) (sym c.self.view_is)
    ∙ ap (slice_get (pairs_in blocks)) (sym place)
    ∙ slice_get_read (pairs_in blocks) (length (pairs_in blocks)) (place_at blocks spot) pair refl
    (omega (arith, fits, own)) read
    ∙ ap (λ (n : List ℕ). Some (n, pair.1)) (sym c.as_slice-2.ensures)
