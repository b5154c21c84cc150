use Rattle.std.proofs.Common.{◌∙◌, ap, ◌++◌, ◌∷◌, [], List, ℕ, sym, ◌+◌, Option}
use Rattle.std.specs.Prelude.{unwrap_or}
use Rattle.hg_wireproto.specs.Batch.{escaped}
use Rattle.hg_wireproto.proofs.Pieces.{rest_whole}
use Rattle.hg_wireproto.proofs.Escapes.{chunk_more, escape_none}
use Rattle.hg_wireproto.proofs.batch.push_escaped.Goals as goal

pub returns : goal.returns
returns g c =
    c.in_ok-extend_from_slice-2.ensures.items
    ∙ ap (λ (rest : List ℕ). c.loop-place.text.items ++ rest)
    (sym (escape_none c.loop-place.rest.now c.in_default.ensures))
    ∙ c.loop-place.invariant

pub loop-place-preserved : goal.loop-place-preserved
loop-place-preserved g c =
    let rest = c.loop-place.rest.now in
    let place = c.in-Some.place in
    let letter = c.push-in-Some.new.self.items in
    ap (λ (r : List ℕ). letter ++ escaped r) (rest_whole (place + 1) rest)
    ∙ chunk_more c.loop-place.text.items _ rest c.extend_from_slice.new.self.items c.push.new.self.items letter
    place c.in-Some.ensures c.loop-place.invariant c.in_ok-extend_from_slice.ensures.items
    c.in_ok-push.ensures.items
    (c.in_ok-push-2.ensures.items
    ∙ ap (λ (b : ℕ). c.push.new.self.items ++ b ∷ []) (c.unwrap_or.ensures
    ∙ ap (λ (o : Option ℕ). unwrap_or o 58) c.letter_of.ensures))
