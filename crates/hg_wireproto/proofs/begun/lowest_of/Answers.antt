use Rattle.std.proofs.Common.{◌∙◌, ℕ, List, ap, ◌++◌, length, replicate, drop}
use Rattle.std.proofs.lemmas.List.{drop-replicate}
use Rattle.hg_keys.specs.PushKey.{node_in_hex}
use Rattle.hg_wireproto.proofs.begun.lowest_of.Goals as goal

pub returns : goal.returns
returns c =
    let key = c.args.key.now in
    let zeros : List ℕ = replicate 40 48 in
    c.node_in_hex.ensures
    ∙ ap node_in_hex (c.as_slice.ensures
    ∙ ap (λ (digits : List ℕ). digits ++ drop (length key) zeros) c.copy_from_slice.ensures.after
    ∙ ap (λ (rest : List ℕ). key ++ rest) (drop-replicate {X = ℕ} (length key) 40 48))
