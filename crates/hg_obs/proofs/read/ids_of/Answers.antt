use Rattle.std.proofs.Common.{sym, ap, ◌∙◌, map, Ok, List, ℕ}
use Rattle.hg_obs.specs.Reading.{nodes_at, node_of}
use Rattle.hg_obs.proofs.ReadingLemmas.{nodes_are}
use Rattle.hg_obs.proofs.read.ids_of.Goals as goal

pub returns : goal.returns
returns c =
    ap (λ (n : ℕ). nodes_at n c.args.bytes.now) (sym c.from.ensures)
    ∙ nodes_are c.from.result c.args.bytes.now c.in_ok-ids.ids.now c.in_ok-ids.rest.now
    c.in_ok-ids.ensures
    ∙ ap (λ (ids : List (List ℕ)). Ok (map node_of ids, c.in_ok-ids.rest.now)) (sym c.as_chunks.ensures.front)
