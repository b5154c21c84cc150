use Rattle.std.proofs.Common.{◌∙◌, ◌++◌, ap, sym, List, ℕ}
use Rattle.std.specs.List.{flat_map}
use Rattle.std.proofs.lemmas.List.{append-nil, append_assoc}
use Rattle.std.proofs.lemmas.Map.Iter.{rest_all, rest_more}
use Rattle.hg_types.specs.declared.node.Node.{Node}
use Rattle.hg_wireproto.proofs.Lines.{id_word}
use Rattle.hg_wireproto.proofs.heads.words_of.Goals as goal

pub loop-node-init : goal.loop-node-init
loop-node-init g c =
    ap (λ (words : List ℕ). words ++ flat_map id_word c.into_iter-node-iterator.result) c.in_ok-words.ensures.items

pub loop-node-preserved : goal.loop-node-preserved
loop-node-preserved g c =
    let words = c.loop-node.words.items in
    let left = rest_more (λ x. x.now) _ _ _ _ c.in-Some.is c.next.ensures.steps in
    ap (λ (text : List ℕ). text ++ flat_map id_word c.next.new.self) c.in_ok-push_id.ensures
    ∙ append_assoc words (id_word c.in-Some.node.now) (flat_map id_word c.next.new.self)
    ∙ ap (λ (nodes : List Node). words ++ flat_map id_word nodes) (sym left)
    ∙ c.loop-node.invariant

pub returns-clause-words : goal.returns-clause-words
returns-clause-words g c =
    let words = c.loop-node.words.items in
    let none = rest_all (λ x. x.now) _ _ _ c.in-None.is c.next.ensures.steps in
    sym (append-nil words) ∙ ap (λ (nodes : List Node). words ++ flat_map id_word nodes) (sym none)
    ∙ c.loop-node.invariant ∙ ap (flat_map id_word) c.into_iter-node-iterator.ensures.into_iter_gives.0
