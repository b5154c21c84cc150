use Rattle.std.proofs.Common.{rules, ◌≡◌, ℕ, ◌*◌, List, [], ◌∷◌, slice_index, ap, inl, inr, ◌∙◌, arith}
use Rattle.std.proofs.lemmas.List.{get_or-set_same, get_or-set_other}
use Rattle.std.proofs.lemmas.Bool.{cases_lt}
use Rattle.sha1.specs.Sha1.{word_at}
use Rattle.hg_digests.specs.code.Lanes.{own}
use Rattle.hg_digests.proofs.LaneLemmas.{below_four}
use Rattle.hg_digests.proofs.rounds.first_words.Goals as goal

pub load-preserved : goal.load-preserved
load-preserved c = (
  search rules,
  λ j k h lt.
      let x : List ℕ = c.word_at.result ∷ c.word_at-in-load.result ∷ c.word_at-in-load-2.result ∷ c.word_at-in-load-3.result ∷ [] in
      elim (cases_lt k c.load.i) [
        | inl a ↦ ap (λ (v : List ℕ). slice_index v j) (get_or-set_other c.load.w c.load.i k x [] (omega arith)) ∙ c.load.invariant.1 j k h a
        | inr b ↦
            let e : c.load.i ≡ k = omega arith in
            let here : slice_index x j ≡ word_at (own c.args.blocks.now j) (4 * c.load.i) =
            below_four (λ (n : ℕ). slice_index x n ≡ word_at (own c.args.blocks.now n) (4 * c.load.i)) c.word_at.ensures
            c.word_at-in-load.ensures c.word_at-in-load-2.ensures c.word_at-in-load-3.ensures j h in
            rw (← e) (ap (λ (v : List ℕ). slice_index v j) (get_or-set_same c.load.w c.load.i x [] (omega arith)) ∙ here)
      ],
)
