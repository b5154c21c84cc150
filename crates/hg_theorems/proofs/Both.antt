-- Two facts of each element give a third one.
use Rattle.std.proofs.Common.{List}
use Rattle.std.specs.Prelude.{All}

pub all_both : {X : Type 0} (P Q R : X → Type 0) → ((x : X) → P x → Q x → R x) → (xs : List X) → All P xs → All Q xs
    → All R xs
all_both P Q R give xs all both = λ k d low. give _ (all k d low) (both k d low)
