-- Who runs the canonical bundles of records reaches what the records lead to.
use Rattle.std.proofs.Common.{◌≡◌, ℕ, List, [], ◌∷◌, Ok, refl, sym, subst}
use Rattle.hg_types.specs.declared.limits.Limits.{Limits}
use Rattle.hg_types.specs.declared.part.Part.{Part}
use Rattle.hg_types.specs.Limits.{IsAllowed}
use Rattle.hg_stream.specs.Frames.{IsBundle}
use Rattle.hg_stream.specs.Laws.{AreReadInOneWay}
use Rattle.hg_push.specs.Run.{RepositoryOf, run_push}
use Rattle.hg_recovery.specs.Replays.{ReplaysOne}
use Rattle.hg_store_tools.specs.Canonical.{IsCanonicalOf, canonical_parts}
use Rattle.hg_theorems.specs.Canonical.{FollowersReachTheSame, IsBundleToo, LeadToTheSame}

module _ {A : Type 0} (one_way : (limits : Limits) → AreReadInOneWay A limits) (same : LeadToTheSame A)
    (bundles_too : IsBundleToo A) where
  one_followed : (limits : Limits) (first last : RepositoryOf A) (bytes bundle : List ℕ) → IsAllowed limits
      → ReplaysOne limits first bytes last → IsCanonicalOf A limits bytes bundle → ReplaysOne limits first bundle last
  one_followed limits first last bytes bundle allowed ran is =
      let parts_are : ran.parts ≡ is.parts = (one_way limits bytes bytes [] [] ran.parts is.parts ran.bundle.0
      is.bundle.0 refl).1 in
      let done = same first last is.parts ran.done
      (subst (λ (ps : List (Part A)). run_push first ps ≡ Ok (last, ran.done)) parts_are ran.ran) in
      record {
        parts = canonical_parts is.parts;
        bundle = subst (λ (b : List ℕ). IsBundle limits b (canonical_parts is.parts)) (sym is.canonical_is)
            (bundles_too limits bytes is.parts allowed is.bundle);
        done = done.0;
        ran = done.1;
      }

  pub followed : FollowersReachTheSame A
  followed limits first last [] [] allowed ran are = ran
  followed limits first last [] (other ∷ others) allowed ran are = absurd are
  followed limits first last (entry ∷ records) [] allowed ran are = absurd are
  followed limits first last (entry ∷ records) (other ∷ others) allowed ran are = (
    ran.0,
    one_followed limits first ran.0 entry.bundle other.bundle allowed ran.1 are.0,
    followed limits ran.0 last records others allowed ran.2 are.1,
  )
