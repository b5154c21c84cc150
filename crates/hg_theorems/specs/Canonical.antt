-- A push, and its canonical bundle.
use Rattle.std.specs.Prelude.{ℕ, ◌≡◌, List, Ok}
use Rattle.hg_types.specs.declared.limits.Limits.{Limits}
use Rattle.hg_types.specs.declared.part.Part.{Part}
use Rattle.hg_types.specs.Limits.{IsAllowed}
use Rattle.hg_stream.specs.Frames.{IsBundle}
use Rattle.hg_store.specs.Entries.{Entry, bundles_of}
use Rattle.hg_repo.specs.declared.done.Done.{Done}
use Rattle.hg_push.specs.Run.{RepositoryOf, run_push}
use Rattle.hg_recovery.specs.Replays.{Replays}
use Rattle.hg_store_tools.specs.Canonical.{AreCanonicalOf, canonical_bytes, canonical_parts}

-- the parts of a push that is done, without those and without the parameters that change nothing, are a push that is
-- done too and leads to the same repository
abbrev pub LeadToTheSame : Type 0 → Type 0
LeadToTheSame A = (first last : RepositoryOf A) (parts : List (Part A)) (done : Done A) →
    run_push first parts ≡ Ok (last, done) →
    (others : Done A) × (run_push first (canonical_parts parts) ≡ Ok (last, others))

-- the canonical bundle of the parts of a bundle is a bundle with these parts, within the same limits
abbrev pub IsBundleToo : Type 0 → Type 0
IsBundleToo A = (limits : Limits) (bytes : List ℕ) (parts : List (Part A)) → IsAllowed limits →
    IsBundle limits bytes parts → IsBundle limits (canonical_bytes parts) (canonical_parts parts)

-- records that run, and others whose bundles are the canonical ones of these, lead to the same repository
abbrev pub FollowersReachTheSame : Type 0 → Type 0
FollowersReachTheSame A = (limits : Limits) (first last : RepositoryOf A) (records others : List Entry) →
    IsAllowed limits → Replays limits first records last → AreCanonicalOf A limits records (bundles_of others) →
    Replays limits first others last
