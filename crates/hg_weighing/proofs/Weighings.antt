-- What was found of a push.
use Rattle.std.proofs.Common.{◌≡◌, ℕ, List, length, Option, None, Some, refl, subst, sym}
use Rattle.std.specs.Prelude.{IfNone, IfSome}
use Rattle.hg_types.specs.declared.entry.Entry.{Entry}
use Rattle.hg_types.specs.declared.limits.Limits.{Limits}
use Rattle.hg_push.specs.Run.{RepositoryOf}
use Rattle.hg_sizes.specs.Changesets.{BeginsWith, HasNoBundle}
use Rattle.hg_sizes.specs.declared.weighing.Excess.{Excess}
use Rattle.hg_weighing.specs.Weighing.{IsExcess, IsExcessOf, no_bundle, weighed}

module _ {A : Type 0} (first : RepositoryOf A) (most : ℕ) (body : List ℕ) (limits : Limits)
    (is : limits ≡ first.settings.limits) (read : Option (List (Entry A)))
  where
    -- the body begins with no bundle
    pub nothing_found : read ≡ None → IfNone read (HasNoBundle A limits body) → IsExcess first most body None
    nothing_found none lacks =
        let has_none = subst (λ (r : Option (List (Entry A))). IfNone r (HasNoBundle A limits body)) none lacks in
        no_bundle (subst (λ (l : Limits). HasNoBundle A l body) is has_none) refl

    begins : (entries given : List (Entry A)) → read ≡ Some entries → IfSome read (BeginsWith limits body) →
        given ≡ entries → BeginsWith first.settings.limits body given
    begins entries given some brought same =
        let has = subst (λ (r : Option (List (Entry A))). IfSome r (BeginsWith limits body)) some brought in
        subst (λ (es : List (Entry A)). BeginsWith first.settings.limits body es) (sym same)
        (subst (λ (l : Limits). BeginsWith l body entries) is has)

    -- its changesets were weighed
    pub found_by_weighing : (entries given : List (Entry A)) (found : Option Excess) → read ≡ Some entries →
        IfSome read (BeginsWith limits body) → given ≡ entries → IsExcessOf first most (length body) given found →
        IsExcess first most body found
    found_by_weighing entries given found some brought same weighs =
        weighed given (begins entries given some brought same) weighs
