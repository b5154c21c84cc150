-- The bytes that a reader shows, taken apart, and what a follower finds in them.
use Rattle.std.proofs.Common.{◌≡◌, ◌≢◌, ℕ, ◌≤◌, Bool, true, false, List, [], ◌∷◌, ◌++◌, length, take}
use Rattle.std.proofs.Common.{refl, sym, ap, subst, ◌∙◌, arith, length-append, take_all}
use Rattle.hg_http.specs.declared.follow.Follower.{Follower}
use Rattle.hg_http.specs.declared.follow.RequestEnd.{RequestEnd}
use Rattle.hg_http.specs.declared.follow.RequestEnd.TheVariants.{End, More, Nothing}
use Rattle.hg_http.specs.Following.{Finds, FollowsAt, KeepsUp}
use Rattle.hg_web.specs.code.Following.{GoesOn}

-- the front of what is shown
take_front : (more rest : List ℕ) → take (length more) (more ++ rest) ≡ more
take_front [] rest = refl
take_front (byte ∷ more) rest = ap (λ (l : List ℕ). byte ∷ l) (take_front more rest)

pub front_is : (shown more rest : List ℕ) (n : ℕ) → length more ≡ n → shown ≡ more ++ rest → take n shown ≡ more
front_is shown more rest n is parts =
    ap (λ l. take n l) parts ∙ subst (λ k. take k (more ++ rest) ≡ more) is (take_front more rest)

pub front_within : (shown more rest : List ℕ) (n : ℕ) → length more ≡ n → shown ≡ more ++ rest → n ≤ length shown
front_within shown more rest n is parts = omega (arith, is, ap length parts, length-append more rest)

-- what a follower found, taken apart
pub found_within : (found : RequestEnd) (old new : Follower) (bytes : List ℕ) (read : ℕ) → Finds found old new bytes read →
    read ≤ length bytes
found_within More old new bytes read x = omega (arith, x.1)
found_within End old new bytes read x = x.1
found_within Nothing old new bytes read x = omega (arith, x.1)

pub found_end : (found : RequestEnd) (old new : Follower) (bytes : List ℕ) (read : ℕ) → found ≡ End →
    Finds found old new bytes read → Finds End old new bytes read
found_end found old new bytes read is x = subst (λ f. Finds f old new bytes read) is x

-- where the request goes on, it has read all that came
pub found_more : (found : RequestEnd) (old new : Follower) (bytes : List ℕ) (read : ℕ) → found ≡ More →
    Finds found old new bytes read → KeepsUp old
    × ((stream : List ℕ) (count : ℕ) → FollowsAt old stream count → FollowsAt new (stream ++ take read bytes) count)
found_more found old new bytes read is x =
    let more = subst (λ f. Finds f old new bytes read) is x in
    let all : take read bytes ≡ bytes = take_all read bytes (omega (arith, more.1)) in (
      more.0,
      λ stream count at.
          subst (λ b. FollowsAt new (stream ++ b) count) (sym all) (more.2 stream count at),
    )

-- how it goes on
pub found_on : (found : RequestEnd) (old new : Follower) (bytes : List ℕ) (read : ℕ) (is_whole : Bool) →
    (is_whole ≡ true → found ≡ End) → (is_whole ≡ false → found ≢ End) → Finds found old new bytes read →
    GoesOn is_whole old new (take read bytes)
found_on found old new bytes read true whole part x =
    let end = found_end found old new bytes read (whole refl) x in (end.0, end.2)
found_on More old new bytes read false whole part x = λ up. found_more More old new bytes read refl x
found_on End old new bytes read false whole part x = absurd (part refl refl)
found_on Nothing old new bytes read false whole part x = λ up. let lost = x.0 in cc
