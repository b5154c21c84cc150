-- What the end of a server and of its ledger leaves.
use Rattle.std.proofs.Common.{◌≡◌, ℕ, List, [], ◌∷◌, ◌++◌, length, refl, sym, subst, ap, ◌∙◌, append_assoc, arith}
use Rattle.std.specs.List.{Contains}
use Rattle.std.specs.Prelude.{All}
use Rattle.std.proofs.lemmas.List.Elements.{All-contains, All-weaker, Contains-append_left, Contains-push}
use mathlib.Core.List.{IsPrefix}
use Rattle.hg_parts.specs.declared.item.Taken.{Taken}
use Rattle.hg_store.specs.Entries.{Entry}
use Rattle.hg_store.specs.declared.head.Head.{Head}
use Rattle.hg_push.specs.Run.{RepositoryOf}
use Rattle.hg_commit.specs.Clients.{KeptSeen}
use Rattle.hg_commit.specs.Lives.{IsKeptSince, IsLeftSince}
use Rattle.hg_commit.specs.Orders.{Event}
use Rattle.hg_commit.specs.Promises.{Promise}
use Rattle.hg_durable.specs.Closing.{IsLeft}

pub empty_front : {X : Type 0} (xs ys : List X) → length xs ≡ 0 → xs ++ ys ≡ ys
empty_front [] ys e = refl
empty_front (x ∷ xs) ys e = absurd (omega arith)

-- what was put last is there
pub has_last : {X : Type 0} (old new : List X) (x : X) → new ≡ old ++ x ∷ [] → Contains new x
has_last old new x is = subst (λ xs. Contains xs x) (sym is) (Contains-push old x)

-- what was there is there after one more
pub has_still : {X : Type 0} (old new : List X) (x y : X) → new ≡ old ++ y ∷ [] → Contains old x → Contains new x
has_still old new x y is there = subst (λ xs. Contains xs x) (sym is) (Contains-append_left old (y ∷ []) x there)

-- what a beginning has, the whole has
pub has_beyond : {X : Type 0} (front whole : List X) (x : X) → IsPrefix front whole → Contains front x →
    Contains whole x
has_beyond front whole x begins there =
    subst (λ xs. Contains xs x) begins.1 (Contains-append_left front begins.0 x there)

-- what begins a beginning
pub begins_on : {X : Type 0} (xs ys zs : List X) → IsPrefix xs ys → IsPrefix ys zs → IsPrefix xs zs
begins_on xs ys zs p q = (p.0 ++ q.0, sym (append_assoc xs p.0 q.0) ∙ (ap (λ l. l ++ q.0) p.1 ∙ q.1))

-- a client was compared with these promises and that order, and is one of those
abbrev pub IsCompared : {A : Type 0} → List Promise → List Event → List (List (Taken A)) → KeptSeen A → Type 0
IsCompared promises order seen k = All (Contains promises) k.receipt.promises × IsPrefix k.receipt.order order
    × Contains seen k.history

-- A client whose promises the ledger made.
pub is_left : {A D : Type 0} (moment : D → ℕ) (left_since : D → ℕ → List ℕ → Type 0)
    (may_leave : D → List ℕ → Type 0) (head : Head) (stored : List Entry) (first : RepositoryOf A)
    (whole witness : List (Taken A)) (order : List Event) (kept : ℕ) (device : D) (client : KeptSeen A)
    (promises : List Promise)
    → ((promise : Promise) → IsKeptSince moment left_since head stored first witness kept device promise
    → IsLeftSince moment left_since may_leave head stored first client.history device promise)
    → IsPrefix client.history whole
    → IsPrefix client.receipt.order order
    → All (IsKeptSince moment left_since head stored first witness kept device) promises
    → All (Contains promises) client.receipt.promises
    → IsLeft moment left_since may_leave head stored first whole order device client
is_left moment left_since may_leave head stored first whole witness order kept device client promises law mine seen
    kept_all made =
    let Kept : Promise → Type 0 = IsKeptSince moment left_since head stored first witness kept device in
    record {
      begins = mine;
      seen = seen;
      each = All-weaker (Contains promises)
          (IsLeftSince moment left_since may_leave head stored first client.history device)
          (λ p there. law p (All-contains Kept promises p kept_all there)) client.receipt.promises made;
    }
