-- What holds of all of a list holds of its front.
use Rattle.std.proofs.Common.{ℕ, List, [], ◌∷◌, ◌++◌, sym, subst}
use Rattle.std.specs.Prelude.{All}
use Rattle.std.proofs.lemmas.List.Elements.{All-cons, All-head, All-nil, All-tail}
use mathlib.Core.List.{IsPrefix}
use Rattle.hg_parts.specs.declared.item.Taken.{Taken}
use Rattle.hg_store.specs.Entries.{Entry}
use Rattle.hg_store.specs.declared.head.Head.{Head}
use Rattle.hg_push.specs.Run.{RepositoryOf}
use Rattle.hg_commit.specs.Clients.{KeptSeen}
use Rattle.hg_commit.specs.Lives.{IsKeptSince}
use Rattle.hg_durable.specs.Closing.{ClosesKept, IsLeft}

all_before : {X : Type 0} (P : X → Type 0) (front rest : List X) → All P (front ++ rest) → All P front
all_before P [] rest all = All-nil P
all_before P (x ∷ front) rest all =
    All-cons P x front (All-head P x (front ++ rest) all)
    (all_before P front rest (All-tail P x (front ++ rest) all))

pub all_of_front : {X : Type 0} (P : X → Type 0) (front whole : List X) → IsPrefix front whole → All P whole →
    All P front
all_of_front P front whole begins all =
    all_before P front begins.0 (subst (λ xs. All P xs) (sym begins.1) all)

-- what holds at the end with all of these clients holds with the first of them
pub closes_front : {A D : Type 0} {moment : D → ℕ} {left_since : D → ℕ → List ℕ → Type 0}
    {may_leave : D → List ℕ → Type 0} {head : Head} {stored : List Entry} {first : RepositoryOf A} {opened : ℕ}
    {whole : List (Taken A)} {kept : ℕ} {device : D} (front all : List (KeptSeen A)) → IsPrefix front all
    → ClosesKept moment left_since may_leave head stored first opened all whole kept device
    → ClosesKept moment left_since may_leave head stored first opened front whole kept device
closes_front {A} {D} {moment} {left_since} {may_leave} {head} {stored} {first} {opened} {whole} {kept} {device} front all
    begins left = record {
      order = left.order;
      each = all_of_front (IsLeft moment left_since may_leave head stored first whole left.order device) front all begins
          left.each;
      witness = left.witness;
      begins = left.begins;
      life = left.life;
      kept_since = all_of_front (λ (c : KeptSeen A). All (IsKeptSince moment left_since head stored first left.witness kept
          device) c.receipt.promises) front all begins left.kept_since;
    }
