-- Servers one after the other: each one has all that those before it had answered.
use Rattle.std.proofs.Common.{ℕ, ◌≡◌, ◌<◌, Bool, List, [], ◌∷◌, ◌++◌, length, sym, ◌∙◌, ap, subst}
use Rattle.std.proofs.Common.{append_assoc, append-nil, length-append, arith}
use Rattle.std.specs.Prelude.{All}
use Rattle.std.proofs.lemmas.List.Elements.{All-cons, All-nil, All-weaker}
use mathlib.Core.List.{IsPrefix}
use Rattle.hg_parts.specs.declared.item.Taken.{Taken}
use Rattle.hg_types.specs.declared.limits.Limits.{Limits}
use Rattle.hg_store.specs.Entries.{Entry}
use Rattle.hg_store.specs.Head.{setup_of}
use Rattle.hg_store.specs.declared.head.Head.{Head}
use Rattle.hg_push.specs.Places.{IsPlace}
use Rattle.hg_push.specs.Run.{RepositoryOf, run_push}
use Rattle.hg_serve.specs.Histories.{newest_first}
use Rattle.hg_commit.specs.Clients.{KeptSeen}
use Rattle.hg_commit.specs.Lives.{IsFront, IsKeptSince}
use Rattle.hg_commit.specs.Promises.{Promise}
use Rattle.hg_durable.specs.Closing.{IsLeft}
use Rattle.hg_recovery.specs.Opening.{IsRecovered, empty_repository}
use Rattle.hg_recovery.specs.Replays.{Replays}
use Rattle.hg_theorems.specs.Recovering.{IsAmong, Recovers}
use Rattle.hg_theorems.specs.Holders.{AreInARow, EachHasAllBefore, HasAllOf, HasServed, IsPassedOn, Server, TakesOver}

-- three facts of each element give a fourth one
all_three : {X : Type 0} (P Q R S : X → Type 0) → ((x : X) → P x → Q x → R x → S x) → (xs : List X) → All P xs → All Q xs
    → All R xs → All S xs
all_three P Q R S give xs one two three = λ k d low. give _ (one k d low) (two k d low) (three k d low)

all_two : {X : Type 0} (P Q R : X → Type 0) → ((x : X) → P x → Q x → R x) → (xs : List X) → All P xs → All Q xs → All R xs
all_two P Q R give xs one two = λ k d low. give _ (one k d low) (two k d low)

-- what follows the same records is as long
as_long : {X : Type 0} (front xs ys whole : List X) → whole ≡ front ++ xs → whole ≡ front ++ ys → length xs ≡ length ys
as_long front xs ys whole one two =
    let first = ap length one in
    let second = ap length two in
    let first_long = length-append front xs in
    let second_long = length-append front ys in
    omega (arith, first, second, first_long, second_long)

module _ {A D : Type 0} (moment : D → ℕ) (left_since : D → ℕ → List ℕ → Type 0) (may_leave : D → List ℕ → Type 0)
    (publishing : Bool) (head : Head)
    (recovers : (stored : List Entry) (first : RepositoryOf A) (h : List (Taken A)) (least : ℕ) (file : List ℕ) →
    IsRecovered publishing head stored first → IsFront head stored first h least file →
    Recovers publishing head stored first h least file)
    (seen_done : (stored : List Entry) (first : RepositoryOf A) (client witness whole : List (Taken A)) (count : ℕ)
    (device : D) (promise : Promise) (p place : ℕ) → IsRecovered publishing head stored first → IsPrefix client whole →
    IsPrefix witness whole → IsKeptSince moment left_since head stored first witness count device promise →
    IsPlace run_push first (newest_first client) p place → place < promise.count → (file : List ℕ) →
    left_since device promise.moment file → (opened : Recovers publishing head stored first witness promise.count file)
    × IsAmong first client witness (length opened.records) p place)
    (split : (limits : Limits) (first last : RepositoryOf A) (front back : List Entry) →
    Replays limits first (front ++ back) last →
    (mid : RepositoryOf A) × Replays limits first front mid × Replays limits mid back last)
    (joined : (limits : Limits) (first mid last : RepositoryOf A) (front back : List Entry) →
    Replays limits first front mid → Replays limits mid back last → Replays limits first (front ++ back) last)
    (one : (limits : Limits) (first a b : RepositoryOf A) (records : List Entry) →
    Replays limits first records a → Replays limits first records b → a ≡ b)
  where
    -- a server has what a promise of the one before it counts
    passed_on : (s next : Server A D) (served : HasServed moment left_since may_leave publishing head s)
        (over : TakesOver left_since head s next) → IsRecovered publishing head next.stored next.first
        → (records : List Entry) → next.stored ≡ s.stored ++ records
        → (client : KeptSeen A) → IsPrefix client.history s.whole → (promise : Promise)
        → IsKeptSince moment left_since head s.stored s.first served.closes.witness s.kept s.device promise
        → left_since s.device promise.moment over.file
        → IsPassedOn s.first served.closes.witness (length records) client promise
    passed_on s next served over begun records is client mine promise kept left =
        let h = served.closes.witness in
        let found = recovers s.stored s.first h promise.count over.file served.recovered (kept.left over.file left) in
        let same = as_long s.stored found.records records next.stored
        (found.alone head next.stored next.first over.stands begun).0 is in
        let enough = found.enough in
        record {
          enough = omega (arith, enough, same);
          among = λ p place at low.
              let it = seen_done s.stored s.first client.history h s.whole s.kept s.device promise p place served.recovered
              mine served.closes.begins kept at low over.file left in
              subst (λ (n : ℕ). IsAmong s.first client.history h n p place)
              (as_long s.stored it.0.records records next.stored
              (it.0.alone head next.stored next.first over.stands begun).0 is) it.1;
        }

    pub succeeds : (s next : Server A D) → HasServed moment left_since may_leave publishing head s
        → TakesOver left_since head s next → IsRecovered publishing head next.stored next.first → HasAllOf head s next
    succeeds s next served over begun =
        let closes = served.closes in
        let h = closes.witness in
        let found = recovers s.stored s.first h 0 over.file served.recovered
        (closes.life.always over.file over.since_opening) in
        let it = found.alone head next.stored next.first over.stands begun in
        let Kept : KeptSeen A → Promise → Type 0 =
        λ c. IsKeptSince moment left_since head s.stored s.first h s.kept s.device in
        let Left : Promise → Type 0 = λ p. left_since s.device p.moment over.file in
        record {
          h = h;
          begins = closes.begins;
          records = found.records;
          more = [];
          goes_on = it.0 ∙ ap (λ l. s.stored ++ l) (sym (append-nil found.records));
          repo = found.repo;
          led_to = found.after;
          led_on = sym it.1;
          each = all_three (IsLeft moment left_since may_leave head s.stored s.first s.whole closes.order s.device)
              (λ (c : KeptSeen A). All (Kept c) c.receipt.promises)
              (λ (c : KeptSeen A). All Left c.receipt.promises)
              (λ (c : KeptSeen A). All (IsPassedOn s.first h (length found.records) c) c.receipt.promises)
              (λ c mine kept left. all_two (Kept c) Left (IsPassedOn s.first h (length found.records) c)
              (λ p is there. passed_on s next served over begun found.records it.0 c mine.begins p is there)
              c.receipt.promises kept left) s.clients closes.each closes.kept_since over.since_promises;
        }

    -- and so has the one after that
    goes_on : (s next last : Server A D) → HasAllOf head s next → HasAllOf head next last
        → IsRecovered publishing head next.stored next.first → IsRecovered publishing head last.stored last.first
        → HasAllOf head s last
    goes_on s next last first_has then_has begun ended =
        let new : List Entry = then_has.records ++ then_has.more in
        let start = empty_repository (setup_of head) in
        let it = split head.limits start last.first next.stored new
        (subst (λ (l : List Entry). Replays head.limits start l last.first) then_has.goes_on ended.ran) in
        let same : it.0 ≡ next.first = one head.limits start it.0 next.first next.stored it.1 begun.ran in
        let led : Replays head.limits next.first new last.first =
        subst (λ (r : RepositoryOf A). Replays head.limits r new last.first) same it.2 in
        record {
          h = first_has.h;
          begins = first_has.begins;
          records = first_has.records;
          more = first_has.more ++ new;
          goes_on = then_has.goes_on ∙ (ap (λ l. l ++ new) first_has.goes_on
              ∙ (append_assoc s.stored (first_has.records ++ first_has.more) new
              ∙ ap (λ l. s.stored ++ l) (append_assoc first_has.records first_has.more new)));
          repo = first_has.repo;
          led_to = first_has.led_to;
          led_on = joined head.limits first_has.repo next.first last.first first_has.more new first_has.led_on led;
          each = first_has.each;
        }

    first_of_row : (s : Server A D) (others : List (Server A D))
        → AreInARow moment left_since may_leave publishing head s others
        → HasServed moment left_since may_leave publishing head s
    first_of_row s [] row = row
    first_of_row s (next ∷ others) row = row.0

    -- a later server, with what it began with
    abbrev Later : Server A D → Server A D → Type 0
    Later s last = HasAllOf head s last × IsRecovered publishing head last.stored last.first

    all_later : (s : Server A D) (others : List (Server A D))
        → AreInARow moment left_since may_leave publishing head s others → All (Later s) others
    all_later s [] row = All-nil (Later s)
    all_later s (next ∷ others) row =
        let begun = (first_of_row next others row.2).recovered in
        let has = succeeds s next row.0 row.1 begun in
        All-cons (Later s) next others (has, begun)
        (All-weaker (Later next) (Later s) (λ last later. (goes_on s next last has later.0 begun later.1, later.1)) others
        (all_later next others row.2))

    pub in_a_row : (s : Server A D) (others : List (Server A D))
        → AreInARow moment left_since may_leave publishing head s others → EachHasAllBefore head s others
    in_a_row s [] row = tt
    in_a_row s (next ∷ others) row = (
      All-weaker (Later s) (HasAllOf head s) (λ last later. later.0) (next ∷ others) (all_later s (next ∷ others) row),
      in_a_row next others row.2,
    )
