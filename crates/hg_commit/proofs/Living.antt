-- How what ends leave goes on, as the journal goes on and as batches are added.
use Rattle.std.proofs.Common.{inl, inr, ⊎_elim, ℕ, ◌≡◌, ◌≤◌, ◌<◌, ◌+◌, List, [], ◌∷◌, ◌++◌, refl, sym, ◌∙◌, subst, arith}
use Rattle.std.proofs.Common.{length, length-append, append_assoc, take}
use Rattle.std.specs.List.{AllByRecursion}
use Rattle.std.specs.Prelude.{All}
use Rattle.std.proofs.lemmas.List.Elements.{All-weaker}
use Rattle.hg_parts.specs.declared.item.Taken.{Taken}
use Rattle.hg_store.specs.Entries.{Entry}
use Rattle.hg_store.specs.declared.head.Head.{Head}
use Rattle.hg_store.specs.declared.log.Log.{Log}
use Rattle.hg_store.specs.Device.{LeavesOnly}
use Rattle.hg_store.specs.Files.{IsStore, StandsFor, stored as file_of}
use Rattle.hg_store.specs.Log.{IsBeforeOrAfter, at_rest}
use Rattle.hg_store.specs.Head.{IsHead, version_of}
use Rattle.hg_store.specs.Records.{IsRecord, shut}
use Rattle.hg_push.specs.Run.{RepositoryOf}
use mathlib.Core.List.{IsPrefix}
use Rattle.hg_commit.specs.Lives.{AreWrites, Before, IsFront, IsKeptSince, IsLeftSince, Lives, StillHas}
use Rattle.hg_commit.specs.Promises.{Promise}
use Rattle.hg_commit.specs.Records.{AreRecordsFrom, IsRecordOf, KeepsRecords, done_in}
use Rattle.hg_commit.proofs.Lists.{each_moves, each_moves_below, front, joined, length-front}

from_nothing : (n count : ℕ) → n ≡ count → count ≡ 0 + n
from_nothing n count is = omega (arith, is)

module _ {A : Type 0} (head : Head) (stored : List Entry) (first : RepositoryOf A) where
  pub fewer : (h : List (Taken A)) (n m : ℕ) (file : List ℕ) → m ≤ n → IsFront head stored first h n file
      → IsFront head stored first h m file
  fewer h n m file low f = record {
    records = f.records;
    stands = f.stands;
    each = f.each;
    enough = omega (arith, low, f.enough);
  }

  pub front_on : (h h' : List (Taken A)) (n : ℕ) (file : List ℕ)
      → ((k : ℕ) (entry : Entry) → IsRecordOf first h k entry → IsRecordOf first h' k entry)
      → IsFront head stored first h n file → IsFront head stored first h' n file
  front_on h h' n file moves f = record {
    records = f.records;
    stands = f.stands;
    each = each_moves first h h' moves 0 f.records f.each;
    enough = f.enough;
  }

  -- by the history of a client, of no more pushes than are done in it
  pub still_has : (later : (before after : List (Taken A)) (k : ℕ) (entry : Entry) → IsPrefix before after
      → IsRecordOf first before k entry → IsRecordOf first after k entry)
      → (earlier : (before after : List (Taken A)) (k : ℕ) (entry : Entry) → IsPrefix before after
      → k < done_in first before → IsRecordOf first after k entry → IsRecordOf first before k entry)
      → (client witness whole : List (Taken A)) (rests count : ℕ) (file : List ℕ)
      → IsPrefix client whole → IsPrefix witness whole → rests ≤ done_in first client → rests ≤ count
      → IsFront head stored first witness count file
      → StillHas head stored first client rests file
  still_has later earlier client witness whole rests count file mine theirs done low f =
      let all : rests ≤ length f.records = omega (arith, low, f.enough) in
      record {
        records = f.records;
        stands = f.stands;
        enough = all;
        each = each_moves_below first whole client (done_in first client)
            (λ k entry less r. earlier client whole k entry mine less r) 0 (take rests f.records)
            (omega (arith, length-front rests f.records all, done))
            (front first whole 0 rests f.records
            (each_moves first witness whole (λ k entry r. later witness whole k entry theirs r) 0 f.records f.each));
      }

module _ {A D : Type 0} (seen : D → List ℕ) (may_leave : D → List ℕ → Type 0) (head : Head)
    (stored : List Entry) (first : RepositoryOf A)
  where
    -- what is on the device is what an end leaves
    pub kept_front : ((head : Head) (records : List Entry) (behind : List ℕ) → IsHead head →
        AllByRecursion (IsRecord (version_of head)) records → IsStore (file_of head records ++ 0 ∷ behind) head records (0 ∷ behind))
        → (h : List (Taken A)) (count : ℕ) (log : Log D)
        → KeepsRecords seen may_leave head stored first h count log → (file : List ℕ) → may_leave log.device file
        → IsFront head stored first h count file
    kept_front read h count log k file left =
        let all : List Entry = stored ++ k.records in
        let rests : StandsFor head all (at_rest head all) =
        (0 ∷ [], read head all [] k.settled.allowed k.settled.each, shut [] refl) in
        record {
          records = k.records;
          stands = subst (StandsFor head all) (sym (k.settled.durable file left ∙ k.settled.file)) rests;
          each = k.each;
          enough = omega (arith, k.number);
        }

    -- a batch is added whole, or not at all
    pub batch_front : (h : List (Taken A)) (count : ℕ) (batch : List Entry) (log : Log D)
        → (k : KeepsRecords seen may_leave head stored first h count log) → AreRecordsFrom first h count batch
        → (file : List ℕ) → IsBeforeOrAfter head (stored ++ k.records) batch file
        → IsFront head stored first h count file
    batch_front h count batch log k each file (inl stands) =
        record { records = k.records; stands = stands; each = k.each; enough = omega (arith, k.number) }
    batch_front h count batch log k each file (inr stands) = record {
      records = k.records ++ batch;
      stands = subst (λ (rs : List Entry). StandsFor head rs file) (append_assoc stored k.records batch) stands;
      each = joined first h 0 k.records batch k.each
          (subst (λ (n : ℕ). AreRecordsFrom first h n batch)
          (from_nothing (length k.records) count k.number) each);
      enough = omega (arith, k.number, length-append k.records batch);
    }

    -- and so at each moment of an append
    pub written_front : (moment : D → ℕ) (left_since : D → ℕ → List ℕ → Type 0) (h : List (Taken A)) (count : ℕ)
        (batch : List Entry) (log : Log D) → (k : KeepsRecords seen may_leave head stored first h count log)
        → AreRecordsFrom first h count batch → (old new : D)
        → LeavesOnly moment left_since old new (IsBeforeOrAfter head (stored ++ k.records) batch)
        → LeavesOnly moment left_since old new (IsFront head stored first h count)
    written_front moment left_since h count batch log k each old new run = record {
      later = run.later;
      each = λ file left. batch_front h count batch log k each file (run.each file left);
      before = λ t file le left. ⊎_elim (λ past. inl past)
          (λ during. inr (batch_front h count batch log k each file during)) (run.before t file le left);
    }

    -- and of a beat
    pub beat_front : (moment : D → ℕ) (left_since : D → ℕ → List ℕ → Type 0) (h : List (Taken A)) (count : ℕ)
        (log : Log D) → (k : KeepsRecords seen may_leave head stored first h count log) → (old new : D)
        → LeavesOnly moment left_since old new (StandsFor head (stored ++ k.records))
        → LeavesOnly moment left_since old new (IsFront head stored first h count)
    beat_front moment left_since h count log k old new run =
        let front : (file : List ℕ) → StandsFor head (stored ++ k.records) file → IsFront head stored first h count file =
        λ file stands. record { records = k.records; stands = stands; each = k.each; enough = omega (arith, k.number) } in
        record {
          later = run.later;
          each = λ file left. front file (run.each file left);
          before = λ t file le left. ⊎_elim (λ past. inl past) (λ during. inr (front file during))
              (run.before t file le left);
        }

module _ {A D : Type 0} (moment : D → ℕ) (left_since : D → ℕ → List ℕ → Type 0)
    (may_leave : D → List ℕ → Type 0) (head : Head) (stored : List Entry) (first : RepositoryOf A) (opened : ℕ)
  where
    pub begins : (h : List (Taken A)) (device : D) → opened ≡ moment device
        → ((file : List ℕ) → left_since device (moment device) file → may_leave device file)
        → ((file : List ℕ) → may_leave device file → IsFront head stored first h 0 file)
        → Lives moment left_since may_leave head stored first opened h 0 device
    begins h device is only_now now = record {
      later = omega (arith, is);
      always = λ file left. now file (only_now file (subst (λ t. left_since device t file) is left));
      now = now;
    }

    -- nothing was written
    pub still_front : (h : List (Taken A)) (count : ℕ) (device : D)
        → ((file : List ℕ) → left_since device (moment device) file → may_leave device file)
        → Lives moment left_since may_leave head stored first opened h count device
        → LeavesOnly moment left_since device device (IsFront head stored first h count)
    still_front h count device only_now lives = record {
      later = omega arith;
      each = λ file left. lives.now file (only_now file left);
      before = λ t file le left. inl left;
    }

    pub lives_on : (h h' : List (Taken A)) (count : ℕ) (device : D)
        → ((k : ℕ) (entry : Entry) → IsRecordOf first h k entry → IsRecordOf first h' k entry)
        → Lives moment left_since may_leave head stored first opened h count device
        → Lives moment left_since may_leave head stored first opened h' count device
    lives_on h h' count device moves l = record {
      later = l.later;
      always = λ file left. front_on head stored first h h' 0 file moves (l.always file left);
      now = λ file left. front_on head stored first h h' count file moves (l.now file left);
    }

    -- nothing was called
    pub stays : (h : List (Taken A)) (count : ℕ) (device : D)
        → ((file : List ℕ) → left_since device (moment device) file → may_leave device file)
        → Lives moment left_since may_leave head stored first opened h count device
        → LeavesOnly moment left_since device device (IsFront head stored first h count)
    stays h count device only_now l = record {
      later = omega arith;
      each = λ file left. l.now file (only_now file left);
      before = λ t file le left. inl left;
    }

    -- after calls that left so many records at each moment, and leave more now
    pub lives_after : (h : List (Taken A)) (count more : ℕ) (old new : D)
        → Lives moment left_since may_leave head stored first opened h count old
        → LeavesOnly moment left_since old new (IsFront head stored first h count)
        → ((file : List ℕ) → may_leave new file → IsFront head stored first h more file)
        → Lives moment left_since may_leave head stored first opened h more new
    lives_after h count more old new l run now = record {
      later = omega (arith, l.later, run.later);
      always = λ file left. ⊎_elim (l.always file) (fewer head stored first h count 0 file (omega arith))
          (run.before opened file l.later left);
      now = now;
    }

    -- also where they failed
    pub lives_failed : (h : List (Taken A)) (count : ℕ) (old new : D)
        → ((t : ℕ) (file : List ℕ) → t ≤ moment new → may_leave new file → left_since new t file)
        → Lives moment left_since may_leave head stored first opened h count old
        → LeavesOnly moment left_since old new (IsFront head stored first h count)
        → Lives moment left_since may_leave head stored first opened h count new
    lives_failed h count old new counts_now l run =
        lives_after h count count old new l run
        (λ file left. run.each file (counts_now (moment old) file run.later left))

module _ {A D : Type 0} (moment : D → ℕ) (left_since : D → ℕ → List ℕ → Type 0) (head : Head)
    (stored : List Entry) (first : RepositoryOf A)
  where
    -- promises, as the journal goes on
    pub promises_on : (h h' : List (Taken A)) (count : ℕ) (device : D)
        → ((k : ℕ) (entry : Entry) → IsRecordOf first h k entry → IsRecordOf first h' k entry)
        → (promises : List Promise) → All (IsKeptSince moment left_since head stored first h count device) promises
        → All (IsKeptSince moment left_since head stored first h' count device) promises
    promises_on h h' count device moves =
        All-weaker (IsKeptSince moment left_since head stored first h count device)
        (IsKeptSince moment left_since head stored first h' count device)
        (λ p k. record {
          reached = k.reached;
          few = k.few;
          left = λ file left. front_on head stored first h h' p.count file moves (k.left file left);
        })

    -- after calls that left so many records at each moment
    pub promises_after : (h : List (Taken A)) (count more : ℕ) (old new : D) → count ≤ more
        → LeavesOnly moment left_since old new (IsFront head stored first h count)
        → (promises : List Promise) → All (IsKeptSince moment left_since head stored first h count old) promises
        → All (IsKeptSince moment left_since head stored first h more new) promises
    promises_after h count more old new low run =
        All-weaker (IsKeptSince moment left_since head stored first h count old)
        (IsKeptSince moment left_since head stored first h more new)
        (λ p k. record {
          reached = omega (arith, k.reached, run.later);
          few = omega (arith, k.few, low);
          left = λ file left. ⊎_elim (k.left file)
              (fewer head stored first h count p.count file k.few)
              (run.before p.moment file k.reached left);
        })

    -- one of all that is there now
    pub promise_now : (may_leave : D → List ℕ → Type 0) (h : List (Taken A)) (count write beats : ℕ) (device : D)
        → ((file : List ℕ) → left_since device (moment device) file → may_leave device file)
        → ((file : List ℕ) → may_leave device file → IsFront head stored first h count file)
        → IsKeptSince moment left_since head stored first h count device
        (record { count = count; moment = moment device; write = write; beats = beats })
    promise_now may_leave h count write beats device only_now now = record {
      reached = omega arith;
      few = omega arith;
      left = λ file left. now file (only_now file left);
    }

    -- by the history of a client
    pub left_since_then : (later : (before after : List (Taken A)) (k : ℕ) (entry : Entry) → IsPrefix before after
        → IsRecordOf first before k entry → IsRecordOf first after k entry)
        → (earlier : (before after : List (Taken A)) (k : ℕ) (entry : Entry) → IsPrefix before after
        → k < done_in first before → IsRecordOf first after k entry → IsRecordOf first before k entry)
        → (may_leave : D → List ℕ → Type 0)
        → (client witness whole : List (Taken A)) (kept : ℕ) (device : D) (promise : Promise)
        → ((t : ℕ) (file : List ℕ) → t ≤ moment device → may_leave device file → left_since device t file)
        → IsPrefix client whole → IsPrefix witness whole
        → IsKeptSince moment left_since head stored first witness kept device promise
        → IsLeftSince moment left_since may_leave head stored first client device promise
    left_since_then later earlier may_leave client witness whole kept device promise counts_now mine theirs k =
        let has : (rests : ℕ) → rests ≤ done_in first client → rests ≤ promise.count → (file : List ℕ)
        → left_since device promise.moment file → StillHas head stored first client rests file =
        λ rests done low file left. still_has head stored first later earlier client witness whole rests
        promise.count file mine theirs done low (k.left file left) in
        record {
          reached = k.reached;
          since = has;
          now = λ rests done low file left. has rests done low file (counts_now promise.moment file k.reached left);
        }

all_weaker : {X : Type 0} (P Q : X → Type 0) → ((x : X) → P x → Q x) → (xs : List X) → AllByRecursion P xs
    → AllByRecursion Q xs
all_weaker P Q f [] all = tt
all_weaker P Q f (x ∷ xs) all = (f x all.0, all_weaker P Q f xs all.1)

module _ {A D : Type 0} (moment : D → ℕ) (left_since : D → ℕ → List ℕ → Type 0) (head : Head)
    (stored : List Entry) (first : RepositoryOf A)
    (stay : (before after : List (Taken A)) (k : ℕ) (entry : Entry) → IsPrefix before after
    → IsRecordOf first before k entry → IsRecordOf first after k entry)
  where
    -- an earlier device, by a later one
    pub record Stays (device : D) (count : ℕ) (h : List (Taken A)) (b : Before A D) : Type 0 where
      pub later : moment b.device ≤ moment device
      pub few : b.count ≤ count
      pub left : (file : List ℕ) → left_since device (moment b.device) file
          → IsFront head stored first h b.count file

    pub each_stays : (device : D) (count : ℕ) (h : List (Taken A)) (earlier : List (Before A D))
        → AreWrites moment left_since head stored first device count h earlier
        → AllByRecursion (Stays device count h) earlier
    each_stays device count h [] writes = tt
    each_stays device count h (last ∷ earlier) writes =
        let run = writes.2 in
        let on : (n : ℕ) (file : List ℕ) → IsFront head stored first last.history n file
        → IsFront head stored first h n file =
        λ n file f. front_on head stored first last.history h n file (λ k entry r. stay last.history h k entry writes.1 r) f in (
          record {
            later = run.later;
            few = writes.0;
            left = λ file left. on last.count file (run.each file left);
          },
          all_weaker (Stays last.device last.count last.history) (Stays device count h)
              (λ b s. record {
                later = omega (arith, s.later, run.later);
                few = omega (arith, s.few, writes.0);
                left = λ file left. ⊎_elim (λ before. on b.count file (s.left file before))
                    (λ during. fewer head stored first h last.count b.count file s.few (on last.count file during))
                    (run.before (moment b.device) file s.later left);
              }) earlier (each_stays last.device last.count last.history earlier writes.3),
        )

    pub all_stay : (device : D) (count : ℕ) (h : List (Taken A)) (earlier : List (Before A D))
        → AreWrites moment left_since head stored first device count h earlier
        → AllByRecursion (λ (b : Before A D). (file : List ℕ) → left_since device (moment b.device) file
        → IsFront head stored first h b.count file) earlier
    all_stay device count h earlier writes =
        all_weaker (Stays device count h) _ (λ b s. s.left) earlier (each_stays device count h earlier writes)
