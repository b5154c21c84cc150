-- What a log keeps of a journal, as the journal goes on and as a batch is added.
use Rattle.std.proofs.Common.{ℕ, ◌≡◌, ◌<◌, ◌≤◌, ◌+◌, List, [], ◌++◌, refl, sym, ◌∙◌, ap, subst, arith, length}
use Rattle.std.proofs.Common.{length-append, append_assoc, take}
use Rattle.std.proofs.lemmas.List.{append-nil}
use Rattle.hg_parts.specs.declared.item.Taken.{Taken}
use Rattle.hg_store.specs.Entries.{Entry}
use Rattle.hg_store.specs.declared.head.Head.{Head}
use Rattle.hg_store.specs.declared.log.Log.{Log}
use Rattle.hg_store.specs.Log.{IsSettled}
use Rattle.hg_push.specs.Run.{RepositoryOf}
use Rattle.hg_commit.specs.Records.{AreKept, AreRecordsFrom, IsRecordOf, KeepsRecords}
use Rattle.hg_commit.proofs.Lists.{each_moves, each_moves_below, fewer, front, joined, length-front}

from_nothing : (n count : ℕ) → n ≡ count → count ≡ 0 + n
from_nothing n count is = omega (arith, is)

module _ {A D : Type 0} (seen : D → List ℕ) (may_leave : D → List ℕ → Type 0) (head : Head)
    (stored : List Entry) (first : RepositoryOf A)
  where
    pub nothing : (h : List (Taken A)) (log : Log D) → IsSettled seen may_leave head stored log
        → KeepsRecords seen may_leave head stored first h 0 log
    nothing h log settled = record {
      records = [];
      settled = subst (λ (rs : List Entry). IsSettled seen may_leave head rs log) (sym (append-nil stored))
          settled;
      each = tt;
      number = refl;
    }

    pub keeps_on : (h h' : List (Taken A)) (count : ℕ) (log : Log D)
        → ((k : ℕ) (entry : Entry) → IsRecordOf first h k entry → IsRecordOf first h' k entry)
        → KeepsRecords seen may_leave head stored first h count log → KeepsRecords seen may_leave head stored first h' count log
    keeps_on h h' count log moves k = record {
      records = k.records;
      settled = k.settled;
      each = each_moves first h h' moves 0 k.records k.each;
      number = k.number;
    }

    pub keeps_more : (h : List (Taken A)) (count : ℕ) (batch : List Entry) (log log' : Log D)
        → (k : KeepsRecords seen may_leave head stored first h count log)
        → IsSettled seen may_leave head ((stored ++ k.records) ++ batch) log'
        → AreRecordsFrom first h count batch
        → KeepsRecords seen may_leave head stored first h (count + length batch) log'
    keeps_more h count batch log log' k settled each = record {
      records = k.records ++ batch;
      settled = subst (λ (rs : List Entry). IsSettled seen may_leave head rs log')
          (append_assoc stored k.records batch) settled;
      each = joined first h 0 k.records batch k.each
          (subst (λ (n : ℕ). AreRecordsFrom first h n batch)
          (from_nothing (length k.records) count k.number) each);
      number = length-append k.records batch ∙ ap (λ n. n + length batch) k.number;
    }

    abbrev pub are_kept : (h : List (Taken A)) (count : ℕ) (log : Log D)
        → KeepsRecords seen may_leave head stored first h count log → AreKept seen may_leave head stored first h count
    are_kept h count log k = record {
      log = log;
      records = k.records;
      settled = k.settled;
      enough = omega (arith, k.number);
      each = front first h 0 count k.records k.each;
    }

    abbrev pub none_kept : (h h' : List (Taken A)) → AreKept seen may_leave head stored first h 0
        → AreKept seen may_leave head stored first h' 0
    none_kept h h' k = record {
      log = k.log;
      records = k.records;
      settled = k.settled;
      enough = k.enough;
      each = tt;
    }

    abbrev pub kept_on : (h h' : List (Taken A)) (count : ℕ)
        → ((k : ℕ) (entry : Entry) → IsRecordOf first h k entry → IsRecordOf first h' k entry)
        → AreKept seen may_leave head stored first h count → AreKept seen may_leave head stored first h' count
    kept_on h h' count moves k = record {
      log = k.log;
      records = k.records;
      settled = k.settled;
      enough = k.enough;
      each = each_moves first h h' moves 0 (take count k.records) k.each;
    }

    -- by a shorter history, of so many pushes as are done in it
    abbrev pub kept_back : (h h' : List (Taken A)) (count rests done : ℕ) → rests ≤ count → rests ≤ done
        → ((k : ℕ) (entry : Entry) → k < done → IsRecordOf first h k entry → IsRecordOf first h' k entry)
        → AreKept seen may_leave head stored first h count → AreKept seen may_leave head stored first h' rests
    kept_back h h' count rests done low few moves k =
        let all : rests ≤ length k.records = omega (arith, low, k.enough) in
        record {
          log = k.log;
          records = k.records;
          settled = k.settled;
          enough = all;
          each = each_moves_below first h h' done moves 0 (take rests k.records)
              (omega (arith, length-front rests k.records all, few))
              (fewer first h 0 rests count k.records low k.each);
        }

    -- a log that has the same records
    pub keeps_same : (h : List (Taken A)) (count : ℕ) (log log' : Log D)
        → (k : KeepsRecords seen may_leave head stored first h count log)
        → IsSettled seen may_leave head (stored ++ k.records) log'
        → KeepsRecords seen may_leave head stored first h count log'
    keeps_same h count log log' k settled =
        record { records = k.records; settled = settled; each = k.each; number = k.number }
