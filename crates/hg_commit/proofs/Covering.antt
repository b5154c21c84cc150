-- What a receipt covers, as the journal goes on and as receipts are joined.
use Rattle.std.proofs.Common.{ℕ, ◌≡◌, ◌≤◌, ◌<◌, List, ◌++◌, refl, sym, subst, arith}
use Rattle.std.specs.Prelude.{Contains}
use Rattle.std.proofs.lemmas.List.Elements.{Contains-append_right}
use Rattle.hg_parts.specs.declared.item.Taken.{Taken}
use Rattle.hg_store.specs.Entries.{Entry}
use Rattle.hg_store.specs.declared.head.Head.{Head}
use Rattle.hg_store.specs.declared.log.Log.{Log}
use Rattle.hg_push.specs.Run.{RepositoryOf}
use Rattle.hg_commit.specs.Clients.{Covers, IsCovered, KeptSeen}
use Rattle.hg_commit.specs.Orders.{AreSeen}
use Rattle.hg_commit.specs.Promises.{Promise}
use Rattle.hg_commit.specs.Records.{IsRecordOf, KeepsRecords}
use Rattle.hg_commit.proofs.Keeping.{are_kept, kept_back, kept_on, none_kept}

module _ {A D : Type 0} (seen : D → List ℕ) (may_leave : D → List ℕ → Type 0) (moment : D → ℕ) (head : Head)
    (stored : List Entry) (first : RepositoryOf A)
  where
    pub covers : (h : List (Taken A)) (count write beats : ℕ) (log : Log D) (receipt : List Promise)
        → KeepsRecords seen may_leave head stored first h count log
        → Contains receipt (record { count = count; moment = moment log.device; write = write; beats = beats })
        → Covers seen may_leave moment head stored first h receipt count
    covers h count write beats log receipt k has = record {
      kept = are_kept seen may_leave head stored first h count log k;
      promise = record { count = count; moment = moment log.device; write = write; beats = beats };
      has = has;
      counts = omega arith;
      reached = refl;
    }

    pub covered_on : (h h' : List (Taken A)) (receipt : List Promise) (count : ℕ)
        → ((k : ℕ) (entry : Entry) → IsRecordOf first h k entry → IsRecordOf first h' k entry)
        → Covers seen may_leave moment head stored first h receipt count
        → Covers seen may_leave moment head stored first h' receipt count
    covered_on h h' receipt count moves c = record {
      kept = kept_on seen may_leave head stored first h h' count moves c.kept;
      promise = c.promise;
      has = c.has;
      counts = c.counts;
      reached = c.reached;
    }

    pub covered_none : (h h' : List (Taken A)) (receipt : List Promise)
        → Covers seen may_leave moment head stored first h receipt 0
        → Covers seen may_leave moment head stored first h' receipt 0
    covered_none h h' receipt c = record {
      kept = none_kept seen may_leave head stored first h h' c.kept;
      promise = c.promise;
      has = c.has;
      counts = c.counts;
      reached = c.reached;
    }

    -- by a shorter history, of so many pushes as are done in it
    pub covered_back : (h h' : List (Taken A)) (receipt : List Promise) (count rests done : ℕ) → rests ≤ count
        → rests ≤ done
        → ((k : ℕ) (entry : Entry) → k < done → IsRecordOf first h k entry → IsRecordOf first h' k entry)
        → Covers seen may_leave moment head stored first h receipt count
        → Covers seen may_leave moment head stored first h' receipt rests
    covered_back h h' receipt count rests done low few moves c = record {
      kept = kept_back seen may_leave head stored first h h' count rests done low few moves c.kept;
      promise = c.promise;
      has = c.has;
      counts = omega (arith, low, c.counts);
      reached = c.reached;
    }

    -- a receipt was joined to another
    pub covered_joined : (h : List (Taken A)) (held receipt : List Promise) (rests : ℕ)
        → Covers seen may_leave moment head stored first h receipt rests
        → Covers seen may_leave moment head stored first h (held ++ receipt) rests
    covered_joined h held receipt rests c = record {
      kept = c.kept;
      promise = c.promise;
      has = Contains-append_right held receipt c.promise c.has;
      counts = c.counts;
      reached = c.reached;
    }

    -- and so of the client that has it then
    pub covered_by : (h : List (Taken A)) (held receipt : List Promise) (now : KeptSeen A) (rests : ℕ)
        → now.history ≡ h → now.receipt.promises ≡ held ++ receipt
        → AreSeen now.receipt
        → Covers seen may_leave moment head stored first h receipt rests
        → IsCovered seen may_leave moment head stored first now rests
    covered_by h held receipt now rests same both stands c = record {
      covers = subst (λ (x : List (Taken A) × List Promise). Covers seen may_leave moment head stored first x.0 x.1
          rests) (λ i. (sym same i, sym both i)) (covered_joined h held receipt rests c);
      stands = stands;
    }
