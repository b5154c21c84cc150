-- What a part, a cut and an end mark do to a row, whatever parts its staged list stands for.
use Rattle.std.proofs.Common.{ℕ, Bool, true, false, true≢false, ◌≡◌, ◌==◌, ◌<◌, ◌^◌, List, [], ◌∷◌, ◌++◌}
use Rattle.std.proofs.Common.{length, refl, sym, ap, subst, arith, Ok, Err}
use Rattle.std.specs.Bool.{OnTrue, OnFalse}
use Rattle.std.proofs.lemmas.Bool.Decides.{nat_tests}
use Rattle.hg_types.specs.declared.part.Part.{Part}
use Rattle.hg_parts.specs.declared.item.What.TheVariants.{Part as a_part, End, Cut}
use Rattle.hg_parts.specs.declared.item.CutReason.{CutReason}
use Rattle.hg_parts.specs.declared.prepared.Prepared.{Prepared}
use Rattle.hg_parts.specs.Prepared.{IsMadeOf}
use Rattle.hg_push.specs.declared.outcome.Reason.{Reason}
use Rattle.hg_push.specs.declared.outcome.Reason.TheVariants.{Refused, Cut as cut, WrongIndex, NoMemory}
use Rattle.hg_push.specs.declared.outcome.Outcome.TheVariants.{Done, Aborted}
use Rattle.hg_push.specs.declared.row.Row.{Row}
use Rattle.hg_push.specs.declared.row.State.TheVariants.{Open, Closed}
use Rattle.hg_push.specs.History.{Running, Serial}
use Rattle.hg_repo.specs.Replies.{AreReplies}
use Rattle.hg_push.specs.Reply.{CanBeSent}
use Rattle.hg_push.specs.Rows.{Stages}
use Rattle.hg_push.specs.code.Rows.{is_no_memory, staged_in, EndsAs, StepsRow}

-- a list stands for as many parts as it has
pub staged_count : {A : Type 0} (parts : List (Part A)) (staged : List (Prepared A)) → Stages staged parts
    → length parts ≡ length staged
staged_count [] [] made = refl
staged_count [] (one ∷ others) made = absurd made
staged_count (part ∷ parts) [] made = absurd made
staged_count (part ∷ parts) (one ∷ others) made = let rest = staged_count parts others made.1 in
    omega (arith, rest)

-- one part more
pub staged_more : {A : Type 0} (parts : List (Part A)) (staged : List (Prepared A)) (part : Part A)
    (prepared : Prepared A)
    → Stages staged parts → IsMadeOf part prepared → Stages (staged ++ prepared ∷ []) (parts ++ part ∷ [])
staged_more [] [] part prepared made last = (last, tt)
staged_more [] (one ∷ others) part prepared made last = absurd made
staged_more (first ∷ parts) [] part prepared made last = absurd made
staged_more (first ∷ parts) (one ∷ others) part prepared made last =
    (made.0, staged_more parts others part prepared made.1 last)

module _ {A R D E : Type 0} (run : Running A R D E) (old : Serial R) (row row' : Row D E A) where
  -- a part that is staged
  pub part_staged : (index : ℕ) (part : Part A) (prepared : Prepared A) → row'.push ≡ row.push
      → IsMadeOf part prepared
      → row'.state ≡ Open (staged_in row.state ++ prepared ∷ [])
      → StepsRow run old row (record {
        item = record { push = row.push; index = index; what = a_part part };
        refused = false;
      }) old row'
  part_staged index part prepared same made is = record {
    push = same;
    steps = λ ps staged. record {
      may = λ t. absurd (true≢false (sym t));
      state = refl;
      told = rw is (refl, staged_more ps (staged_in row.state) part prepared staged made);
    };
  }

  -- a part that memory was refused for
  pub part_refused : (index : ℕ) (part : Part A) → row'.push ≡ row.push
      → row'.state ≡ Closed (Aborted NoMemory)
      → StepsRow run old row (record {
        item = record { push = row.push; index = index; what = a_part part };
        refused = true;
      }) old row'
  part_refused index part same is = record {
    push = same;
    steps = λ ps staged. record { may = λ t. refl; state = refl; told = rw is refl };
  }

  -- a cut
  pub push_cut : (index : ℕ) (reason : CutReason) → row'.push ≡ row.push
      → row'.state ≡ Closed (Aborted (cut reason))
      → StepsRow run old row (record {
        item = record { push = row.push; index = index; what = Cut reason };
        refused = false;
      }) old row'
  push_cut index reason same is = record {
    push = same;
    steps = λ ps staged. record { may = λ t. absurd (true≢false (sym t)); state = refl; told = rw is refl };
  }

  -- a part that was prepared, and then staged or not
  pub part_taken : (index : ℕ) (part : Part A) (prepared : Prepared A) (refused : Bool) → row'.push ≡ row.push
      → IsMadeOf part prepared
      → OnFalse refused (row'.state ≡ Open (staged_in row.state ++ prepared ∷ []))
      → OnTrue refused (row'.state ≡ Closed (Aborted NoMemory))
      → StepsRow run old row (record {
        item = record { push = row.push; index = index; what = a_part part };
        refused = refused;
      }) old row'
  part_taken index part prepared true same made ok err = part_refused index part same err
  part_taken index part prepared false same made ok err = part_staged index part prepared same made ok

  -- an end mark whose run is done
  pub push_done : (index : ℕ) (done : D) (new : Serial R) → row'.push ≡ row.push
      → row'.state ≡ Closed (Done done) → new.journal ≡ old.journal ++ row.push ∷ []
      → ((ps : List (Part A)) → Stages (staged_in row.state) ps
      → EndsAs run old.repo ps index (Ok done) new.repo)
      → StepsRow run old row (record {
        item = record { push = row.push; index = index; what = End };
        refused = false;
      }) new row'
  push_done index done new same is journal ends = record {
    push = same;
    steps = λ ps staged.
        let ended = ends ps staged in
        let counted : (index == length ps) ≡ true = grind (arith, nat_tests, ended.0) in
        record {
          may = λ t. absurd (true≢false (sym t));
          state = rw (counted, ended.1)
              (ap (λ (j : List ℕ). record { repo = new.repo; journal = j }) journal);
          told = rw (counted, ended.1, is) refl;
        };
  }

  -- an end mark that aborts its push
  pub push_aborted : (index : ℕ) (reason : Reason E) (new : Serial R) (refused : Bool) → row'.push ≡ row.push
      → row'.state ≡ Closed (Aborted reason)
      → new.journal ≡ old.journal → refused ≡ is_no_memory reason
      → ((ps : List (Part A)) → Stages (staged_in row.state) ps
      → EndsAs run old.repo ps index (Err reason) new.repo)
      → StepsRow run old row (record {
        item = record { push = row.push; index = index; what = End };
        refused = refused;
      }) new row'
  push_aborted index reason new refused same is journal told ends =
      subst (λ (b : Bool). StepsRow run old row
      (record { item = record { push = row.push; index = index; what = End }; refused = b }) new row')
      (sym told) (aborted_by reason is ends)
    where
      no_more : new.repo ≡ old.repo → new ≡ old
      no_more same_repo = λ i. record { repo = same_repo i; journal = journal i }

      aborted_by : (reason : Reason E) → row'.state ≡ Closed (Aborted reason)
          → ((ps : List (Part A)) → Stages (staged_in row.state) ps
          → EndsAs run old.repo ps index (Err reason) new.repo)
          → StepsRow run old row (record {
            item = record { push = row.push; index = index; what = End };
            refused = is_no_memory reason;
          }) new row'
      aborted_by NoMemory is ends = record {
        push = same;
        steps = λ ps staged. let ended = ends ps staged in
            record {
              may = λ t. grind (arith, nat_tests, ended.0);
              state = no_more ended.1;
              told = rw is refl;
            };
      }
      aborted_by (Refused e) is ends = record {
        push = same;
        steps = λ ps staged.
            let ended = ends ps staged in
            let counted : (index == length ps) ≡ true = grind (arith, nat_tests, ended.0) in
            record {
              may = λ t. absurd (true≢false (sym t));
              state = rw (counted, ended.1) (no_more ended.2);
              told = rw (counted, ended.1, is) refl;
            };
      }
      aborted_by WrongIndex is ends = record {
        push = same;
        steps = λ ps staged.
            let ended = ends ps staged in
            let counted : (index == length ps) ≡ false = grind (arith, nat_tests, ended.0) in
            record {
              may = λ t. absurd (true≢false (sym t));
              state = rw counted (no_more ended.1);
              told = rw (counted, is) refl;
            };
      }
      aborted_by (cut reason) is ends = record { push = same; steps = λ ps staged. absurd (ends ps staged) }

-- the replies of a run of so many parts can be sent
pub can_be_sent : {A : Type 0} (count : ℕ) (replies : List (Part A)) → AreReplies count replies
    → count < 2 ^ 32 → CanBeSent replies
can_be_sent count replies are few = record {
  parts = λ k d low. record {
    header = are.writable k d low;
    payload = omega (arith, ap length (are.bare k d low));
  };
  count = omega (arith, are.few, few);
}
