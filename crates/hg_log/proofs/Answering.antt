-- The answer as a value: it is one by the relation, and no other is.
use Rattle.std.proofs.Common.{◌≡◌, ◌≢◌, ℕ, zero, suc, ◌<◌, ◌≤◌, Bool, true, false, cond, not, leb, List, []}
use Rattle.std.proofs.Common.{◌∷◌, length, slice_get, Option, Some, None, is_some, option_map, ok_or, Result}
use Rattle.std.proofs.Common.{Ok, Err, refl, sym, ap, subst, ◌∙◌, inl, inr}
use Rattle.std.specs.Prelude.{bytes_eq, ◌&&◌, Decides}
use Rattle.std.proofs.lemmas.Bool.{leb-true, leb-false, le-leb, lt-leb}
use Rattle.std.proofs.lemmas.Slice.Eq.{bytes_eq-Decides}
use Rattle.hg_types.specs.declared.entry.Entry.{Entry}
use Rattle.hg_types.specs.Bytes.{IsBytes}
use Rattle.hg_types.specs.NullId.{null_id}
use Rattle.hg_delta.specs.declared.fault.DeltaFault.{DeltaFault}
use Rattle.hg_delta.specs.Faults.{IsOutcome}
use Rattle.hg_delta.specs.Outcome.{outcome_of}
use Rattle.hg_log.specs.declared.add.Added.{Added}
use Rattle.hg_log.specs.declared.add.Added.TheVariants.{New, Known}
use Rattle.hg_log.specs.declared.add.AddFault.{AddFault}
use Rattle.hg_log.specs.declared.add.AddFault.TheVariants.{UnknownParent, UnknownBase, Delta, HashMismatch}
use Rattle.hg_log.specs.declared.add.AddFault.TheVariants.{TooMany}
use Rattle.hg_log.specs.NodeId.{node_id_of}
use Rattle.hg_log.specs.Changeset.{Changeset, Log}
use Rattle.hg_log.specs.Rows.{HasNode, IsKnown, AreLawful}
use Rattle.hg_log.specs.Add.{IsBase, HasParentsIn, HasOutcome, Agrees, row_of, with_row, IsAnswer}
use Rattle.hg_log.specs.Add.IsAnswer.{known, unknown_parent, unknown_base, bad_delta, mismatch, too_many}
use Rattle.hg_log.specs.Add.IsAnswer.{added}
use Rattle.hg_log.specs.Answer.{◌>>=◌, row_by_id, text_by_id, is_known, told_text, text_of, checked_row}
use Rattle.hg_log.specs.Answer.{new_row, answered, answer_of}
use Rattle.hg_log.proofs.RowLemmas.{same_rev, not_null}

-- ---- look-ups

differ : (a b : List ℕ) → bytes_eq a b ≡ false → a ≢ b
differ a b other same = let equal = (bytes_eq-Decides a b).1 same in cc

-- a row that is found
record IsFound (rows : List Changeset) (node : List ℕ) (row : Changeset) : Type 0 where
  rev : ℕ
  at : slice_get rows rev ≡ Some row
  node_is : row.node ≡ node

found : (rows : List Changeset) (node : List ℕ) (row : Changeset) → row_by_id rows node ≡ Some row
    → IsFound rows node row
found [] node row is = absurd cc
found (first ∷ rows) node row is = by (bytes_eq first.node node) refl is (found rows node row)
  where
    by : (b : Bool) → bytes_eq first.node node ≡ b → cond b (Some first) (row_by_id rows node) ≡ Some row
        → (row_by_id rows node ≡ Some row → IsFound rows node row) → IsFound (first ∷ rows) node row
    by true same here later =
        let e : first ≡ row = cc in
        record {
          rev = zero;
          at = here;
          node_is = ap (λ (r : Changeset). r.node) (sym e)
              ∙ (bytes_eq-Decides first.node node).0 same;
        }
    by false other there later =
        let f = later there in record { rev = suc f.rev; at = f.at; node_is = f.node_is }

missing : (rows : List Changeset) (node : List ℕ) (rev : ℕ) → row_by_id rows node ≡ None
    → HasNode rows rev node → ⊥
missing [] node rev is has = let at = has.row_at in cc
missing (first ∷ rows) node zero is has = by (bytes_eq first.node node) refl is
  where
    by : (b : Bool) → bytes_eq first.node node ≡ b → cond b (Some first) (row_by_id rows node) ≡ None → ⊥
    by true same some = absurd cc
    by false other none =
        let at = has.row_at in
        let e : first ≡ has.row = cc in
        differ first.node node other (ap (λ (r : Changeset). r.node) e ∙ has.node_is)
missing (first ∷ rows) node (suc rev) is has =
    by (bytes_eq first.node node) is
    (λ none. missing rows node rev none
    (record { row = has.row; row_at = has.row_at; node_is = has.node_is }))
  where
    by : (b : Bool) → cond b (Some first) (row_by_id rows node) ≡ None → (row_by_id rows node ≡ None → ⊥) → ⊥
    by true some later = absurd cc
    by false none later = later none

-- what the text of an id says
abbrev TellsBase : List Changeset → List ℕ → Option (List ℕ) → Type 0
TellsBase rows node (Some text) = IsBase rows node text
TellsBase rows node None = ¬ (IsKnown rows node)

text_tells : (rows : List Changeset) (node : List ℕ) → TellsBase rows node (text_by_id rows node)
unfolding text_by_id
text_tells rows node = by (bytes_eq node null_id) (row_by_id rows node) refl refl
  where
    by : (b : Bool) (o : Option Changeset) → bytes_eq node null_id ≡ b → row_by_id rows node ≡ o
        → TellsBase rows node (cond b (Some []) (option_map (λ row. row.text) o))
    by true o null at = inl ((bytes_eq-Decides node null_id).0 null, refl)
    by false (Some row) other at =
        let f = found rows node row at in
        inr (
          f.rev,
          record { row = row; row_at = f.at; node_is = f.node_is },
          record { row = row; row_at = f.at; text_is = refl },
        )
    by false None other none =
        λ is. elim is as (λ _. ⊥) [
          | inl null ↦ differ node null_id other null
          | inr (rev, has) ↦ missing rows node rev none has
        ]

base_known : (rows : List Changeset) (node text : List ℕ) → IsBase rows node text → IsKnown rows node
base_known rows node text (inl is) = inl is.0
base_known rows node text (inr is) = inr (is.0, is.1)

base_once : (rows : List Changeset) (node a b : List ℕ) → AreLawful rows → IsBase rows node a
    → IsBase rows node b → a ≡ b
base_once rows node a b lawful (inl p) (inl q) = p.1 ∙ sym q.1
base_once rows node a b lawful (inl p) (inr q) =
    absurd (not_null rows q.0 lawful (subst (HasNode rows q.0) p.0 q.1))
base_once rows node a b lawful (inr p) (inl q) =
    absurd (not_null rows p.0 lawful (subst (HasNode rows p.0) q.0 p.1))
base_once rows node a b lawful (inr p) (inr q) =
    let same : p.0 ≡ q.0 = same_rev rows p.0 q.0 node lawful p.1 q.1 in
    let one = p.2 in
    let two = q.2 in
    let at : slice_get rows p.0 ≡ Some two.row = ap (slice_get rows) same ∙ two.row_at in
    let row : one.row ≡ two.row = let here = one.row_at in cc in
    sym one.text_is ∙ (ap (λ (r : Changeset). r.text) row ∙ two.text_is)

base_is : (rows : List Changeset) (node text : List ℕ) → AreLawful rows → IsBase rows node text
    → text_by_id rows node ≡ Some text
base_is rows node text lawful is = by (text_by_id rows node) (text_tells rows node)
  where
    by : (o : Option (List ℕ)) → TellsBase rows node o → o ≡ Some text
    by (Some other) tells = ap (λ (t : List ℕ). Some t) (base_once rows node other text lawful tells is)
    by None unknown = absurd (unknown (base_known rows node text is))

unknown_is : (rows : List Changeset) (node : List ℕ) → ¬ (IsKnown rows node) → text_by_id rows node ≡ None
unknown_is rows node unknown = by (text_by_id rows node) (text_tells rows node)
  where
    by : (o : Option (List ℕ)) → TellsBase rows node o → o ≡ None
    by (Some text) tells = absurd (unknown (base_known rows node text tells))
    by None tells = refl

pub is_known-Decides : (rows : List Changeset) (node : List ℕ)
    → Decides (is_known rows node) (IsKnown rows node)
is_known-Decides rows node = by (text_by_id rows node) (text_tells rows node)
  where
    by : (o : Option (List ℕ)) → TellsBase rows node o → Decides (is_some o) (IsKnown rows node)
    by (Some text) tells = (λ _. base_known rows node text tells, λ _. refl)
    by None unknown = (λ yes. absurd cc, λ is. absurd (unknown is))

-- ---- the value, where it is known what decides

pub answer_known : {A : Type 0} (log : Log) (entry : Entry A) → IsKnown log.rows entry.node.0
    → (Ok Known, log) ≡ answer_of log entry
unfolding answer_of
answer_known log entry is =
    ap (λ (b : Bool). cond b (Ok Known, log) (answered log (new_row log entry)))
    (sym ((is_known-Decides log.rows entry.node.0).1 is))

fails : (b : Bool) (P : Type 0) → Decides b P → ¬ P → false ≡ b
fails true P decides none = absurd (none (decides.0 refl))
fails false P decides none = refl

answer_new : {A : Type 0} (log : Log) (entry : Entry A) → ¬ (IsKnown log.rows entry.node.0)
    → answered log (new_row log entry) ≡ answer_of log entry
unfolding answer_of
answer_new log entry unknown =
    ap (λ (b : Bool). cond b (Ok Known, log) (answered log (new_row log entry)))
    (fails (is_known log.rows entry.node.0) (IsKnown log.rows entry.node.0)
    (is_known-Decides log.rows entry.node.0) unknown)

row_no_parents : {A : Type 0} (log : Log) (entry : Entry A)
    → ¬ (IsKnown log.rows entry.p1.0 × IsKnown log.rows entry.p2.0) → Err UnknownParent ≡ new_row log entry
unfolding new_row
row_no_parents log entry lacks =
    by (is_known log.rows entry.p1.0) (is_known log.rows entry.p2.0) (is_known-Decides log.rows entry.p1.0)
    (is_known-Decides log.rows entry.p2.0)
  where
    by : (a b : Bool) → Decides a (IsKnown log.rows entry.p1.0) → Decides b (IsKnown log.rows entry.p2.0)
        → Err UnknownParent ≡ cond (not (a && b)) (Err UnknownParent) (text_of log entry
        >>= checked_row log entry)
    by true true p1 p2 = absurd (lacks (p1.0 refl, p2.0 refl))
    by true false p1 p2 = refl
    by false b p1 p2 = refl

pub answer_no_parents : {A : Type 0} (log : Log) (entry : Entry A) → ¬ (IsKnown log.rows entry.node.0)
    → ¬ (IsKnown log.rows entry.p1.0 × IsKnown log.rows entry.p2.0)
    → (Err UnknownParent, log) ≡ answer_of log entry
answer_no_parents log entry unknown lacks = ap (answered log) (row_no_parents log entry lacks)
    ∙ answer_new log entry unknown

row_of_text : {A : Type 0} (log : Log) (entry : Entry A) → HasParentsIn log.rows entry
    → (text_of log entry >>= checked_row log entry) ≡ new_row log entry
unfolding new_row
row_of_text log entry parents =
    by (is_known log.rows entry.p1.0) (is_known log.rows entry.p2.0) (is_known-Decides log.rows entry.p1.0)
    (is_known-Decides log.rows entry.p2.0)
  where
    by : (a b : Bool) → Decides a (IsKnown log.rows entry.p1.0) → Decides b (IsKnown log.rows entry.p2.0)
        → (text_of log entry >>= checked_row log entry) ≡ cond (not (a && b)) (Err UnknownParent)
        (text_of log entry >>= checked_row log entry)
    by true true p1 p2 = refl
    by true false p1 p2 = absurd (let yes = p2.1 parents.p2 in cc)
    by false b p1 p2 = absurd (let yes = p1.1 parents.p1 in cc)

pub text_no_base : {A : Type 0} (log : Log) (entry : Entry A) → ¬ (IsKnown log.rows entry.base.0)
    → Err UnknownBase ≡ text_of log entry
unfolding text_of
text_no_base log entry unknown =
    ap (λ (o : Option (List ℕ)). ok_or o UnknownBase
    >>= λ base. told_text (outcome_of base entry.delta log.limits.text))
    (sym (unknown_is log.rows entry.base.0 unknown))

pub text_on_base : {A : Type 0} (log : Log) (entry : Entry A) (base : List ℕ) → AreLawful log.rows
    → IsBase log.rows entry.base.0 base
    → told_text (outcome_of base entry.delta log.limits.text) ≡ text_of log entry
unfolding text_of
text_on_base log entry base lawful is =
    ap (λ (o : Option (List ℕ)). ok_or o UnknownBase
    >>= λ text. told_text (outcome_of text entry.delta log.limits.text))
    (sym (base_is log.rows entry.base.0 base lawful is))

-- the answer at a text or its fault
answer_at : {A : Type 0} (log : Log) (entry : Entry A) (text : Result (List ℕ) AddFault)
    → HasParentsIn log.rows entry → text ≡ text_of log entry
    → answered log (text >>= checked_row log entry) ≡ answer_of log entry
answer_at log entry text parents is =
    ap (λ (t : Result (List ℕ) AddFault). answered log (t >>= checked_row log entry)) is
    ∙ (ap (answered log) (row_of_text log entry parents) ∙ answer_new log entry parents.unknown)

pub answer_no_text : {A : Type 0} (log : Log) (entry : Entry A) (fault : AddFault)
    → HasParentsIn log.rows entry → Err fault ≡ text_of log entry → (Err fault, log) ≡ answer_of log entry
answer_no_text log entry fault parents is = answer_at log entry (Err fault) parents is

pub answer_mismatch : {A : Type 0} (log : Log) (entry : Entry A) (text : List ℕ) → HasParentsIn log.rows entry
    → Ok text ≡ text_of log entry → ¬ (Agrees entry text) → (Err HashMismatch, log) ≡ answer_of log entry
unfolding checked_row
answer_mismatch log entry text parents is other =
    ap (λ (b : Bool). answered log
    (cond (not b) (Err HashMismatch)
    (cond (leb log.limits.revisions (length log.rows)) (Err TooMany) (Ok (row_of entry text)))))
    (fails (bytes_eq entry.node.0 (node_id_of entry.p1.0 entry.p2.0 text)) (Agrees entry text)
    (bytes_eq-Decides entry.node.0 (node_id_of entry.p1.0 entry.p2.0 text)) other)
    ∙ answer_at log entry (Ok text) parents is

-- where the id agrees with the hash
answer_checked : {A : Type 0} (log : Log) (entry : Entry A) (text : List ℕ) → HasParentsIn log.rows entry
    → Ok text ≡ text_of log entry → Agrees entry text
    → answered log (cond (leb log.limits.revisions (length log.rows)) (Err TooMany)
    (Ok (row_of entry text))) ≡ answer_of log entry
unfolding checked_row
answer_checked log entry text parents is same =
    ap (λ (b : Bool). answered log
    (cond (not b) (Err HashMismatch)
    (cond (leb log.limits.revisions (length log.rows)) (Err TooMany) (Ok (row_of entry text)))))
    (sym ((bytes_eq-Decides entry.node.0 (node_id_of entry.p1.0 entry.p2.0 text)).1 same))
    ∙ answer_at log entry (Ok text) parents is

pub answer_too_many : {A : Type 0} (log : Log) (entry : Entry A) (text : List ℕ) → HasParentsIn log.rows entry
    → Ok text ≡ text_of log entry → Agrees entry text → log.limits.revisions ≤ length log.rows
    → (Err TooMany, log) ≡ answer_of log entry
answer_too_many log entry text parents is same full =
    ap (λ (b : Bool). answered log (cond b (Err TooMany) (Ok (row_of entry text))))
    (sym (le-leb log.limits.revisions (length log.rows) full))
    ∙ answer_checked log entry text parents is same

pub answer_added : {A : Type 0} (log : Log) (entry : Entry A) (text : List ℕ) → HasParentsIn log.rows entry
    → Ok text ≡ text_of log entry → Agrees entry text → length log.rows < log.limits.revisions
    → (Ok (New (length log.rows)), with_row log (row_of entry text)) ≡ answer_of log entry
answer_added log entry text parents is same room =
    ap (λ (b : Bool). answered log (cond b (Err TooMany) (Ok (row_of entry text))))
    (sym (lt-leb log.limits.revisions (length log.rows) room))
    ∙ answer_checked log entry text parents is same

-- ---- it is an answer by the relation

abbrev IsAnswered : {A : Type 0} → Log → Entry A → Result Changeset AddFault → Type 0
IsAnswered log entry row = IsAnswer log entry (answered log row).0 (answered log row).1

text_answered : {A : Type 0} (log : Log) (entry : Entry A) (text : List ℕ) → HasOutcome log entry (Ok text)
    → IsAnswered log entry (checked_row log entry text)
unfolding checked_row
text_answered log entry text outcome =
    by (bytes_eq entry.node.0 (node_id_of entry.p1.0 entry.p2.0 text))
    (leb log.limits.revisions (length log.rows)) refl refl
  where
    by : (a b : Bool) → bytes_eq entry.node.0 (node_id_of entry.p1.0 entry.p2.0 text) ≡ a
        → leb log.limits.revisions (length log.rows) ≡ b
        → IsAnswered log entry (cond (not a) (Err HashMismatch)
        (cond b (Err TooMany) (Ok (row_of entry text))))
    by false b other _ = mismatch text outcome (differ _ _ other)
    by true true same full = too_many text outcome ((bytes_eq-Decides _ _).0 same) (leb-true _ _ full)
    by true false same room = added text outcome ((bytes_eq-Decides _ _).0 same) (leb-false _ _ room)

outcome_answered : {A : Type 0} (log : Log) (entry : Entry A) (outcome : Result (List ℕ) DeltaFault)
    → HasOutcome log entry outcome → IsAnswered log entry (told_text outcome >>= checked_row log entry)
outcome_answered log entry (Ok text) has = text_answered log entry text has
outcome_answered log entry (Err fault) has = bad_delta fault has

-- a delta of bytes has the outcome that reading it gives
abbrev pub HaveOutcomes : Type 0
HaveOutcomes = (base delta : List ℕ) (most : ℕ) → IsBytes delta
    → IsOutcome base delta most (outcome_of base delta most)

-- a delta has one outcome
abbrev pub HaveOneOutcome : Type 0
HaveOneOutcome = (base delta : List ℕ) (most : ℕ) (a b : Result (List ℕ) DeltaFault)
    → IsOutcome base delta most a → IsOutcome base delta most b → a ≡ b

module _ (every : HaveOutcomes) where
  parents_answered : {A : Type 0} (log : Log) (entry : Entry A) → IsBytes entry.delta
      → HasParentsIn log.rows entry → IsAnswered log entry (text_of log entry >>= checked_row log entry)
  unfolding text_of
  parents_answered log entry fits parents =
      by (text_by_id log.rows entry.base.0) (text_tells log.rows entry.base.0)
    where
      by : (o : Option (List ℕ)) → TellsBase log.rows entry.base.0 o
          → IsAnswered log entry ((ok_or o UnknownBase
          >>= λ base. told_text (outcome_of base entry.delta log.limits.text)) >>= checked_row log entry)
      by (Some base) is =
          let most = log.limits.text in
          outcome_answered log entry (outcome_of base entry.delta most)
          (record {
            parents = parents;
            base = base;
            base_is = is;
            outcome_is = every base entry.delta most fits;
          })
      by None unknown = unknown_base parents unknown

  new_answered : {A : Type 0} (log : Log) (entry : Entry A) → IsBytes entry.delta
      → ¬ (IsKnown log.rows entry.node.0) → IsAnswered log entry (new_row log entry)
  unfolding new_row
  new_answered log entry fits unknown =
      by (is_known log.rows entry.p1.0) (is_known log.rows entry.p2.0) (is_known-Decides log.rows entry.p1.0)
      (is_known-Decides log.rows entry.p2.0)
    where
      by : (a b : Bool) → Decides a (IsKnown log.rows entry.p1.0) → Decides b (IsKnown log.rows entry.p2.0)
          → IsAnswered log entry (cond (not (a && b)) (Err UnknownParent) (text_of log entry
          >>= checked_row log entry))
      by true true p1 p2 = parents_answered log entry fits
          (record { unknown = unknown; p1 = p1.0 refl; p2 = p2.0 refl })
      by true false p1 p2 = unknown_parent unknown (λ both. let yes = p2.1 both.1 in absurd cc)
      by false b p1 p2 = unknown_parent unknown (λ both. let yes = p1.1 both.0 in absurd cc)

  -- the answer by whether the entry is known
  abbrev decided : {A : Type 0} → Log → Entry A → Bool → Result Added AddFault × Log
  decided log entry b = cond b (Ok Known, log) (answered log (new_row log entry))

  pub has_answer : {A : Type 0} (log : Log) (entry : Entry A) → IsBytes entry.delta
      → IsAnswer log entry (answer_of log entry).0 (answer_of log entry).1
  unfolding answer_of
  has_answer log entry fits = by (is_known log.rows entry.node.0) (is_known-Decides log.rows entry.node.0)
    where
      by : (b : Bool) → Decides b (IsKnown log.rows entry.node.0)
          → IsAnswer log entry (decided log entry b).0 (decided log entry b).1
      by true is = known (is.0 refl)
      by false is = new_answered log entry fits (λ yes. let b = is.1 yes in absurd cc)

-- ---- and no other is

module _ (every : HaveOutcomes) (one : HaveOneOutcome) where
  read_text : {A : Type 0} (log : Log) (entry : Entry A) (outcome : Result (List ℕ) DeltaFault)
      → AreLawful log.rows → IsBytes entry.delta → HasOutcome log entry outcome
      → told_text outcome ≡ text_of log entry
  read_text log entry outcome lawful fits has =
      ap told_text (one has.base entry.delta log.limits.text outcome _ has.outcome_is
      (every has.base entry.delta log.limits.text fits))
      ∙ text_on_base log entry has.base lawful has.base_is

  pub answer_is : {A : Type 0} (log : Log) (entry : Entry A) (answer : Result Added AddFault) (after : Log)
      → AreLawful log.rows → IsBytes entry.delta → IsAnswer log entry answer after
      → (answer, after) ≡ answer_of log entry
  answer_is log entry answer after lawful fits (known is) = answer_known log entry is
  answer_is log entry answer after lawful fits (unknown_parent unknown lacks) =
      answer_no_parents log entry unknown lacks
  answer_is log entry answer after lawful fits (unknown_base parents lacks) =
      answer_no_text log entry UnknownBase parents (text_no_base log entry lacks)
  answer_is log entry answer after lawful fits (bad_delta fault has) =
      answer_no_text log entry (Delta fault) has.parents (read_text log entry (Err fault) lawful fits has)
  answer_is log entry answer after lawful fits (mismatch text has other) =
      answer_mismatch log entry text has.parents (read_text log entry (Ok text) lawful fits has) other
  answer_is log entry answer after lawful fits (too_many text has same full) =
      answer_too_many log entry text has.parents (read_text log entry (Ok text) lawful fits has) same full
  answer_is log entry answer after lawful fits (added text has same room) =
      answer_added log entry text has.parents (read_text log entry (Ok text) lawful fits has) same room
