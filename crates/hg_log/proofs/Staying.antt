-- Rows stay lawful where an entry is answered, and each good answer leaves what it tells.
use Rattle.std.proofs.Common.{◌≡◌, Bool, true, false, cond, not, leb, List, [], ◌∷◌, ◌++◌, length, Result, Ok}
use Rattle.std.proofs.Common.{Err, IfOk, refl, inl, inr}
use Rattle.std.specs.Prelude.{ℕ, bytes_eq, ◌&&◌, Decides}
use Rattle.std.proofs.lemmas.Slice.Eq.{bytes_eq-Decides}
use Rattle.hg_types.specs.declared.entry.Entry.{Entry}
use Rattle.hg_log.specs.declared.add.Added.{Added}
use Rattle.hg_log.specs.declared.add.Added.TheVariants.{Known}
use Rattle.hg_log.specs.declared.add.AddFault.{AddFault}
use Rattle.hg_log.specs.declared.add.AddFault.TheVariants.{UnknownParent, HashMismatch, TooMany}
use Rattle.hg_log.specs.NodeId.{node_id_of}
use Rattle.hg_log.specs.Changeset.{Changeset, Log}
use Rattle.hg_log.specs.Rows.{IsKnown, IsEarlier, AreLawful}
use Rattle.hg_log.specs.Add.{HasParentsIn, Agrees, row_of, AddLeaves}
use Rattle.hg_log.specs.Answer.{◌>>=◌, is_known, text_of, checked_row, new_row, answered, answer_of}
use Rattle.hg_log.proofs.Answering.{is_known-Decides}
use Rattle.hg_log.proofs.RowLemmas.{has_within, lawful_pushed, lacks_unknown}

-- what an answer keeps, and what it leaves
abbrev pub Stays : {A : Type 0} → Log → Entry A → Result Added AddFault × Log → Type 0
Stays log entry answer = (AreLawful log.rows → AreLawful answer.1.rows)
    × IfOk answer.0 (λ added. AddLeaves log entry added answer.1)

-- a known id is null, or that of a row before the next one
earlier : (rows : List Changeset) (node : List ℕ) → IsKnown rows node → IsEarlier rows (length rows) node
earlier rows node (inl null) = inl null
earlier rows node (inr (rev, has)) = inr (rev, has_within rows rev node has, has)

lawful_new : {A : Type 0} (log : Log) (entry : Entry A) (text : List ℕ) → HasParentsIn log.rows entry →
    Agrees entry text → AreLawful log.rows → AreLawful (log.rows ++ row_of entry text ∷ [])
lawful_new log entry text parents agrees lawful =
    lawful_pushed log.rows (row_of entry text) lawful (lacks_unknown log.rows entry.node.0 parents.unknown)
    (record {
      hash = agrees;
      not_null = λ null. parents.unknown (inl null);
      p1 = earlier log.rows entry.p1.0 parents.p1;
      p2 = earlier log.rows entry.p2.0 parents.p2;
    })

at_text : {A : Type 0} (log : Log) (entry : Entry A) (text : List ℕ) → HasParentsIn log.rows entry →
    Stays log entry (answered log (checked_row log entry text))
unfolding checked_row
at_text log entry text parents =
    by (bytes_eq entry.node.0 (node_id_of entry.p1.0 entry.p2.0 text))
    (leb log.limits.revisions (length log.rows)) refl
  where
    by : (a b : Bool) → bytes_eq entry.node.0 (node_id_of entry.p1.0 entry.p2.0 text) ≡ a
        → Stays log entry
        (answered log (cond (not a) (Err HashMismatch) (cond b (Err TooMany) (Ok (row_of entry text)))))
    by false b other = (λ lawful. lawful, tt)
    by true true same = (λ lawful. lawful, tt)
    by true false same = (
      lawful_new log entry text parents
          ((bytes_eq-Decides _ _).0 same),
      record { next = refl; text = text; appended = refl },
    )

with_text : {A : Type 0} (log : Log) (entry : Entry A) (text : Result (List ℕ) AddFault) →
    HasParentsIn log.rows entry → Stays log entry (answered log (text >>= checked_row log entry))
with_text log entry (Ok text) parents = at_text log entry text parents
with_text log entry (Err fault) parents = (λ lawful. lawful, tt)

at_new : {A : Type 0} (log : Log) (entry : Entry A) → ¬ (IsKnown log.rows entry.node.0) →
    Stays log entry (answered log (new_row log entry))
unfolding new_row
at_new log entry unknown =
    by (is_known log.rows entry.p1.0) (is_known log.rows entry.p2.0) (is_known-Decides log.rows entry.p1.0)
    (is_known-Decides log.rows entry.p2.0)
  where
    by : (a b : Bool) → Decides a (IsKnown log.rows entry.p1.0) → Decides b (IsKnown log.rows entry.p2.0)
        → Stays log entry
        (answered log (cond (not (a && b)) (Err UnknownParent)
        (text_of log entry >>= checked_row log entry)))
    by true true p1 p2 =
        with_text log entry (text_of log entry) (record { unknown = unknown; p1 = p1.0 refl; p2 = p2.0 refl })
    by true false p1 p2 = (λ lawful. lawful, tt)
    by false b p1 p2 = (λ lawful. lawful, tt)

stays : {A : Type 0} (log : Log) (entry : Entry A) → Stays log entry (answer_of log entry)
unfolding answer_of
stays log entry = by (is_known log.rows entry.node.0) (is_known-Decides log.rows entry.node.0)
  where
    by : (b : Bool) → Decides b (IsKnown log.rows entry.node.0) →
        Stays log entry (cond b (Ok Known, log) (answered log (new_row log entry)))
    by true is = (λ lawful. lawful, (is.0 refl, refl))
    by false is = at_new log entry (λ known. let yes = is.1 known in absurd cc)

pub stay_lawful : {A : Type 0} (log : Log) (entry : Entry A) → AreLawful log.rows →
    AreLawful (answer_of log entry).1.rows
stay_lawful log entry = (stays log entry).0

pub leaves_told : {A : Type 0} (log : Log) (entry : Entry A) →
    IfOk (answer_of log entry).0 (λ added. AddLeaves log entry added (answer_of log entry).1)
leaves_told log entry = (stays log entry).1
