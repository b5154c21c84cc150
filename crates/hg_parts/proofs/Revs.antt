-- The numbers of a changegroup's changesets, and the text of its reply.
use Rattle.std.proofs.Common.{◌≡◌, ◌≢◌, ℕ, ◌+◌, ◌-◌, ◌<◌, ◌≤◌, ◌^◌, List, [], ◌∷◌, ◌++◌, length, take}
use Rattle.std.proofs.Common.{get_or, All, Option, Some, None, IfSome, inl, inr, Bool, true, false, nat_le, map}
use Rattle.std.proofs.Common.{cond}
use Rattle.std.proofs.Common.{codes, decimal, refl, sym, ap, ◌∙◌, subst, arith}
use Rattle.std.specs.Prelude.{bytes_eq, nat_lt}
use Rattle.std.specs.List.{position_or_len}
use Rattle.std.proofs.lemmas.Bool.{cases_lt, cond_both, cond-true, lt-ltb}
use Rattle.std.proofs.lemmas.Fmt.{length-decimal-le}
use Rattle.std.proofs.lemmas.List.{length_push, take_more, append-nil, get_or_append_left, get_or_push}
use Rattle.std.proofs.lemmas.List.Elements.{filter_map-append}
use Rattle.std.proofs.lemmas.List.Sums.{position_or_len_is}
use Rattle.std.proofs.lemmas.Option.{slice_get_within, get_or_from_slice_get}
use Rattle.std.proofs.lemmas.Slice.Eq.{bytes_eq-Decides}
use Rattle.std.specs.List.{filter_map, cons_option}
use Rattle.std.specs.Option.{option_to_list}
use Rattle.hg_types.specs.declared.entry.Entry.{Entry}
use Rattle.hg_log.specs.Rows.{AreLawful, HasNode}
use Rattle.hg_log.specs.Changeset.{Changeset}
use Rattle.hg_log.specs.Parents.{parents_of, rev_of}
use Rattle.hg_types.specs.declared.node.Node.{Node}
use Rattle.hg_types.specs.declared.phase.Phase.{Phase}
use Rattle.hg_phases.specs.Phases.{advanced}
use Rattle.hg_types.specs.declared.part.Part.{Part}
use Rattle.hg_parts.specs.Replies.{reply_where}
use Rattle.hg_parts.specs.code.Replies.{CanReply}
use Rattle.hg_parts.specs.declared.source.Source.{Source}
use Rattle.hg_parts.specs.declared.source.Source.TheVariants.{Push, Seed}
use Rattle.hg_parts.specs.parts.Changegroup.{Grown, phases_after, revs_of, result_text}
use Rattle.hg_parts.specs.code.Changegroup.{AreOfSameIds}

-- what a test gives of one more
pub some_more : {X Y : Type 0} (h : X → Option Y) (xs : List X) (i : ℕ) (d : X) → i < length xs
    → filter_map h (take (i + 1) xs) ≡ filter_map h (take i xs) ++ option_to_list (h (get_or xs i d))
some_more {X} {Y} h xs i d within = ap (filter_map h) (take_more xs i d within)
    ∙ filter_map-append h (take i xs) (get_or xs i d ∷ [])
    ∙ ap (λ (ys : List Y). filter_map h (take i xs) ++ ys) (one (h (get_or xs i d)))
  where
    one : (o : Option Y) → cons_option o [] ≡ option_to_list o
    one None = refl
    one (Some y) = refl

-- the numbers of one entry more
pub revs_more : {A : Type 0} (rows : List Changeset) (entries : List (Entry A)) (i : ℕ) (entry : Entry A)
    → i < length entries → entry ≡ get_or entries i entry
    → revs_of rows (take (i + 1) entries) ≡ revs_of rows (take i entries)
    ++ option_to_list (rev_of rows entry.node.0)
unfolding revs_of
revs_more {A} rows entries i entry within here =
    some_more (λ (e : Entry A). rev_of rows e.node.0) entries i entry within
    ∙ ap (λ (e : Entry A). revs_of rows (take i entries) ++ option_to_list (rev_of rows e.node.0))
    (sym here)

-- the numbers of entries are those of their ids
pub revs_same : {A : Type 0} (rows : List Changeset) (old new : List (Entry A)) → AreOfSameIds old new
    → revs_of rows new ≡ revs_of rows old
unfolding revs_of
revs_same {A} rows old new same =
    sym (by_ids new) ∙ ap (filter_map (λ (id : Node). rev_of rows id.0)) same ∙ by_ids old
  where
    by_ids : (entries : List (Entry A)) → filter_map (λ (id : Node). rev_of rows id.0)
        (map (λ (entry : Entry A). entry.node) entries)
        ≡ filter_map (λ (entry : Entry A). rev_of rows entry.node.0) entries
    by_ids [] = refl
    by_ids (entry ∷ entries) = ap (cons_option (rev_of rows entry.node.0)) (by_ids entries)

-- so what a push advances is told by the ids
pub phases_same : {A : Type 0} (source : Source) (t : Phase) (old new : List (Entry A)) (grown : Grown)
    → AreOfSameIds old new → phases_after source t new grown ≡ phases_after source t old grown
phases_same Push t old new grown same =
    ap (λ revs. advanced (parents_of grown.rows) t revs grown.phases) (revs_same grown.rows old new same)
phases_same Seed t old new grown same = refl

pub within_more : (n : ℕ) (xs : List ℕ) (o : Option ℕ) → All (λ x. x < n) xs
    → ((x : ℕ) → o ≡ Some x → x < n) → All (λ x. x < n) (xs ++ option_to_list o)
within_more n xs None all some = subst (λ ys. All (λ x. x < n) ys) (sym (append-nil xs)) all
within_more n xs (Some v) all some = λ k d low. elim (cases_lt k (length xs)) [
  | inl less ↦ subst (λ (x : ℕ). x < n) (sym (get_or_append_left xs (v ∷ []) d k less)) (all k d less)
  | inr more ↦ subst (λ (x : ℕ). x < n) (sym (get_or_push xs v d k (omega (arith, length_push xs v))))
      (some v refl)
]

pub rev_within : (rows : List Changeset) (node : List ℕ) (o : Option ℕ)
    → IfSome o (λ rev. HasNode rows rev node) → (x : ℕ) → o ≡ Some x → x < length rows
rev_within rows node None found x is = absurd cc
rev_within rows node (Some r) found x is =
    let same : r ≡ x = cc in
    subst (λ k. k < length rows) same (slice_get_within rows r found.row found.row_at)

pub some_within : (n : ℕ) (o : Option ℕ) → IfSome o (λ x. x < n) → (x : ℕ) → o ≡ Some x → x < n
some_within n None low x is = absurd cc
some_within n (Some y) low x is = let same : y ≡ x = cc in omega (arith, low)

differ : (a b : List ℕ) → a ≢ b → bytes_eq a b ≡ false
differ a b other = by (bytes_eq a b) refl
  where
    by : (v : Bool) → bytes_eq a b ≡ v → bytes_eq a b ≡ false
    by true is = absurd (other ((bytes_eq-Decides a b).0 is))
    by false is = is

-- where the row of a number has an id, that is the number of the id
pub rev_at : (rows : List Changeset) (p : ℕ) (node : List ℕ) → AreLawful rows → HasNode rows p node
    → Some p ≡ rev_of rows node
unfolding rev_of
rev_at rows p node lawful has =
    let within : p < length rows = slice_get_within rows p has.row has.row_at in
    let here : (get_or rows p has.row).node ≡ node = ap (λ (x : Changeset). x.node)
    (get_or_from_slice_get rows p has.row has.row has.row_at) ∙ has.node_is in
    let before : (k : ℕ) → k < p → bytes_eq (get_or rows k has.row).node node ≡ false =
    λ k low. differ (get_or rows k has.row).node node
    (λ same. lawful.distinct k p has.row low within (same ∙ sym here)) in
    let found : position_or_len (λ row. bytes_eq row.node node) rows ≡ p =
    position_or_len_is (λ row. bytes_eq row.node node) rows p has.row (omega arith) before
    (λ _. (bytes_eq-Decides (get_or rows p has.row).node node).1 here) in
    sym (ap (λ n. cond (nat_lt n (length rows)) (Some n) None) found
    ∙ cond-true (nat_lt p (length rows)) (Some p) None (lt-ltb p (length rows) within))

-- ---- the reply

short : (n : ℕ) → n < 10 ^ 10 → n < 2 ^ 64 → length (decimal n) ≤ 10
short n few fits = length-decimal-le 10 n (omega arith) few fits

text_short : (before after : ℕ) → before < 2 ^ 32 → after < 2 ^ 32 → length (result_text before after) < 256
unfolding result_text
text_short before after before_few after_few =
    cond_both (nat_le before after) (decimal (after - before + 1)) (codes "-" ++ decimal (before - after + 1))
    (λ (text : List ℕ). length text < 256)
    (λ more. let s = short (after - before + 1) (omega arith) (omega arith) in omega arith)
    (λ fewer. let s = short (before - after + 1) (omega arith) (omega arith) in omega arith)

pub can_reply : (before after : ℕ) → before < 2 ^ 32 → after < 2 ^ 32
    → CanReply (codes "reply:changegroup") (codes "return") (result_text before after)
can_reply before after before_few after_few = record {
  kind_is = refl;
  kind_fits = omega arith;
  key_fits = omega arith;
  key_differs = differs;
  value_fits = text_short before after before_few after_few;
}
  where
    differs : codes "in-reply-to" ≢ codes "return"
    differs same = cc

pub replied : {A : Type 0} (replying : Bool) (reply made : Part A) → replying ≡ true → reply ≡ made
    → Some reply ≡ reply_where replying made
replied true reply made on is = ap Some is
replied false reply made on is = absurd cc
