-- A store that is read from a mark on, and from its front.
use Rattle.std.proofs.Common.{◌≡◌, ◌⊎◌, inl, inr, ℕ, zero, suc, ◌+◌, ◌-◌, ◌≤◌, List, [], ◌∷◌, ◌++◌, length, drop}
use Rattle.std.proofs.Common.{refl, sym, ap, ◌∙◌, subst, arith, append_assoc, length-append, Option, Some, None}
use Rattle.std.proofs.lemmas.List.{append-nil, drop_at}
use Rattle.std.specs.List.{AllByRecursion}
use Rattle.hg_store.specs.Entries.{Entry}
use Rattle.hg_store.specs.Files.{stored}
use Rattle.hg_store.specs.Head.{HasHead, IsHead, IsIdentity, first_digest, head_bytes, head_size, identity_bytes}
use Rattle.hg_store.specs.Head.{version_by, version_of}
use Rattle.hg_store.specs.Records.{IsEnd, IsRecord, IsTorn, digest_of, frame, frames, last_digest}
use Rattle.hg_store.specs.declared.head.Head.{Head}
use Rattle.hg_store.specs.declared.head.Version.{Version}
use Rattle.hg_store_tools.specs.Listing.{AreLines, IsListed, IsListedOn}
use Rattle.hg_store_tools.specs.Logging.{AreInForm, IsLogged, IsLoggedOn, IsShelved, IsShelvedOn}
use Rattle.hg_store_tools.specs.Places.{BeginsAt, HasMark, LeadsTo, Says, front_mark}
use Rattle.hg_store_tools.specs.Reading.{EndsSo, IsRead}
use Rattle.hg_store_tools.specs.declared.fault.StoreEnd.{StoreEnd}
use Rattle.hg_store_tools.specs.declared.fault.StoreEnd.TheVariants.{Whole, Torn}
use Rattle.hg_store_tools.specs.declared.form.BundleForm.{BundleForm}
use Rattle.hg_store_tools.specs.declared.marks.Mark.{Mark}
use Rattle.hg_store_tools.proofs.Walks.{all_among}

-- ---- records behind others

frames-append : (version : Version) (before : List ℕ) (rs more : List Entry) → frames version before (rs ++ more)
    ≡ frames version before rs ++ frames version (last_digest version before rs) more
frames-append version before [] more = refl
frames-append version before (q ∷ rs) more =
    ap (λ (l : List ℕ). frame version before q ++ l) (frames-append version (digest_of version before q) rs more)
    ∙ sym (append_assoc (frame version before q) (frames version (digest_of version before q) rs)
    (frames version (last_digest version (digest_of version before q) rs) more))

last_digest-append : (version : Version) (before : List ℕ) (rs more : List Entry)
    → last_digest version before (rs ++ more) ≡ last_digest version (last_digest version before rs) more
last_digest-append version before [] more = refl
last_digest-append version before (q ∷ rs) more = last_digest-append version (digest_of version before q) rs more

each-append : (version : Version) (rs more : List Entry) → AllByRecursion (IsRecord version) rs
    → AllByRecursion (IsRecord version) more → AllByRecursion (IsRecord version) (rs ++ more)
each-append version [] more each others = others
each-append version (q ∷ rs) more each others = (each.0, each-append version rs more each.1 others)

drop_past : (n m : ℕ) (xs ys : List Entry) → n ≡ length xs + m → drop n (xs ++ ys) ≡ drop m ys
drop_past n m [] ys is = let e : n ≡ m = omega (arith, is) in ap (λ (k : ℕ). drop k ys) e
drop_past zero m (x ∷ xs) ys is = absurd (omega (arith, is))
drop_past (suc n) m (x ∷ xs) ys is = drop_past n m xs ys (omega (arith, is))

identity_size : (identity : Option (List ℕ)) → IsIdentity identity
    → 38 + length (identity_bytes identity) ≡ head_size (version_by identity)
identity_size None is = refl
identity_size (Some identity) is = omega (arith, is)

head_long : (head : Head) → IsHead head → length (head_bytes head) ≡ head_size (version_of head)
head_long head is = omega (arith, identity_size head.identity is.identity)

-- ---- marks of a file

pub mark_rest : (file : List ℕ) (head : Head) (mark : Mark) (rest : List ℕ) → HasMark file head mark rest
    → drop mark.offset file ≡ rest
mark_rest file head mark rest has =
    ap (drop mark.offset) has.front.spelled
    ∙ drop_at (stored head has.earlier) rest mark.offset (sym has.offset_is)

pub mark_front : (file : List ℕ) (head : Head) → HasHead file head
    → (rest : List ℕ) × HasMark file head (front_mark head) rest
mark_front file head has = (
  has.0,
  record {
    earlier = [];
    front = record {
      is = has.1.allowed;
      each = tt;
      spelled = has.1.spelled ∙ ap (λ (l : List ℕ). l ++ has.0) (sym (append-nil (head_bytes head)));
    };
    place_is = refl;
    offset_is = sym (ap length (append-nil (head_bytes head)) ∙ head_long head has.1.allowed);
    digest_is = refl;
  },
)

module _ (file : List ℕ) (head : Head) (mark : Mark) (rest : List ℕ) (has : HasMark file head mark rest) where
  -- more records behind the mark, and what follows them
  module _ (records : List Entry) (tail : List ℕ) (each : AllByRecursion (IsRecord (version_of head)) records)
      (spelled : rest ≡ frames (version_of head) mark.digest records ++ tail) where
    frames_so : frames (version_of head) (first_digest head) has.earlier ++ frames (version_of head) mark.digest records
        ≡ frames (version_of head) (first_digest head) (has.earlier ++ records)
    frames_so =
        ap (λ (d : List ℕ).
        frames (version_of head) (first_digest head) has.earlier ++ frames (version_of head) d records) has.digest_is
        ∙ sym (frames-append (version_of head) (first_digest head) has.earlier records)

    each_so : AllByRecursion (IsRecord (version_of head)) (has.earlier ++ records)
    each_so = each-append (version_of head) has.earlier records has.front.each each

    behind_so : frames (version_of head) (first_digest head) has.earlier ++ rest
        ≡ frames (version_of head) (first_digest head) (has.earlier ++ records) ++ tail
    behind_so =
        ap (λ (l : List ℕ). frames (version_of head) (first_digest head) has.earlier ++ l) spelled
        ∙ sym (append_assoc (frames (version_of head) (first_digest head) has.earlier)
        (frames (version_of head) mark.digest records) tail)
        ∙ ap (λ (l : List ℕ). l ++ tail) frames_so

    file_so : file ≡ head_bytes head ++ (frames (version_of head) (first_digest head) has.earlier ++ rest)
    file_so =
        has.front.spelled
        ∙ append_assoc (head_bytes head) (frames (version_of head) (first_digest head) has.earlier) rest

    pub mark_led : (next : Mark) → next.place ≡ mark.place + length records
        → next.offset ≡ mark.offset + length (frames (version_of head) mark.digest records)
        → next.digest ≡ last_digest (version_of head) mark.digest records → HasMark file head next tail
    mark_led next place_is offset_is digest_is =
        let stored_so : stored head has.earlier ++ frames (version_of head) mark.digest records
        ≡ stored head (has.earlier ++ records) =
        append_assoc (head_bytes head) (frames (version_of head) (first_digest head) has.earlier)
        (frames (version_of head) mark.digest records)
        ∙ ap (λ (l : List ℕ). head_bytes head ++ l) frames_so in
        record {
          earlier = has.earlier ++ records;
          front = record {
            is = has.front.is;
            each = each_so;
            spelled = file_so ∙ ap (λ (l : List ℕ). head_bytes head ++ l) behind_so
                ∙ sym (append_assoc (head_bytes head)
                (frames (version_of head) (first_digest head) (has.earlier ++ records)) tail);
          };
          place_is = omega (arith, place_is, has.place_is, length-append has.earlier records);
          offset_is = omega (
            arith,
            offset_is,
            has.offset_is,
            length-append (stored head has.earlier) (frames (version_of head) mark.digest records),
            ap length stored_so,
          );
          digest_is = digest_is
              ∙ ap (λ (d : List ℕ). last_digest (version_of head) d records) has.digest_is
              ∙ sym (last_digest-append (version_of head) (first_digest head) has.earlier records);
        }

    either_end : (ending : StoreEnd) (count : ℕ) → EndsSo ending (version_of head) count tail
        → IsEnd tail ⊎ IsTorn (version_of head) tail
    either_end Whole count ends = inl ends
    either_end (Torn whole) count ends = inr ends.1

    pub mark_read : (ending : StoreEnd) → EndsSo ending (version_of head) (mark.place + length records) tail
        → IsRead file head (has.earlier ++ records) ending
    mark_read ending ends =
        let count : mark.place + length records ≡ length (has.earlier ++ records) =
        omega (arith, has.place_is, length-append has.earlier records) in
        record {
          tail = tail;
          store = record {
            behind = frames (version_of head) (first_digest head) has.earlier ++ rest;
            begins = record { spelled = file_so; allowed = has.front.is };
            reads = record {
              each = each_so;
              ends = either_end ending (mark.place + length records) ends;
              spelled = behind_so;
            };
          };
          ends = subst (λ (n : ℕ). EndsSo ending (version_of head) n tail) count ends;
        }

    pub mark_drop : (from : ℕ) → mark.place ≤ from
        → drop (from - mark.place) records ≡ drop from (has.earlier ++ records)
    mark_drop from within =
        sym (drop_past from (from - mark.place) has.earlier records (omega (arith, within, has.place_is)))

  module _ (from : ℕ) (ending : StoreEnd) (within : mark.place ≤ from) where
    pub logged_so : (form : BundleForm) (A : Type 0) (before after : Option (List ℕ))
        → IsLoggedOn form A head mark rest from ending before after → IsLogged form A file from ending before after
    logged_so form A before after logged =
        let read = logged.read in
        record {
          head = head;
          records = has.earlier ++ logged.records;
          read = mark_read logged.records read.tail read.each read.spelled ending read.ends;
          bundles = logged.bundles;
          are = subst (λ (rs : List Entry). AreInForm form A head.limits rs logged.bundles)
              (mark_drop logged.records read.tail read.each read.spelled from within) logged.are;
          sent = logged.sent;
        }

    pub shelved_so : (form : BundleForm) (A : Type 0) (before after : Option (List (ℕ × List ℕ)))
        → IsShelvedOn form A head mark rest from ending before after → IsShelved form A file from ending before after
    shelved_so form A before after shelved =
        let read = shelved.read in
        record {
          head = head;
          records = has.earlier ++ shelved.records;
          read = mark_read shelved.records read.tail read.each read.spelled ending read.ends;
          bundles = shelved.bundles;
          are = subst (λ (rs : List Entry). AreInForm form A head.limits rs shelved.bundles)
              (mark_drop shelved.records read.tail read.each read.spelled from within) shelved.are;
          put = shelved.put;
        }

    pub listed_so : (A : Type 0) (before after : Option (List ℕ))
        → IsListedOn A head mark rest from ending before after → IsListed A file from ending before after
    listed_so A before after listed =
        let read = listed.read in
        record {
          head = head;
          records = has.earlier ++ listed.records;
          read = mark_read listed.records read.tail read.each read.spelled ending read.ends;
          lines = listed.lines;
          are = subst (λ (rs : List Entry). AreLines A head.limits from rs listed.lines)
              (mark_drop listed.records read.tail read.each read.spelled from within) listed.are;
          sent = listed.sent;
        }

pub led_so : (file : List ℕ) (head : Head) (first mark : Mark) (rest : List ℕ) → HasMark file head first rest
    → LeadsTo (version_of head) rest first mark → (more : List ℕ) × HasMark file head mark more
led_so file head first mark rest has leads = (
  frame (version_of head) mark.digest leads.next ++ leads.behind,
  mark_led file head first rest has leads.records (frame (version_of head) mark.digest leads.next ++ leads.behind)
      leads.each leads.spelled mark leads.place_is leads.offset_is leads.digest_is,
)

-- the mark to which records lead from one that says what is so
from_so : (file : List ℕ) (head : Head) (first mark : Mark) → (rest : List ℕ) × HasMark file head first rest
    → LeadsTo (version_of head) (drop first.offset file) first mark → (more : List ℕ) × HasMark file head mark more
from_so file head first mark has leads =
    led_so file head first mark has.0 has.1
    (subst (λ (l : List ℕ). LeadsTo (version_of head) l first mark) (mark_rest file head first has.0 has.1) leads)

pub begun_so : (file index : List ℕ) (head : Head) (mark : Mark) → HasHead file head
    → ((known : List Mark) → Says index head known
    → AllByRecursion (λ said. (rest : List ℕ) × HasMark file head said rest) known)
    → BeginsAt file index head mark → (rest : List ℕ) × HasMark file head mark rest
begun_so file index head mark has right begins = elim begins [
  | inl is ↦ subst (λ (m : Mark). (rest : List ℕ) × HasMark file head m rest) (sym is) (mark_front file head has)
  | inr at ↦
      let reached = at.2 in
      elim reached.told [
        | inl is ↦
            from_so file head reached.first mark
            (subst (λ (m : Mark). (rest : List ℕ) × HasMark file head m rest) (sym is) (mark_front file head has))
            reached.leads
        | inr among ↦
            from_so file head reached.first mark
            (all_among (λ said. (rest : List ℕ) × HasMark file head said rest) at.0 reached.first among
            (right at.0 at.1))
            reached.leads
      ]
]
