-- What a reader gave, as the front of a file.
use Rattle.std.proofs.Common.{◌≡◌, ◌≢◌, ◌⊎◌, inl, inr, ℕ, ◌+◌, ◌≤◌, List, [], ◌∷◌, ◌++◌, length, take, drop}
use Rattle.std.proofs.Common.{refl, sym, ap, ◌∙◌, subst, arith, append_assoc, length-append, take-append-drop, Option}
use Rattle.std.proofs.Common.{Some, None}
use Rattle.std.proofs.KnownBytes.{Consumes-trans}
use Rattle.std.proofs.lemmas.List.{append-nil, length-take-le, take_at}
use Rattle.std.specs.Io.KnownBytes.{Consumes, IsAtEnd}
use Rattle.std.specs.List.{AllByRecursion}
use Rattle.hg_types.specs.declared.limits.Limits.{Limits}
use Rattle.hg_store.specs.Entries.{Entry}
use Rattle.hg_store.specs.Files.{IsStore, digest_behind}
use Rattle.hg_store.specs.Head.{HasBadLimits, HasBadPublishing, HasOtherMagic, HasOtherVersion}
use Rattle.hg_store.specs.Head.{IsRefusedFor, first_digest, head_bytes, head_size, limits_bytes, magic, version_of}
use Rattle.hg_store.specs.Pieces.{HasToGive}
use Rattle.hg_store.specs.Records.{IsDamaged, IsEnd, IsRecord, IsTorn, frames, label, last_digest, no_gate, open_gate}
use Rattle.hg_store.specs.Records.{other_digest, over, shut}
use Rattle.hg_store.specs.declared.head.Head.{Head}
use Rattle.hg_store.specs.declared.head.HeadFault.{HeadFault}
use Rattle.hg_store.specs.declared.head.HeadFault.TheVariants.{TooShort, Magic, Version as OtherVersion, Publishing}
use Rattle.hg_store.specs.declared.head.HeadFault.TheVariants.{BadLimits}
use Rattle.hg_store.specs.declared.head.Version.{Version}
use Rattle.hg_store.specs.declared.head.Version.TheVariants.{First, Second}
use Rattle.hg_store_tools.specs.Reading.{EndsSo, HasFront, IsRead, IsUnread}
use Rattle.hg_store_tools.specs.Visiting.{Begins, IsUnreadAt, has_no_begin}
use Rattle.hg_store_tools.specs.declared.fault.Fault.{Fault}
use Rattle.hg_store_tools.specs.declared.fault.Fault.TheVariants.{Damaged, Exists, Failed, Head as HasNoHead, Held}
use Rattle.hg_store_tools.specs.declared.fault.Fault.TheVariants.{Missing, NoBundle, NoMemory, NoPlace, Refused}
use Rattle.hg_store_tools.specs.declared.fault.Fault.TheVariants.{Torn as TornAt, Unsent, Upgraded}
use Rattle.hg_store_tools.specs.declared.fault.StoreEnd.{StoreEnd}
use Rattle.hg_store_tools.specs.declared.fault.StoreEnd.TheVariants.{Whole, Torn}

-- the records after a head are counted from 0
pub from_front : (n : ℕ) → 0 + n ≡ n
from_front n = omega arith

-- A reader gave these bytes of a file, and has the rest still to give, none where it is at its end.
pub record IsFileOf (a b : Option (List ℕ)) (bytes : List ℕ) : Type 0 where
  pub file : List ℕ
  pub rest : List ℕ
  pub is : HasToGive a file
  pub spelled : file ≡ bytes ++ rest
  pub over : IsAtEnd b → rest ≡ []

pub file_of : (a b : Option (List ℕ)) (bytes : List ℕ) → Consumes a b bytes → IsFileOf a b bytes
file_of None b bytes gone = record {
  file = bytes;
  rest = [];
  is = tt;
  spelled = sym (append-nil bytes);
  over = λ _. refl;
}
file_of (Some x) None bytes gone = absurd gone
file_of (Some x) (Some y) bytes gone = record { file = x; rest = y; is = refl; spelled = gone; over = λ none. none }

-- ---- no head

short_head : (bytes rest : List ℕ) → rest ≡ [] → IsRefusedFor TooShort bytes → IsRefusedFor TooShort (bytes ++ rest)
short_head bytes rest none is = subst (IsRefusedFor TooShort) (ap (λ (l : List ℕ). bytes ++ l) (sym none) ∙ refl)
    (subst (IsRefusedFor TooShort) (sym (append-nil bytes)) is)

longer : (size : ℕ) (bytes rest : List ℕ) → size ≤ length bytes → size ≤ length (bytes ++ rest)
longer size bytes rest long = omega (arith, long, length-append bytes rest)

take_front : (n : ℕ) (bytes rest : List ℕ) → n ≤ length bytes → take n (bytes ++ rest) ≡ take n bytes
take_front n bytes rest long =
    let cut = take-append-drop n bytes in
    let size = length-take-le n bytes long in
    ap (λ (l : List ℕ). take n (l ++ rest)) (sym cut) ∙ ap (take n) (append_assoc (take n bytes) (drop n bytes) rest)
    ∙ take_at (take n bytes) (drop n bytes ++ rest) n size

other_magic : (bytes rest : List ℕ) → HasOtherMagic bytes → HasOtherMagic (bytes ++ rest)
other_magic bytes rest is = record {
  long = longer 38 bytes rest is.long;
  other = λ same. is.other (sym (take_front 8 bytes rest (omega (arith, is.long))) ∙ same);
}

other_version : (bytes rest : List ℕ) → HasOtherVersion bytes → HasOtherVersion (bytes ++ rest)
other_version bytes rest is = record {
  long = longer 38 bytes rest is.long;
  number = is.number;
  behind = is.behind ++ rest;
  spelled = ap (λ (l : List ℕ). l ++ rest) is.spelled ∙ append_assoc magic (is.number ∷ is.behind) rest;
  other = is.other;
}

bad_publishing : (bytes rest : List ℕ) → HasBadPublishing bytes → HasBadPublishing (bytes ++ rest)
bad_publishing bytes rest is = record {
  version = is.version;
  long = longer (head_size is.version) bytes rest is.long;
  publishing = is.publishing;
  behind = is.behind ++ rest;
  spelled = ap (λ (l : List ℕ). l ++ rest) is.spelled;
  bad = is.bad;
}

length-limits : (limits : Limits) → length (limits_bytes limits) ≡ 28
length-limits limits = omega arith

at_least : (version : Version) (n : ℕ) → head_size version ≤ n → 38 ≤ n
at_least First n long = long
at_least Second n long = omega (arith, long)

bad_limits : (bytes rest : List ℕ) → HasBadLimits bytes → HasBadLimits (bytes ++ rest)
bad_limits bytes rest is =
    let long = at_least is.version (length bytes) is.long in
    record {
      version = is.version;
      long = longer (head_size is.version) bytes rest is.long;
      publishing = is.publishing;
      behind = is.behind ++ rest;
      spelled = ap (λ (l : List ℕ). l ++ rest) is.spelled;
      bad = λ limits more same allowed.
          let enough : 28 ≤ length is.behind = omega (arith, long, ap length is.spelled) in
          let front : take 28 is.behind ≡ limits_bytes limits = sym (take_front 28 is.behind rest enough)
          ∙ ap (take 28) same ∙ take_at (limits_bytes limits) more 28 (length-limits limits) in
          is.bad limits (drop 28 is.behind)
          (sym (take-append-drop 28 is.behind) ∙ ap (λ (l : List ℕ). l ++ drop 28 is.behind) front) allowed;
    }

refused_more : (fault : HeadFault) (bytes rest : List ℕ) → (fault ≡ TooShort → rest ≡ []) → IsRefusedFor fault bytes
    → IsRefusedFor fault (bytes ++ rest)
refused_more TooShort bytes rest none is = short_head bytes rest (none refl) is
refused_more Magic bytes rest none is = other_magic bytes rest is
refused_more OtherVersion bytes rest none is = other_version bytes rest is
refused_more Publishing bytes rest none is = bad_publishing bytes rest is
refused_more BadLimits bytes rest none is = bad_limits bytes rest is

pub any_file : (a : Option (List ℕ)) → (file : List ℕ) × HasToGive a file
any_file None = ([], tt)
any_file (Some x) = (x, refl)

-- why nothing was read at all
pub headless : (fault : Fault) (a b : Option (List ℕ)) → has_no_begin fault a b
    → (file : List ℕ) × HasToGive a file × IsUnread fault file
headless (HasNoHead fault) a b none =
    let at = file_of a b none.bytes none.gone in (
      at.file,
      at.is,
      subst (IsRefusedFor fault) (sym at.spelled)
          (refused_more fault none.bytes at.rest (λ is. at.over (none.over is)) none.refused),
    )
headless NoMemory a b none = let at = any_file a in (at.0, at.1, tt)
headless Failed a b none = let at = any_file a in (at.0, at.1, tt)
headless (Damaged at) a b none = absurd none
headless Missing a b none = absurd none
headless (NoBundle at) a b none = absurd none
headless (Refused at) a b none = absurd none
headless (NoPlace count) a b none = absurd none
headless (TornAt count) a b none = absurd none
headless Upgraded a b none = absurd none
headless Held a b none = absurd none
headless Exists a b none = absurd none
headless Unsent a b none = absurd none

-- ---- after a head

pub damaged_more : (version : Version) (digest bytes rest : List ℕ) → IsDamaged version digest bytes
    → IsDamaged version digest (bytes ++ rest)
damaged_more version digest bytes rest damaged = elim damaged [
  | no_gate gate behind is some other ↦ no_gate gate (behind ++ rest) (ap (λ (l : List ℕ). l ++ rest) is) some other
  | other_digest told found after is sized size differs ↦
      other_digest told found (after ++ rest)
      (ap (λ (l : List ℕ). l ++ rest) is
      ∙ ap (λ (l : List ℕ). open_gate version ∷ l)
      (append_assoc (label version found) (told ++ (found.bundle ++ after)) rest
      ∙ ap (λ (l : List ℕ). label version found ++ l)
      (append_assoc told (found.bundle ++ after) rest
      ∙ ap (λ (l : List ℕ). told ++ l) (append_assoc found.bundle after rest))))
      sized size differs
]

pub end_more : (bytes rest : List ℕ) → (bytes ≡ [] → rest ≡ []) → IsEnd bytes → IsEnd (bytes ++ rest)
end_more bytes rest none end = elim end [
  | over empty ↦ over (ap (λ (l : List ℕ). l ++ rest) empty ∙ none empty)
  | shut behind is ↦ shut (behind ++ rest) (ap (λ (l : List ℕ). l ++ rest) is)
]

module _ (head : Head) (digest : List ℕ) (a b c : Option (List ℕ)) (begins : Begins a b head digest)
    (records : List Entry) (tail : List ℕ) (each : AllByRecursion (IsRecord (version_of head)) records)
    (gone : Consumes b c (frames (version_of head) digest records ++ tail)) where
  from_head : frames (version_of head) digest records ≡ frames (version_of head) (first_digest head) records
  from_head = ap (λ (d : List ℕ). frames (version_of head) d records) begins.digest_is

  pub whole_file : IsFileOf a c (head_bytes head ++ (frames (version_of head) digest records ++ tail))
  whole_file =
      file_of a c (head_bytes head ++ (frames (version_of head) digest records ++ tail))
      (Consumes-trans a b c (head_bytes head) (frames (version_of head) digest records ++ tail) begins.gone gone)

  abbrev behind_head : List ℕ
  behind_head = frames (version_of head) (first_digest head) records ++ (tail ++ whole_file.rest)

  spelled_so : whole_file.file ≡ head_bytes head ++ behind_head
  spelled_so =
      whole_file.spelled
      ∙ append_assoc (head_bytes head) (frames (version_of head) digest records ++ tail) whole_file.rest
      ∙ ap (λ (l : List ℕ). head_bytes head ++ l)
      (append_assoc (frames (version_of head) digest records) tail whole_file.rest
      ∙ ap (λ (l : List ℕ). l ++ (tail ++ whole_file.rest)) from_head)

  pub has_front : HasFront whole_file.file head records (tail ++ whole_file.rest)
  has_front = record {
    is = begins.is;
    each = each;
    spelled = spelled_so
        ∙ sym (append_assoc (head_bytes head) (frames (version_of head) (first_digest head) records)
        (tail ++ whole_file.rest));
  }

  store_of : IsEnd (tail ++ whole_file.rest) ⊎ IsTorn (version_of head) (tail ++ whole_file.rest)
      → IsStore whole_file.file head records (tail ++ whole_file.rest)
  store_of ends = record {
    behind = behind_head;
    begins = record { spelled = spelled_so; allowed = begins.is };
    reads = record { each = each; ends = ends; spelled = refl };
  }

  pub ends_more : (ending : StoreEnd) → ((tail ≡ []) ⊎ (ending ≢ Whole) → IsAtEnd c)
      → EndsSo ending (version_of head) (length records) tail
      → EndsSo ending (version_of head) (length records) (tail ++ whole_file.rest)
  ends_more Whole at_end ends = end_more tail whole_file.rest (λ empty. whole_file.over (at_end (inl empty))) ends
  ends_more (Torn count) at_end ends = (
    ends.0,
    subst (IsTorn (version_of head))
        (sym (append-nil tail) ∙ ap (λ (l : List ℕ). tail ++ l)
        (sym (whole_file.over (at_end (inr (λ same. absurd (cc same)))))))
        ends.1,
  )

  either_end : (ending : StoreEnd) (bytes : List ℕ) → EndsSo ending (version_of head) (length records) bytes
      → IsEnd bytes ⊎ IsTorn (version_of head) bytes
  either_end Whole bytes ends = inl ends
  either_end (Torn count) bytes ends = inr ends.1

  pub is_read : (ending : StoreEnd) → ((tail ≡ []) ⊎ (ending ≢ Whole) → IsAtEnd c)
      → EndsSo ending (version_of head) (0 + length records) tail → IsRead whole_file.file head records ending
  is_read ending at_end ends =
      let more = ends_more ending at_end
      (subst (λ (n : ℕ). EndsSo ending (version_of head) n tail) (from_front (length records)) ends) in
      record {
        tail = tail ++ whole_file.rest;
        store = store_of (either_end ending (tail ++ whole_file.rest) more);
        ends = more;
      }

  -- the same of the digest after the head
  pub digest_so : last_digest (version_of head) digest records ≡ digest_behind head records
  digest_so = ap (λ (d : List ℕ). last_digest (version_of head) d records) begins.digest_is

  pub is_unread_at : (fault : Fault)
      → IsUnreadAt fault (version_of head) (last_digest (version_of head) digest records) (0 + length records) tail
      → IsUnreadAt fault (version_of head) (digest_behind head records) (length records) (tail ++ whole_file.rest)
  is_unread_at (Damaged at) why = (
    why.0 ∙ from_front (length records),
    damaged_more (version_of head) (digest_behind head records) tail whole_file.rest
        (subst (λ (d : List ℕ). IsDamaged (version_of head) d tail) digest_so why.1),
  )
  is_unread_at NoMemory why = tt
  is_unread_at Failed why = tt
  is_unread_at Missing why = absurd why
  is_unread_at (HasNoHead fault) why = absurd why
  is_unread_at (NoBundle at) why = absurd why
  is_unread_at (Refused at) why = absurd why
  is_unread_at (NoPlace count) why = absurd why
  is_unread_at (TornAt count) why = absurd why
  is_unread_at Upgraded why = absurd why
  is_unread_at Held why = absurd why
  is_unread_at Exists why = absurd why
  is_unread_at Unsent why = absurd why

-- a file that is not read on after its first records
pub is_unread : (fault : Fault) (file : List ℕ) (head : Head) (records : List Entry) (tail : List ℕ)
    → HasFront file head records tail
    → IsUnreadAt fault (version_of head) (digest_behind head records) (length records) tail → IsUnread fault file
is_unread (Damaged at) file head records tail front why = record {
  head = head;
  behind = frames (version_of head) (first_digest head) records ++ tail;
  begins = record {
    spelled = front.spelled
        ∙ append_assoc (head_bytes head) (frames (version_of head) (first_digest head) records) tail;
    allowed = front.is;
  };
  records = records;
  tail = tail;
  each = front.each;
  spelled = refl;
  count = why.0;
  damaged = why.1;
}
is_unread NoMemory file head records tail front why = tt
is_unread Failed file head records tail front why = tt
is_unread Missing file head records tail front why = absurd why
is_unread (HasNoHead fault) file head records tail front why = absurd why
is_unread (NoBundle at) file head records tail front why = absurd why
is_unread (Refused at) file head records tail front why = absurd why
is_unread (NoPlace count) file head records tail front why = absurd why
is_unread (TornAt count) file head records tail front why = absurd why
is_unread Upgraded file head records tail front why = absurd why
is_unread Held file head records tail front why = absurd why
is_unread Exists file head records tail front why = absurd why
is_unread Unsent file head records tail front why = absurd why
