-- The head of a store.
use Rattle.std.proofs.Common.{◌≡◌, ℕ, zero, suc, ◌+◌, ◌<◌, ◌≤◌, List, [], ◌∷◌, ◌++◌, length, take, drop}
use Rattle.std.proofs.Common.{take-append-drop, Bool, true, false}
use Rattle.std.proofs.Common.{inl, inr, refl, sym, ap, ◌∙◌, subst, arith, append_assoc, length-append}
use Rattle.std.specs.Prelude.{IsTrue, ◌↔◌, Option, Some, None}
use Rattle.hg_types.specs.declared.limits.Limits.{Limits}
use Rattle.hg_types.specs.Limits.{IsAllowed}
use Rattle.hg_store.specs.declared.head.Head.{Head}
use Rattle.hg_store.specs.declared.head.Version.{Version}
use Rattle.hg_store.specs.declared.head.Version.TheVariants.{First, Second}
use Rattle.hg_store.specs.declared.head.HeadFault.{HeadFault}
use Rattle.hg_store.specs.declared.head.HeadFault.TheVariants.{TooShort, Magic, Version as OtherVersion, Publishing}
use Rattle.hg_store.specs.declared.head.HeadFault.TheVariants.{BadLimits}
use Rattle.hg_store.specs.code.Heads.{LimitsFit}
use Rattle.hg_store.specs.Head.{HasBadLimits, HasBadPublishing, HasHead, HasOneHead, HasOtherVersion, HasShortHead}
use Rattle.hg_store.specs.Head.{IsHead, IsIdentity, IsRefusedFor, head_bytes, head_size, identity_bytes, limit_bytes}
use Rattle.hg_store.specs.Head.{limits_bytes, magic, publishing_byte, version_by, version_byte, version_of}
use Rattle.hg_store.proofs.Frames.{fronts, size_is}

-- the name of a store makes the rest of its head
identity_size : (identity : Option (List ℕ)) → IsIdentity identity
    → 38 + length (identity_bytes identity) ≡ head_size (version_by identity)
identity_size None is = refl
identity_size (Some identity) is = omega (arith, is)

pub length-head : (head : Head) → IsHead head → length (head_bytes head) ≡ head_size (version_of head)
length-head head is = omega (arith, identity_size head.identity is.identity)

-- a head is no shorter than one of version 1
pub long_head : (head : Head) → 38 ≤ length (head_bytes head)
long_head head = omega arith

pub allowed_fits : (limits : Limits) → IsAllowed limits → LimitsFit limits
allowed_fits limits is = record {
  params = omega (arith, is.params.1);
  payload = omega (arith, is.payload.1);
  stream = omega (arith, is.stream.1);
  parts = omega (arith, is.parts.1);
  text = omega (arith, is.text.1);
  rows = omega (arith, is.rows.1);
  revisions = omega (arith, is.revisions.1);
}

-- the same bytes are the same limits
pub limits_are : (a b : Limits) (x y : List ℕ) → LimitsFit a → LimitsFit b → limits_bytes a ++ x ≡ limits_bytes b ++ y
    → a ≡ b
limits_are a b x y fa fb same =
    let params = size_is a.params b.params _ _ fa.params fb.params same in
    let payload = size_is a.payload b.payload _ _ fa.payload fb.payload params.1 in
    let stream = size_is a.stream b.stream _ _ fa.stream fb.stream payload.1 in
    let parts = size_is a.parts b.parts _ _ fa.parts fb.parts stream.1 in
    let text = size_is a.text b.text _ _ fa.text fb.text parts.1 in
    let rows = size_is a.rows b.rows _ _ fa.rows fb.rows text.1 in
    let revisions = size_is a.revisions b.revisions _ _ fa.revisions fb.revisions rows.1 in
    λ i. record {
      params = params.0 i;
      payload = payload.0 i;
      stream = stream.0 i;
      parts = parts.0 i;
      text = text.0 i;
      rows = rows.0 i;
      revisions = revisions.0 i;
    }

publishing_is : (a b : Bool) → publishing_byte a ≡ publishing_byte b → a ≡ b
publishing_is false false same = refl
publishing_is false true same = absurd (omega (arith, same))
publishing_is true false same = absurd (omega (arith, same))
publishing_is true true same = refl

pub publishing_small : (a : Bool) → publishing_byte a ≤ 1
publishing_small false = omega arith
publishing_small true = omega arith

version_is : (a b : Version) → version_byte a ≡ version_byte b → a ≡ b
version_is First First same = refl
version_is First Second same = absurd (omega (arith, same))
version_is Second First same = absurd (omega (arith, same))
version_is Second Second same = refl

-- after the magic
behind_magic : (a b : ℕ) (x y : List ℕ) → magic ++ a ∷ x ≡ magic ++ b ∷ y → (a ≡ b) × (x ≡ y)
behind_magic a b x y same =
    let behind : a ∷ x ≡ b ∷ y = ap (drop 8) same in
    let first : a ≡ b = cc in
    (first, ap (drop 1) behind)

-- after the version
behind_version : (v w a b : ℕ) (x y : List ℕ) → magic ++ v ∷ a ∷ x ≡ magic ++ w ∷ b ∷ y → (a ≡ b) × (x ≡ y)
behind_version v w a b x y same =
    let behind : a ∷ x ≡ b ∷ y = (behind_magic v w (a ∷ x) (b ∷ y) same).1 in
    let first : a ≡ b = cc in
    (first, ap (drop 1) behind)

identity_is : (a b : Option (List ℕ)) (x y : List ℕ) → version_by a ≡ version_by b → IsIdentity a → IsIdentity b
    → identity_bytes a ++ x ≡ identity_bytes b ++ y → (a ≡ b) × (x ≡ y)
identity_is None None x y version ia ib same = (refl, same)
identity_is None (Some b) x y version ia ib same = absurd (omega (arith, ap version_byte version))
identity_is (Some a) None x y version ia ib same = absurd (omega (arith, ap version_byte version))
identity_is (Some a) (Some b) x y version ia ib same =
    let both = fronts a b x y (ia ∙ sym ib) same in
    (ap (λ (identity : List ℕ). Some identity) both.0, both.1)

pub heads_are : (a b : Head) (x y : List ℕ) → IsHead a → IsHead b → head_bytes a ++ x ≡ head_bytes b ++ y
    → (a ≡ b) × (x ≡ y)
heads_are a b x y ia ib same =
    let va : ℕ = version_byte (version_of a) in
    let vb : ℕ = version_byte (version_of b) in
    let more_a : List ℕ = identity_bytes a.identity ++ x in
    let more_b : List ℕ = identity_bytes b.identity ++ y in
    let versions = behind_magic va vb (publishing_byte a.publishing ∷ limits_bytes a.limits ++ more_a)
    (publishing_byte b.publishing ∷ limits_bytes b.limits ++ more_b) same in
    let both = behind_version va vb (publishing_byte a.publishing) (publishing_byte b.publishing)
    (limits_bytes a.limits ++ more_a) (limits_bytes b.limits ++ more_b) same in
    let publishing = publishing_is a.publishing b.publishing both.0 in
    let limits = limits_are a.limits b.limits more_a more_b (allowed_fits a.limits ia.limits)
    (allowed_fits b.limits ib.limits) both.1 in
    let identities = identity_is a.identity b.identity x y (version_is (version_of a) (version_of b) versions.0)
    ia.identity ib.identity (ap (drop 38) same) in (
      λ i. record { publishing = publishing i; limits = limits i; identity = identities.0 i },
      identities.1,
    )

second_size : (version : Version) → 2 ≡ version_byte version → head_size version ≡ 54
second_size First is = absurd (omega (arith, is))
second_size Second is = refl

pub one_head_lem : (file : List ℕ) (head : Head) → HasHead file head → HasOneHead file head
one_head_lem file head has = record {
  one = λ other its. (heads_are other head its.0 has.0 its.1.allowed has.1.allowed
      (sym its.1.spelled ∙ has.1.spelled)).0;
  taken = not_refused;
}
  where
    behind : List ℕ
    behind = limits_bytes head.limits ++ (identity_bytes head.identity ++ has.0)

    number : ℕ
    number = version_byte (version_of head)

    spelled : file ≡ magic ++ number ∷ publishing_byte head.publishing ∷ behind
    spelled = has.1.spelled

    not_refused : (fault : HeadFault) → IsRefusedFor fault file → ⊥
    not_refused TooShort (inl short) =
        omega (arith, short, ap length has.1.spelled, length-append (head_bytes head) has.0, long_head head)
    not_refused TooShort (inr bad) =
        let is = behind_magic 2 number bad.behind (publishing_byte head.publishing ∷ behind)
        (sym bad.spelled ∙ spelled) in
        omega (
          arith,
          bad.short,
          ap length has.1.spelled,
          length-append (head_bytes head) has.0,
          length-head head has.1.allowed,
          second_size (version_of head) is.0,
        )
    not_refused Magic bad = bad.other (ap (take 8) has.1.spelled)
    not_refused OtherVersion bad =
        bad.other (version_of head) (behind_magic bad.number number bad.behind
        (publishing_byte head.publishing ∷ behind) (sym bad.spelled ∙ spelled)).0
    not_refused Publishing bad =
        let both = behind_version (version_byte bad.version) number bad.publishing
        (publishing_byte head.publishing) bad.behind behind (sym bad.spelled ∙ spelled) in
        omega (arith, both.0, bad.bad, publishing_small head.publishing)
    not_refused BadLimits bad =
        let both = behind_version (version_byte bad.version) number (publishing_byte bad.publishing)
        (publishing_byte head.publishing) bad.behind behind (sym bad.spelled ∙ spelled) in
        bad.bad head.limits (identity_bytes head.identity ++ has.0) both.1 has.1.allowed.limits

-- seven numbers, one after the other
pub limits_read : (limits : Limits) (a b c d e f g h : List ℕ) → a ≡ limit_bytes limits.params ++ b
    → b ≡ limit_bytes limits.payload ++ c → c ≡ limit_bytes limits.stream ++ d → d ≡ limit_bytes limits.parts ++ e
    → e ≡ limit_bytes limits.text ++ f → f ≡ limit_bytes limits.rows ++ g
    → g ≡ limit_bytes limits.revisions ++ h → a ≡ limits_bytes limits ++ h
limits_read limits a b c d e f g h params payload stream parts text rows revisions =
    params ∙ ap (λ (l : List ℕ). limit_bytes limits.params ++ l)
    (payload ∙ ap (λ (l : List ℕ). limit_bytes limits.payload ++ l)
    (stream ∙ ap (λ (l : List ℕ). limit_bytes limits.stream ++ l)
    (parts ∙ ap (λ (l : List ℕ). limit_bytes limits.parts ++ l)
    (text ∙ ap (λ (l : List ℕ). limit_bytes limits.text ++ l)
    (rows ∙ ap (λ (l : List ℕ). limit_bytes limits.rows ++ l) revisions)))))

-- and written so
pub limits_put : (limits : Limits) (a b c d e f g h : List ℕ) → b ≡ a ++ limit_bytes limits.params
    → c ≡ b ++ limit_bytes limits.payload → d ≡ c ++ limit_bytes limits.stream → e ≡ d ++ limit_bytes limits.parts
    → f ≡ e ++ limit_bytes limits.text → g ≡ f ++ limit_bytes limits.rows → h ≡ g ++ limit_bytes limits.revisions
    → h ≡ a ++ limits_bytes limits
limits_put limits a b c d e f g h params payload stream parts text rows revisions =
    revisions ∙ more f (limit_bytes limits.rows) g (limit_bytes limits.revisions) rows
    ∙ more e (limit_bytes limits.text) f _ text ∙ more d (limit_bytes limits.parts) e _ parts
    ∙ more c (limit_bytes limits.stream) d _ stream ∙ more b (limit_bytes limits.payload) c _ payload
    ∙ more a (limit_bytes limits.params) b _ params
  where
    more : (x y z rest : List ℕ) → z ≡ x ++ y → z ++ rest ≡ x ++ (y ++ rest)
    more x y z rest is = ap (λ (l : List ℕ). l ++ rest) is ∙ append_assoc x y rest

-- a head as it is written, piece by piece
pub head_put : (head : Head) (number publishing : ℕ) (a b c d e : List ℕ) → b ≡ a ++ magic
    → c ≡ b ++ number ∷ publishing ∷ [] → number ≡ version_byte (version_of head)
    → publishing ≡ publishing_byte head.publishing → d ≡ c ++ limits_bytes head.limits
    → e ≡ d ++ identity_bytes head.identity → e ≡ a ++ head_bytes head
head_put head number publishing a b c d e b_is c_is number_is publishing_is d_is e_is =
    let limits : List ℕ = limits_bytes head.limits in
    let identity : List ℕ = identity_bytes head.identity in
    let numbers : List ℕ = number ∷ publishing ∷ [] in
    e_is
    ∙ ap (λ (l : List ℕ). l ++ identity) (d_is ∙ ap (λ (l : List ℕ). l ++ limits)
    (c_is ∙ ap (λ (l : List ℕ). l ++ numbers) b_is))
    ∙ append_assoc ((a ++ magic) ++ numbers) limits identity
    ∙ append_assoc (a ++ magic) numbers (limits ++ identity)
    ∙ append_assoc a magic (numbers ++ (limits ++ identity))
    ∙ ap (λ (n : ℕ). a ++ (magic ++ n ∷ publishing ∷ limits ++ identity)) number_is
    ∙ ap (λ (n : ℕ). a ++ (magic ++ version_byte (version_of head) ∷ n ∷ limits ++ identity)) publishing_is

pub differs_from : (b : Bool) (P : Type 0) → (IsTrue b ↔ P) → b ≡ false → P → ⊥
differs_from b P iff is_not holds = let is : b ≡ true = iff.1 holds in absurd (cc (is_not, is))

bit : (n : ℕ) → n ≤ 1 → (b : Bool) × (n ≡ publishing_byte b)
bit zero small = (false, refl)
bit (suc zero) small = (true, refl)
bit (suc (suc n)) small = absurd (omega (arith, small))

-- what was read after the magic
module _ (file first rest second third : List ℕ) (number : ℕ) (version : Version) (publishing : ℕ)
    (front : first ≡ take 8 file) (back : rest ≡ drop 8 file) (magic_is : first ≡ magic)
    (rest_is : rest ≡ number ∷ second) (version_is : number ≡ version_byte version) where
  numbered : file ≡ magic ++ number ∷ second
  numbered =
      sym (take-append-drop 8 file)
      ∙ ap (λ (l : List ℕ). l ++ drop 8 file) (sym front ∙ magic_is)
      ∙ ap (λ (l : List ℕ). magic ++ l) (sym back ∙ rest_is)

  pub other_version : 38 ≤ length file → ((any : Version) → number ≡ version_byte any → ⊥) → HasOtherVersion file
  other_version long other =
      record { long = omega (arith, long); number = number; behind = second; spelled = numbered; other = other }

  versioned : file ≡ magic ++ version_byte version ∷ second
  versioned = numbered ∙ ap (λ (v : ℕ). magic ++ v ∷ second) version_is

  module _ (second_is : second ≡ publishing ∷ third) where
    published : file ≡ magic ++ version_byte version ∷ publishing ∷ third
    published = versioned ∙ ap (λ (l : List ℕ). magic ++ version_byte version ∷ l) second_is

    pub bad_publishing : head_size version ≤ length file → 1 < publishing → HasBadPublishing file
    bad_publishing long bad = record {
      version = version;
      long = long;
      publishing = publishing;
      behind = third;
      spelled = published;
      bad = bad;
    }

    module _ (limits : Limits) (more : List ℕ) (small : publishing ≤ 1) (third_is : third ≡ limits_bytes limits ++ more)
        (fits : LimitsFit limits) where
      pub bad_limits : head_size version ≤ length file → (IsAllowed limits → ⊥) → HasBadLimits file
      bad_limits long bad =
          let told = bit publishing small in
          record {
            version = version;
            long = long;
            publishing = told.0;
            behind = third;
            spelled = published ∙ ap (λ (p : ℕ). magic ++ version_byte version ∷ p ∷ third) told.1;
            bad = λ other rest spelled allowed.
                let same = limits_are other limits rest more (allowed_fits other allowed) fits (sym spelled ∙ third_is) in
                bad (subst IsAllowed same allowed);
          }

      -- the head that was read
      pub head_is : (shown : Bool) (identity : Option (List ℕ)) (behind : List ℕ) → publishing ≡ publishing_byte shown
          → version_by identity ≡ version → IsIdentity identity → more ≡ identity_bytes identity ++ behind
          → IsAllowed limits
          → HasHead file (record { publishing = shown; limits = limits; identity = identity })
      head_is shown identity behind shown_is by is more_is allowed = (
        behind,
        record {
          spelled = published
              ∙ ap (λ (v : Version). magic ++ version_byte v ∷ publishing ∷ third) (sym by)
              ∙ ap (λ (p : ℕ). magic ++ version_byte (version_by identity) ∷ p ∷ third) shown_is
              ∙ ap (λ (l : List ℕ). magic ++ version_byte (version_by identity) ∷ publishing_byte shown ∷ l)
              (third_is ∙ ap (λ (l : List ℕ). limits_bytes limits ++ l) more_is);
          allowed = record { limits = allowed; identity = is };
        },
      )

pub short_head : (file first rest second : List ℕ) (number : ℕ) (version : Version) → first ≡ take 8 file
    → rest ≡ drop 8 file → first ≡ magic → rest ≡ number ∷ second → number ≡ version_byte version
    → 38 ≤ length file → length file < head_size version → HasShortHead file
short_head file first rest second number First front back magic_is rest_is is long short =
    absurd (omega (arith, long, short))
short_head file first rest second number Second front back magic_is rest_is is long short = record {
  behind = second;
  spelled = sym (take-append-drop 8 file)
      ∙ ap (λ (l : List ℕ). l ++ drop 8 file) (sym front ∙ magic_is)
      ∙ ap (λ (l : List ℕ). magic ++ l) (sym back ∙ rest_is)
      ∙ ap (λ (v : ℕ). magic ++ v ∷ second) is;
  short = short;
}
