-- Which heads are shown, and which bookmarks they are given.
use Rattle.std.proofs.Common.{◌≡◌, ◌∙◌, ◌++◌, ◌∷◌, [], ◌+◌, ◌-◌, ◌<◌, ◌≤◌, ℕ, zero, suc, Bool, true, false, List}
use Rattle.std.proofs.Common.{◌&&◌, ◌==◌, ap, arith, cond, drop, filter, inl, inr, length, map, min, refl, subst, sym, take}
use Rattle.std.specs.Prelude.{bytes_eq, nat_lt, reverse}
use Rattle.std.specs.List.{range_with_len}
use Rattle.std.proofs.lemmas.Bool.{cases_Bool, cond_both, eqb-true, lt-ltb, ltb-true, ltb-false}
use Rattle.std.proofs.lemmas.List.{append-nil, append_assoc, length-append, length-drop, length-map, length-reverse}
use Rattle.std.proofs.lemmas.List.{length-take, length_push, map-append, reverse-append, take_all, take-append-le, take_at}
use Rattle.std.proofs.lemmas.List.Elements.{filter-append}
use Rattle.hg_types.specs.declared.node.Node.{Node}
use Rattle.hg_types.specs.declared.phase.Phase.{Phase}
use Rattle.hg_log.specs.Changeset.{Changeset}
use Rattle.hg_log.specs.HeadCount.{head_count, head_revs, is_childless, is_head}
use Rattle.hg_keys.specs.Bookmarks.{Pairs}
use Rattle.hg_status.specs.declared.heads.ShownHead.{ShownHead}
use Rattle.hg_status.specs.Heads.{first_of, names_on, near_heads, shown_revs, AreOf, IsOf}
use Rattle.hg_status.specs.Name.{name_of}
use Rattle.hg_status.specs.PushCounts.{sum_of}
use Rattle.hg_status.specs.code.Giving.{given, AddsIfHead}

-- ---- the numbers that pass a test, from above

range_more : (a n : ℕ) → range_with_len a (suc n) ≡ range_with_len a n ++ (a + n) ∷ []
range_more a zero = ap (λ (k : ℕ). k ∷ []) (omega arith)
range_more a (suc n) =
    let next : a + 1 + n ≡ a + suc n = omega arith in
    ap (λ (ks : List ℕ). a ∷ ks) (range_more (a + 1) n ∙ ap (λ (k : ℕ). range_with_len (a + 1) n ++ k ∷ []) next)

-- a stretch of numbers in two
pub range_parts : (a m n : ℕ) → range_with_len a (m + n) ≡ range_with_len a m ++ range_with_len (a + m) n
range_parts a zero n =
    let size : zero + n ≡ n = omega arith in
    let start : a ≡ a + zero = omega arith in
    ap (range_with_len a) size ∙ ap (λ (k : ℕ). range_with_len k n) start
range_parts a (suc m) n =
    let size : suc m + n ≡ suc (m + n) = omega arith in
    let start : a + 1 + m ≡ a + suc m = omega arith in
    ap (range_with_len a) size
    ∙ ap (λ (ks : List ℕ). a ∷ ks) (range_parts (a + 1) m n
    ∙ ap (λ (k : ℕ). range_with_len (a + 1) m ++ range_with_len k n) start)

-- so many from a number on, the highest first
abbrev pub below : (ℕ → Bool) → ℕ → ℕ → List ℕ
below p a n = reverse (filter p (range_with_len a n))

one_below : (p : ℕ → Bool) (a n : ℕ) → below p a (suc n) ≡ reverse (filter p ((a + n) ∷ [])) ++ below p a n
one_below p a n =
    ap (λ (ks : List ℕ). reverse (filter p ks)) (range_more a n)
    ∙ ap reverse (filter-append p (range_with_len a n) ((a + n) ∷ []))
    ∙ reverse-append (filter p (range_with_len a n)) (filter p ((a + n) ∷ []))

kept_one : (b : Bool) (n : ℕ) (ks : List ℕ) → b ≡ true → reverse (cond b (n ∷ []) []) ++ ks ≡ n ∷ ks
kept_one b n ks is = rw is refl

kept_none : (b : Bool) (n : ℕ) (ks : List ℕ) → b ≡ false → reverse (cond b (n ∷ []) []) ++ ks ≡ ks
kept_none b n ks is = rw is refl

pub below_with : (p : ℕ → Bool) (a n : ℕ) → p (a + n) ≡ true → below p a (suc n) ≡ (a + n) ∷ below p a n
below_with p a n is = one_below p a n ∙ kept_one (p (a + n)) (a + n) (below p a n) is

pub below_without : (p : ℕ → Bool) (a n : ℕ) → p (a + n) ≡ false → below p a (suc n) ≡ below p a n
below_without p a n is = one_below p a n ∙ kept_none (p (a + n)) (a + n) (below p a n) is

-- a front that is as long as it may be, or all
pub front_taken : (most : ℕ) (front rest all : List ℕ) → front ++ rest ≡ all → length front ≤ most
    → min (length all) most ≤ length front → take most all ≡ front
front_taken most front [] all parts few enough =
    let same : front ≡ all = sym (append-nil front) ∙ parts in
    ap (take most) (sym same) ∙ take_all most front few
front_taken most front (x ∷ rest) all parts few enough =
    let long : length all ≡ length front + suc (length rest) =
    ap length (sym parts) ∙ length-append front (x ∷ rest) in
    let full : length front ≡ most = omega (arith, long, few, enough) in
    ap (take most) (sym parts) ∙ take_at front (x ∷ rest) most full

-- ---- the names that pass a test, the first eight and how many more

abbrev pub passing : {X : Type 0} → (List ℕ × X → Bool) → List (List ℕ × X) → List (List ℕ)
passing p pairs = map (λ pair. pair.0) (filter p pairs)

passing_more : {X : Type 0} (p : List ℕ × X → Bool) (pairs : List (List ℕ × X)) (pair : List ℕ × X)
    → passing p (pairs ++ pair ∷ []) ≡ passing p pairs ++ passing p (pair ∷ [])
passing_more {X} p pairs pair =
    ap (λ (kept : List (List ℕ × X)). map (λ (q : List ℕ × X). q.0) kept) (filter-append p pairs (pair ∷ []))
    ∙ map-append (λ (q : List ℕ × X). q.0) (filter p pairs) (filter p (pair ∷ []))

pub passing_with : {X : Type 0} (p : List ℕ × X → Bool) (pairs : List (List ℕ × X)) (pair : List ℕ × X)
    → p pair ≡ true → passing p (pairs ++ pair ∷ []) ≡ passing p pairs ++ pair.0 ∷ []
passing_with {X} p pairs pair is =
    passing_more p pairs pair
    ∙ ap (λ (b : Bool). passing p pairs ++ map (λ (q : List ℕ × X). q.0) (cond b (pair ∷ []) [])) is

pub passing_without : {X : Type 0} (p : List ℕ × X → Bool) (pairs : List (List ℕ × X)) (pair : List ℕ × X)
    → p pair ≡ false → passing p (pairs ++ pair ∷ []) ≡ passing p pairs
passing_without {X} p pairs pair is =
    passing_more p pairs pair
    ∙ ap (λ (b : Bool). passing p pairs ++ map (λ (q : List ℕ × X). q.0) (cond b (pair ∷ []) [])) is
    ∙ append-nil (passing p pairs)

pub passing_few : {X : Type 0} (p : List ℕ × X → Bool) (pairs : List (List ℕ × X))
    → length (passing p pairs) ≤ length pairs
passing_few p [] = omega arith
passing_few {X} p (pair ∷ pairs) =
    let later = passing_few p pairs in
    elim (cases_Bool (p pair)) [
      | inl is ↦ omega (arith, later, ap (λ (b : Bool). length (map (λ (q : List ℕ × X). q.0) (cond b (pair ∷ filter p pairs) (filter p pairs)))) is)
      | inr is ↦ omega (arith, later, ap (λ (b : Bool). length (map (λ (q : List ℕ × X). q.0) (cond b (pair ∷ filter p pairs) (filter p pairs)))) is)
    ]

-- one more name, where fewer than eight are shown
pub shown_more : {X : Type 0} (f : List ℕ → X) (names : List (List ℕ)) (name : List ℕ) (shown : List X)
    → shown ≡ map f (take 8 names) → nat_lt (length shown) 8 ≡ true
    → (shown ++ f name ∷ [] ≡ map f (take 8 (names ++ name ∷ []))) × (length names - 8 ≡ length (names ++ name ∷ []) - 8)
shown_more {X} f names name shown are room =
    let few : length shown < 8 = ltb-true (length shown) 8 room in
    let long : length shown ≡ min 8 (length names) =
    ap length are ∙ length-map (take 8 names) f ∙ length-take 8 names in
    let short : length names < 8 = omega (arith, few, long) in
    let longer : length (names ++ name ∷ []) ≡ length names + 1 = length_push names name in
    let all : take 8 (names ++ name ∷ []) ≡ take 8 names ++ name ∷ [] =
    take_all 8 (names ++ name ∷ []) (omega (arith, short, longer))
    ∙ ap (λ (ns : List (List ℕ)). ns ++ name ∷ []) (sym (take_all 8 names (omega (arith, short)))) in (
      ap (λ (xs : List X). xs ++ f name ∷ []) are ∙ sym (map-append f (take 8 names) (name ∷ [])) ∙ ap (map f) (sym all),
      omega (arith, short, longer),
    )

-- and where eight are
pub shown_full : {X : Type 0} (f : List ℕ → X) (names : List (List ℕ)) (name : List ℕ) (shown : List X)
    → shown ≡ map f (take 8 names) → nat_lt (length shown) 8 ≡ false
    → (shown ≡ map f (take 8 (names ++ name ∷ []))) × (length (names ++ name ∷ []) - 8 ≡ length names - 8 + 1)
shown_full f names name shown are full =
    let many : 8 ≤ length shown = ltb-false (length shown) 8 full in
    let long : length shown ≡ min 8 (length names) =
    ap length are ∙ length-map (take 8 names) f ∙ length-take 8 names in
    let enough : 8 ≤ length names = omega (arith, many, long) in
    let longer : length (names ++ name ∷ []) ≡ length names + 1 = length_push names name in
    (are ∙ ap (map f) (sym (take-append-le 8 names (name ∷ []) enough)), omega (arith, enough, longer))

-- ---- heads and the changesets that they are

pub are_more : {A : Type 0} (rows : List Changeset) (phases : List Phase) (pairs : Pairs) (revs : List ℕ)
    (heads : List (ShownHead A)) (rev : ℕ) (head : ShownHead A) → AreOf rows phases pairs revs heads
    → IsOf rows phases pairs rev head → AreOf rows phases pairs (revs ++ rev ∷ []) (heads ++ head ∷ [])
are_more rows phases pairs [] [] rev head are is = (is, tt)
are_more rows phases pairs [] (h ∷ heads) rev head are is = absurd are
are_more rows phases pairs (r ∷ revs) [] rev head are is = absurd are
are_more rows phases pairs (r ∷ revs) (h ∷ heads) rev head are is =
    (are.0, are_more rows phases pairs revs heads rev head are.1 is)

pub are_as_many : {A : Type 0} (rows : List Changeset) (phases : List Phase) (pairs : Pairs) (revs : List ℕ)
    (heads : List (ShownHead A)) → AreOf rows phases pairs revs heads → length heads ≡ length revs
are_as_many rows phases pairs [] [] are = refl
are_as_many rows phases pairs [] (h ∷ heads) are = absurd are
are_as_many rows phases pairs (r ∷ revs) [] are = absurd are
are_as_many rows phases pairs (r ∷ revs) (h ∷ heads) are =
    ap (λ (n : ℕ). suc n) (are_as_many rows phases pairs revs heads are.1)

-- the heads of the changesets from a number on are read
pub record AreRead {A : Type 0} (rows : List Changeset) (phases : List Phase) (rev : ℕ) (heads : List (ShownHead A)) :
    Type 0 where
  pub revs : List ℕ
  pub left : ℕ
  pub from : rev ≡ first_of rows + left
  pub are : AreOf rows phases [] revs heads
  pub parts : revs ++ below (is_childless rows) (first_of rows) left ≡ reverse (near_heads rows)
  pub few : length heads ≤ 100
  pub within : rev ≤ length rows

pub none_read : {A : Type 0} (rows : List Changeset) (phases : List Phase) (heads : List (ShownHead A)) → heads ≡ []
    → AreRead rows phases (length rows) heads
unfolding near_heads
none_read {A} rows phases heads none =
    subst (λ (hs : List (ShownHead A)). AreRead rows phases (length rows) hs) (sym none)
    (record {
      revs = [];
      left = length rows - first_of rows;
      from = omega arith;
      are = tt;
      parts = refl;
      few = omega arith;
      within = omega arith;
    })

-- a changeset is a head of the rows where it is nobody's parent
childless_is : (rows : List Changeset) (rev : ℕ) (b : Bool) → rev < length rows → is_childless rows rev ≡ b
    → is_head rows rev ≡ b
childless_is rows rev b within is =
    ap (λ (t : Bool). t && is_childless rows rev) (lt-ltb rev (length rows) within) ∙ is

pub one_read : {A : Type 0} (rows : List Changeset) (phases : List Phase) (rev : ℕ) (before after : List (ShownHead A))
    → first_of rows ≤ rev → AreRead rows phases (suc rev) before → length before < 100
    → AddsIfHead rows phases rev before after → AreRead rows phases rev after
one_read {A} rows phases rev before after past read room adds =
    let low : rev < length rows = omega (arith, read.within) in
    let start = first_of rows in
    let left : ℕ = rev - start in
    let here : start + left ≡ rev = omega (arith, past) in
    let one_more : read.left ≡ suc left = omega (arith, read.from, past) in
    let parts : read.revs ++ below (is_childless rows) start (suc left) ≡ reverse (near_heads rows) =
    subst (λ (n : ℕ). read.revs ++ below (is_childless rows) start n ≡ reverse (near_heads rows)) one_more read.parts in
    elim (cases_Bool (is_childless rows rev)) [
      | inl passes ↦
          let one = adds.0 (childless_is rows rev true low passes) in
          let long : length after ≡ length before + 1 = ap length one.2 ∙ length_push before one.0 in
          let with : below (is_childless rows) start (suc left) ≡ rev ∷ below (is_childless rows) start left =
          below_with (is_childless rows) start left (ap (is_childless rows) here ∙ passes)
          ∙ ap (λ (n : ℕ). n ∷ below (is_childless rows) start left) here in
          record {
            revs = read.revs ++ rev ∷ [];
            left = left;
            from = sym here;
            are = subst (λ (hs : List (ShownHead A)). AreOf rows phases [] (read.revs ++ rev ∷ []) hs) (sym one.2)
                (are_more rows phases [] read.revs before rev one.0 read.are one.1);
            parts = append_assoc read.revs (rev ∷ []) (below (is_childless rows) start left)
                ∙ ap (λ (ks : List ℕ). read.revs ++ ks) (sym with) ∙ parts;
            few = omega (arith, long, room);
            within = omega (arith, low);
          }
      | inr fails ↦
          let same = adds.1 (childless_is rows rev false low fails) in
          let without = below_without (is_childless rows) start left (ap (is_childless rows) here ∙ fails) in
          record {
            revs = read.revs;
            left = left;
            from = sym here;
            are = subst (λ (hs : List (ShownHead A)). AreOf rows phases [] read.revs hs) (sym same) read.are;
            parts = ap (λ (ks : List ℕ). read.revs ++ ks) (sym without) ∙ parts;
            few = omega (arith, ap length same, read.few);
            within = omega (arith, low);
          }
    ]

-- what is read are the heads that are shown, once there are as many as are to be, or no more changesets
pub all_read : {A : Type 0} (rows : List Changeset) (phases : List Phase) (rev : ℕ) (heads : List (ShownHead A))
    → AreRead rows phases rev heads → min (length (near_heads rows)) 100 ≤ length heads
    → AreOf rows phases [] (shown_revs rows) heads
unfolding shown_revs
all_read {A} rows phases rev heads read enough =
    let long = are_as_many rows phases [] read.revs heads read.are in
    let all : length (reverse (near_heads rows)) ≡ length (near_heads rows) = length-reverse (near_heads rows) in
    subst (λ (rs : List ℕ). AreOf rows phases [] rs heads)
    (sym (front_taken 100 read.revs (below (is_childless rows) (first_of rows) read.left) (reverse (near_heads rows))
    read.parts (omega (arith, long, read.few)) (omega (arith, long, all, enough))))
    read.are

-- all of them
pub none_left : {A : Type 0} (rows : List Changeset) (phases : List Phase) (rev : ℕ) (heads : List (ShownHead A))
    → rev ≤ first_of rows → AreRead rows phases rev heads → length heads ≡ length (near_heads rows)
none_left rows phases rev heads past read =
    let none : read.left ≡ 0 = omega (arith, read.from, past) in
    let whole : read.revs ++ [] ≡ reverse (near_heads rows) =
    subst (λ (n : ℕ). read.revs ++ below (is_childless rows) (first_of rows) n ≡ reverse (near_heads rows)) none
    read.parts in
    are_as_many rows phases [] read.revs heads read.are
    ∙ ap length (sym (append-nil read.revs) ∙ whole) ∙ length-reverse (near_heads rows)

-- they are no more than all heads
near_fewer : (rows : List Changeset) → length (near_heads rows) ≤ length (head_revs rows)
unfolding near_heads head_revs
near_fewer rows =
    let test = is_childless rows in
    let start = first_of rows in
    let rest : ℕ = length rows - start in
    let size : start + rest ≡ length rows = omega arith in
    let whole : filter test (range_with_len 0 (length rows))
    ≡ filter test (range_with_len 0 start) ++ filter test (range_with_len start rest) =
    ap (λ (n : ℕ). filter test (range_with_len 0 n)) (sym size)
    ∙ ap (filter test) (range_parts 0 start rest)
    ∙ filter-append test (range_with_len 0 start) (range_with_len (0 + start) rest)
    ∙ ap (λ (k : ℕ). filter test (range_with_len 0 start) ++ filter test (range_with_len k rest))
    (omega arith) in
    omega (
      arith,
      ap length whole,
      length-append (filter test (range_with_len 0 start)) (filter test (range_with_len start rest)),
    )

-- ---- a bookmark is given to the heads

given_not : {A : Type 0} (pair : List ℕ × Node) (head : ShownHead A) → bytes_eq head.node.0 pair.1.0 ≡ false
    → given pair head ≡ head
unfolding given
given_not pair head fails = rw fails refl

given_name : {A : Type 0} (pair : List ℕ × Node) (head : ShownHead A) → bytes_eq head.node.0 pair.1.0 ≡ true
    → nat_lt (length head.bookmarks) 8 ≡ true
    → given pair head ≡ record head { bookmarks = head.bookmarks ++ name_of pair.0 ∷ [] }
unfolding given
given_name pair head on room = rw (on, room) refl

given_number : {A : Type 0} (pair : List ℕ × Node) (head : ShownHead A) → bytes_eq head.node.0 pair.1.0 ≡ true
    → nat_lt (length head.bookmarks) 8 ≡ false → given pair head ≡ record head { more = sum_of head.more 1 }
unfolding given
given_number pair head on full = rw (on, full) refl

names_with : (pairs : Pairs) (pair : List ℕ × Node) (id : List ℕ) → bytes_eq id pair.1.0 ≡ true
    → names_on (pairs ++ pair ∷ []) id ≡ names_on pairs id ++ pair.0 ∷ []
unfolding names_on
names_with pairs pair id on = passing_with (λ (p : List ℕ × Node). bytes_eq id p.1.0) pairs pair on

names_without : (pairs : Pairs) (pair : List ℕ × Node) (id : List ℕ) → bytes_eq id pair.1.0 ≡ false
    → names_on (pairs ++ pair ∷ []) id ≡ names_on pairs id
unfolding names_on
names_without pairs pair id fails = passing_without (λ (p : List ℕ × Node). bytes_eq id p.1.0) pairs pair fails

names_few : (pairs : Pairs) (id : List ℕ) → length (names_on pairs id) ≤ length pairs
unfolding names_on
names_few pairs id = passing_few (λ (p : List ℕ × Node). bytes_eq id p.1.0) pairs

is_given : {A : Type 0} (rows : List Changeset) (phases : List Phase) (pairs : Pairs) (pair : List ℕ × Node) (rev : ℕ)
    (head : ShownHead A) → length pairs < 10000 → IsOf rows phases pairs rev head
    → IsOf rows phases (pairs ++ pair ∷ []) rev (given pair head)
is_given {A} rows phases pairs pair rev head few is =
    let id = head.node.0 in
    let names = names_on pairs id in
    elim (cases_Bool (bytes_eq id pair.1.0)) [
      | inr fails ↦
          let same = sym (names_without pairs pair id fails) in
          subst (λ (h : ShownHead A). IsOf rows phases (pairs ++ pair ∷ []) rev h) (sym (given_not pair head fails))
          (record {
            node = is.node;
            phase = is.phase;
            branch = is.branch;
            bookmarks = is.bookmarks ∙ ap (λ (ns : List (List ℕ)). map name_of (take 8 ns)) same;
            more = is.more ∙ ap (λ (ns : List (List ℕ)). length ns - 8) same;
          })
      | inl on ↦
          let same = sym (names_with pairs pair id on) in
          elim (cases_Bool (nat_lt (length head.bookmarks) 8)) [
            | inl room ↦
                let one = shown_more name_of names pair.0 head.bookmarks is.bookmarks room in
                subst (λ (h : ShownHead A). IsOf rows phases (pairs ++ pair ∷ []) rev h)
                (sym (given_name pair head on room))
                (record {
                  node = is.node;
                  phase = is.phase;
                  branch = is.branch;
                  bookmarks = one.0 ∙ ap (λ (ns : List (List ℕ)). map name_of (take 8 ns)) same;
                  more = is.more ∙ one.1 ∙ ap (λ (ns : List (List ℕ)). length ns - 8) same;
                })
            | inr full ↦
                let one = shown_full name_of names pair.0 head.bookmarks is.bookmarks full in
                let low : length names < 10000 = omega (arith, names_few pairs id, few) in
                let sum : sum_of head.more 1 ≡ length names - 8 + 1 = omega (arith, is.more, low) in
                subst (λ (h : ShownHead A). IsOf rows phases (pairs ++ pair ∷ []) rev h)
                (sym (given_number pair head on full))
                (record {
                  node = is.node;
                  phase = is.phase;
                  branch = is.branch;
                  bookmarks = one.0 ∙ ap (λ (ns : List (List ℕ)). map name_of (take 8 ns)) same;
                  more = sum ∙ sym one.1 ∙ ap (λ (ns : List (List ℕ)). length ns - 8) same;
                })
          ]
    ]

pub are_given : {A : Type 0} (rows : List Changeset) (phases : List Phase) (pairs : Pairs) (pair : List ℕ × Node)
    (revs : List ℕ) (heads : List (ShownHead A)) → length pairs < 10000 → AreOf rows phases pairs revs heads
    → AreOf rows phases (pairs ++ pair ∷ []) revs (map (given pair) heads)
are_given rows phases pairs pair [] [] few are = tt
are_given rows phases pairs pair [] (h ∷ heads) few are = absurd are
are_given rows phases pairs pair (r ∷ revs) [] few are = absurd are
are_given rows phases pairs pair (r ∷ revs) (h ∷ heads) few are =
    (is_given rows phases pairs pair r h few are.0, are_given rows phases pairs pair revs heads few are.1)

-- ---- the bookmarks, one after the other

taken_next : {X : Type 0} (i : ℕ) (xs ys : List X) (x : X) → drop i xs ≡ x ∷ ys
    → (take (suc i) xs ≡ take i xs ++ x ∷ []) × (drop (suc i) xs ≡ ys)
taken_next zero [] ys x is = absurd cc
taken_next {X} zero (z ∷ zs) ys x is =
    let first : z ≡ x = cc in
    let rest : zs ≡ ys = cc in
    (ap (λ (y : X). y ∷ []) first, rest)
taken_next (suc i) [] ys x is = absurd cc
taken_next {X} (suc i) (z ∷ zs) ys x is =
    let rest = taken_next i zs ys x is in (ap (λ (ts : List X). z ∷ ts) rest.0, rest.1)

pub next_taken : {X : Type 0} (i : ℕ) (xs ys : List X) (x : X) → drop i xs ≡ x ∷ ys
    → (take (i + 1) xs ≡ take i xs ++ x ∷ []) × (drop (i + 1) xs ≡ ys)
next_taken {X} i xs ys x is =
    let more : suc i ≡ i + 1 = omega arith in
    subst (λ (n : ℕ). (take n xs ≡ take i xs ++ x ∷ []) × (drop n xs ≡ ys)) more (taken_next i xs ys x is)

-- one more bookmark
pub next_given : {A : Type 0} (rows : List Changeset) (phases : List Phase) (pairs rest : Pairs) (pair : List ℕ × Node)
    (i : ℕ) (revs : List ℕ) (before after : List (ShownHead A)) → i < 10000 → drop i pairs ≡ pair ∷ rest
    → after ≡ map (given pair) before → AreOf rows phases (take i pairs) revs before
    → AreOf rows phases (take (i + 1) pairs) revs after
next_given {A} rows phases pairs rest pair i revs before after few next is are =
    let low : length (take i pairs) < 10000 = omega (arith, length-take i pairs, few) in
    subst (λ (ps : Pairs). AreOf rows phases ps revs after) (sym (next_taken i pairs rest pair next).0)
    (subst (λ (hs : List (ShownHead A)). AreOf rows phases (take i pairs ++ pair ∷ []) revs hs) (sym is)
    (are_given rows phases (take i pairs) pair revs before low are))

-- there are no more
pub no_more : (pairs : Pairs) (i len : ℕ) → drop i pairs ≡ [] → i ≤ len → take i pairs ≡ take len pairs
no_more pairs i len none low =
    let long : length pairs ≤ i = omega (arith, length-drop i pairs, ap length none) in
    take_all i pairs long ∙ sym (take_all len pairs (omega (arith, long, low)))

-- there are as many heads to be shown as there are heads, or more
pub count_enough : (rows : List Changeset) → length (near_heads rows) ≤ head_count rows
unfolding head_count
count_enough rows =
    let count = length (head_revs rows) in
    let all : count ≤ cond (count == 0) 1 count =
    cond_both (count == 0) 1 count (λ (n : ℕ). count ≤ n) (λ e. omega (arith, eqb-true count 0 e)) (λ e. omega arith) in
    omega (arith, all, near_fewer rows)
