-- Messages that are hashed side by side.
use Rattle.std.proofs.Common.{◌≡◌, ◌⊎◌, ℕ, ◌<◌, ◌+◌, ◌-◌, ◌/◌, ◌^◌, List, [], length, slice_set, arith, sym, ap, ◌∙◌, inl, inr, All}
use Rattle.std.proofs.lemmas.List.{get_or-map, get_or-set_other, get_or-set_same, length-map, same_lists, get_or_default}
use Rattle.std.proofs.lemmas.List.Elements.{All-get_or}
use Rattle.std.proofs.lemmas.Bool.{cases_eq}
use Rattle.std.proofs.Math.ListN.{get_or}
use Rattle.sha1.specs.Sha1.{compress, digest_bytes, hash_after, initial_hash, padded_message, sha1}
use Rattle.sha1.proofs.Absorbing.{hash_after_next}
use Rattle.hg_digests.specs.declared.lane.Lane.{Lane}
use Rattle.hg_digests.specs.declared.lanes.Lanes.{Lanes}
use Rattle.hg_digests.specs.declared.place.Place.{Place}
use Rattle.hg_digests.specs.Messages.{IsWithin, digest_at, digests_at, message_at}
use Rattle.hg_digests.specs.code.Blocks.{block_of, count_of}
use Rattle.hg_digests.specs.code.Lanes.{own}
use Rattle.hg_digests.specs.code.Hashing.{Advances, Has, IsHashing, IsLane, IsMessage, IsNext, IsRight, messages_at}
use Rattle.hg_digests.proofs.BlockLemmas.{length-message, length-padded}

-- the length of the message of that number
pub length-own : (bytes : List ℕ) (places : List Place) (i : ℕ) (d : Place) → All (IsWithin (length bytes)) places → i < length places
    → length (own (messages_at bytes places) i) ≡ 40 + ((get_or places i d).to - (get_or places i d).from)
length-own bytes places i d within there =
    ap length (get_or-map (message_at bytes) places i d [] there)
    ∙ length-message bytes (get_or places i d) (All-get_or (IsWithin (length bytes)) places i d there within)

-- the hash value after one more block
pub hash-next : (messages : List (List ℕ)) (lane : Lane) (hash : List ℕ) → 0 < lane.left → IsMessage messages lane → IsNext messages lane hash
    → hash ≡ hash_after (padded_message (own messages lane.number)) (lane.taken + 1)
hash-next messages lane hash busy held next =
    let p : List ℕ = padded_message (own messages lane.number) in
    next busy ∙ ap (λ (h : List ℕ). compress h (block_of (own messages lane.number) lane.taken)) held.hash ∙ sym (hash_after_next p lane.taken)

-- after its last block the digest of a message is known
pub digest-last : (messages : List (List ℕ)) (lane : Lane) (hash : List ℕ) → lane.left ≡ 1 → IsMessage messages lane → IsNext messages lane hash
    → digest_bytes hash 5 ≡ sha1 (own messages lane.number)
unfolding sha1
digest-last messages lane hash last held next =
    let m : List ℕ = own messages lane.number in
    let all : lane.taken + 1 ≡ length (padded_message m) / 64 = omega (arith, held.blocks, length-padded m) in
    let value : hash ≡ hash_after (padded_message m) (length (padded_message m) / 64) =
    hash-next messages lane hash (omega arith) held next ∙ ap (hash_after (padded_message m)) all in
    ap (λ (h : List ℕ). digest_bytes h 5) value

-- a right digest that is written leaves the right ones right, and is right itself
pub right-set : (messages digests : List (List ℕ)) (n : ℕ) (digest : List ℕ) → n < length digests → digest ≡ sha1 (own messages n)
    → (i : ℕ) → (i ≡ n) ⊎ IsRight messages digests i → IsRight messages (slice_set digests n digest) i
right-set messages digests n digest there right i known = elim (cases_eq i n) [
  | inl here ↦ rw here (get_or-set_same digests n digest [] there ∙ right)
  | inr other ↦ elim known [
    | inl here ↦ absurd (other here)
    | inr held ↦ get_or-set_other digests n i digest [] other ∙ held
  ]
]

-- what is in hand stays in hand, where each of its parts does
pub in-hand : {A B C D R A' B' C' D' R' : Type 0} → (A → A' ⊎ R') → (B → B' ⊎ R') → (C → C' ⊎ R') → (D → D' ⊎ R') → (R → R')
    → A ⊎ B ⊎ C ⊎ D ⊎ R → A' ⊎ B' ⊎ C' ⊎ D' ⊎ R'
in-hand a b c d r held = elim held [
  | inl x ↦ elim (a x) [ inl y ↦ inl y | inr y ↦ inr (inr (inr (inr y))) ]
  | inr rest ↦ elim rest [
    | inl x ↦ elim (b x) [ inl y ↦ inr (inl y) | inr y ↦ inr (inr (inr (inr y))) ]
    | inr rest ↦ elim rest [
      | inl x ↦ elim (c x) [ inl y ↦ inr (inr (inl y)) | inr y ↦ inr (inr (inr (inr y))) ]
      | inr rest ↦ elim rest [
        | inl x ↦ elim (d x) [ inl y ↦ inr (inr (inr (inl y))) | inr y ↦ inr (inr (inr (inr y))) ]
        | inr x ↦ inr (inr (inr (inr (r x))))
      ]
    ]
  ]
]

-- ---- one lane

pub lane-begun : (messages : List (List ℕ)) (lane : Lane) → lane.number < length messages → lane.hash ≡ initial_hash → lane.taken ≡ 0
    → lane.left ≡ count_of (length (own messages lane.number)) → lane.left < 2 ^ 60 → IsLane messages lane
unfolding hash_after
lane-begun messages lane there hash taken left short busy = record {
  there = there;
  blocks = omega arith;
  short = omega arith;
  hash = rw taken hash;
}

pub advances-none : (messages digests : List (List ℕ)) (lane : Lane) → lane.left ≡ 0 → Advances messages lane lane digests digests
advances-none messages digests lane none = record {
  sound = λ busy. absurd (omega arith);
  has = λ i h. inl h;
  right = λ i h. h;
}

pub advances-more : (messages digests : List (List ℕ)) (lane next : Lane) (hash : List ℕ) → 1 < lane.left → IsLane messages lane → IsNext messages lane hash
    → next ≡ record { number = lane.number; hash = hash; taken = lane.taken + 1; left = lane.left - 1 }
    → Advances messages lane next digests digests
advances-more messages digests lane next hash more sound is_next e =
    let held : IsMessage messages lane = sound (omega arith) in
    rw e (record {
      sound = λ busy. record {
        there = held.there;
        blocks = omega (arith, held.blocks);
        short = omega (arith, held.short);
        hash = hash-next messages lane hash (omega arith) held is_next;
      };
      has = λ i h. inl (omega arith, h.1);
      right = λ i h. h;
    })

pub advances-last : (messages digests : List (List ℕ)) (lane next : Lane) (hash digest : List ℕ) → lane.left ≡ 1 → IsLane messages lane
    → IsNext messages lane hash → lane.number < length digests → digest ≡ digest_bytes hash 5 → next.left ≡ 0
    → Advances messages lane next digests (slice_set digests lane.number digest)
advances-last messages digests lane next hash digest last sound is_next room e none =
    let held : IsMessage messages lane = sound (omega arith) in
    let right : digest ≡ sha1 (own messages lane.number) = e ∙ digest-last messages lane hash last held is_next in
    record {
      sound = λ busy. absurd (omega arith);
      has = λ i h. inr (right-set messages digests lane.number digest room right i (inl (sym h.1)));
      right = λ i h. right-set messages digests lane.number digest room right i (inr h);
    }

-- ---- four lanes

-- what is in hand, by where it is
pub where-in-hand : {A B C D R Z : Type 0} → (A → Z) → (B → Z) → (C → Z) → (D → Z) → (R → Z) → A ⊎ B ⊎ C ⊎ D ⊎ R → Z
where-in-hand a b c d r held = elim held [
  | inl x ↦ a x
  | inr rest ↦ elim rest [
    | inl x ↦ b x
    | inr rest ↦ elim rest [
      | inl x ↦ c x
      | inr rest ↦ elim rest [
        | inl x ↦ d x
        | inr x ↦ r x
      ]
    ]
  ]
]

pub hashing-empty : (messages digests : List (List ℕ)) (lane : Lane) → lane.left ≡ 0 → length digests ≡ length messages
    → IsHashing messages (record { a = lane; b = lane; c = lane; d = lane; begun = 0 }) digests
hashing-empty messages digests lane none room = record {
  a = λ busy. absurd (omega arith);
  b = λ busy. absurd (omega arith);
  c = λ busy. absurd (omega arith);
  d = λ busy. absurd (omega arith);
  room = room;
  begun = λ i below. absurd (omega arith);
}

-- the message of the first lane's next number begins there
pub hashing-begun : (messages digests : List (List ℕ)) (lanes : Lanes) (lane : Lane) → IsHashing messages lanes digests → lanes.a.left ≡ 0
    → IsLane messages lane → Has lanes.begun lane
    → IsHashing messages (record { a = lane; b = lanes.b; c = lanes.c; d = lanes.d; begun = lanes.begun + 1 }) digests
hashing-begun messages digests lanes lane held none sound has = record {
  a = sound;
  b = held.b;
  c = held.c;
  d = held.d;
  room = held.room;
  begun = λ i below. elim (cases_eq i lanes.begun) [
    | inl e ↦ inl (has.0, has.1 ∙ sym e)
    | inr other ↦
        where-in-hand (λ (x : Has i lanes.a). absurd (omega (arith, x.0))) (λ x. inr (inl x)) (λ x. inr (inr (inl x)))
        (λ x. inr (inr (inr (inl x)))) (λ x. inr (inr (inr (inr x)))) (held.begun i (omega arith))
  ];
}

-- each lane goes on by a block
pub hashing-stepped : (messages d0 d1 d2 d3 d4 : List (List ℕ)) (lanes : Lanes) (a b c d : Lane) → IsHashing messages lanes d0
    → Advances messages lanes.a a d0 d1 → Advances messages lanes.b b d1 d2 → Advances messages lanes.c c d2 d3
    → Advances messages lanes.d d d3 d4 → length d4 ≡ length d0
    → IsHashing messages (record { a = a; b = b; c = c; d = d; begun = lanes.begun }) d4
hashing-stepped messages d0 d1 d2 d3 d4 lanes a b c d held by_a by_b by_c by_d same = record {
  a = by_a.sound;
  b = by_b.sound;
  c = by_c.sound;
  d = by_d.sound;
  room = same ∙ held.room;
  begun = λ i below. in-hand
      (λ h. elim (by_a.has i h) [ inl x ↦ inl x | inr x ↦ inr (by_d.right i (by_c.right i (by_b.right i x))) ])
      (λ h. elim (by_b.has i h) [ inl x ↦ inl x | inr x ↦ inr (by_d.right i (by_c.right i x)) ])
      (λ h. elim (by_c.has i h) [ inl x ↦ inl x | inr x ↦ inr (by_d.right i x) ])
      (λ h. by_d.has i h) (λ x. by_d.right i (by_c.right i (by_b.right i (by_a.right i x)))) (held.begun i below);
}

-- the first lane goes last
pub hashing-turned : (messages digests : List (List ℕ)) (lanes : Lanes) → IsHashing messages lanes digests
    → IsHashing messages (record { a = lanes.b; b = lanes.c; c = lanes.d; d = lanes.a; begun = lanes.begun }) digests
hashing-turned messages digests lanes held = record {
  a = held.b;
  b = held.c;
  c = held.d;
  d = held.a;
  room = held.room;
  begun = λ i below.
      where-in-hand (λ x. inr (inr (inr (inl x)))) (λ x. inl x) (λ x. inr (inl x)) (λ x. inr (inr (inl x))) (λ x. inr (inr (inr (inr x))))
      (held.begun i below);
}

-- two lanes in one order or the other
abbrev pub AreThese : Lane → Lane → (Lane × Lane) → Type 0
AreThese a b pair = (pair ≡ (a, b)) ⊎ (pair ≡ (b, a))

pub hashing-ab : (messages digests : List (List ℕ)) (a b c d : Lane) (n : ℕ) (pair : Lane × Lane) → AreThese a b pair
    → IsHashing messages (record { a = a; b = b; c = c; d = d; begun = n }) digests
    → IsHashing messages (record { a = pair.0; b = pair.1; c = c; d = d; begun = n }) digests
hashing-ab messages digests a b c d n pair these held = elim these [
  | inl e ↦ rw e held
  | inr e ↦ rw e (record {
    a = held.b;
    b = held.a;
    c = held.c;
    d = held.d;
    room = held.room;
    begun = λ i below.
        where-in-hand (λ x. inr (inl x)) (λ x. inl x) (λ x. inr (inr (inl x))) (λ x. inr (inr (inr (inl x)))) (λ x. inr (inr (inr (inr x))))
        (held.begun i below);
  })
]

pub hashing-ac : (messages digests : List (List ℕ)) (a b c d : Lane) (n : ℕ) (pair : Lane × Lane) → AreThese a c pair
    → IsHashing messages (record { a = a; b = b; c = c; d = d; begun = n }) digests
    → IsHashing messages (record { a = pair.0; b = b; c = pair.1; d = d; begun = n }) digests
hashing-ac messages digests a b c d n pair these held = elim these [
  | inl e ↦ rw e held
  | inr e ↦ rw e (record {
    a = held.c;
    b = held.b;
    c = held.a;
    d = held.d;
    room = held.room;
    begun = λ i below.
        where-in-hand (λ x. inr (inr (inl x))) (λ x. inr (inl x)) (λ x. inl x) (λ x. inr (inr (inr (inl x)))) (λ x. inr (inr (inr (inr x))))
        (held.begun i below);
  })
]

pub hashing-ad : (messages digests : List (List ℕ)) (a b c d : Lane) (n : ℕ) (pair : Lane × Lane) → AreThese a d pair
    → IsHashing messages (record { a = a; b = b; c = c; d = d; begun = n }) digests
    → IsHashing messages (record { a = pair.0; b = b; c = c; d = pair.1; begun = n }) digests
hashing-ad messages digests a b c d n pair these held = elim these [
  | inl e ↦ rw e held
  | inr e ↦ rw e (record {
    a = held.d;
    b = held.b;
    c = held.c;
    d = held.a;
    room = held.room;
    begun = λ i below.
        where-in-hand (λ x. inr (inr (inr (inl x)))) (λ x. inr (inl x)) (λ x. inr (inr (inl x))) (λ x. inl x) (λ x. inr (inr (inr (inr x))))
        (held.begun i below);
  })
]

-- ---- all of them

-- where no lane has a message, each digest is right
pub all-right : (messages digests : List (List ℕ)) (lanes : Lanes) → IsHashing messages lanes digests
    → lanes.a.left ≡ 0 → lanes.b.left ≡ 0 → lanes.c.left ≡ 0 → lanes.d.left ≡ 0 → (i : ℕ) → i < lanes.begun → IsRight messages digests i
all-right messages digests lanes held a b c d i below =
    where-in-hand (λ (x : Has i lanes.a). absurd (omega (arith, x.0))) (λ (x : Has i lanes.b). absurd (omega (arith, x.0)))
    (λ (x : Has i lanes.c). absurd (omega (arith, x.0))) (λ (x : Has i lanes.d). absurd (omega (arith, x.0))) (λ x. x) (held.begun i below)

pub right-digests : (bytes : List ℕ) (places : List Place) (digests : List (List ℕ)) → length digests ≡ length places
    → ((i : ℕ) → i < length places → IsRight (messages_at bytes places) digests i) → digests ≡ digests_at bytes places
right-digests bytes places digests size right =
    let none : Place = record { first = 0; second = 0; from = 0; to = 0 } in
    same_lists digests (digests_at bytes places) (size ∙ sym (length-map places (digest_at bytes)))
    (λ k d below.
    let there : k < length places = omega arith in
    get_or_default digests k d [] below ∙ right k there ∙ ap sha1 (get_or-map (message_at bytes) places k none [] there)
    ∙ sym (get_or-map (digest_at bytes) places k none d there))
