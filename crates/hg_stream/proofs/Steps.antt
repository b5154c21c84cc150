-- What the steps of a reader of bundles make of where it stood.
use Rattle.std.proofs.Common.{◌≡◌, ℕ, ◌+◌, ◌<◌, ◌≤◌, ◌^◌, Bool, true, false, List, [], ◌++◌, length, refl}
use Rattle.std.proofs.Common.{sym, ap, ◌∙◌, append_assoc, arith, inl, inr, subst, take}
use Rattle.std.specs.Prelude.{nat_lt, if◌then◌else◌}
use Rattle.std.proofs.lemmas.Bool.{ltb-true, lt-ltb, ltb_from_iff}
use Rattle.std.proofs.lemmas.List.{append-nil}
use Rattle.hg_types.specs.declared.limits.Limits.{Limits}
use Rattle.hg_types.specs.declared.part.Part.{Part}
use Rattle.hg_params.specs.declared.head.Head.{Head}
use Rattle.hg_params.specs.Header.{IsHeader}
use Rattle.hg_params.specs.StreamParams.{pieces}
use Rattle.hg_stream.specs.declared.block.Awaits.{Awaits}
use Rattle.hg_stream.specs.declared.block.Awaits.TheVariants as awaits
use Rattle.hg_stream.specs.declared.block.BlockFault.{BlockFault}
use Rattle.hg_stream.specs.declared.block.BlockFault.TheVariants.{Negative, TooLarge, NoMemory}
use Rattle.hg_stream.specs.declared.block.BlockIn.{BlockIn}
use Rattle.hg_stream.specs.declared.block.BlockStep.TheVariants.{Whole}
use Rattle.hg_stream.specs.declared.fault.StreamFault.{StreamFault}
use Rattle.hg_stream.specs.declared.unbundler.Unbundler.{Unbundler}
use Rattle.hg_stream.specs.Block.{sized, IsBlock, IsPartialBlock, HoldsAt, HoldsBlock, BlockStops, BlockFails}
use Rattle.hg_stream.specs.Frames.{magic, max_header, HasParts}
use Rattle.hg_stream.specs.Places.{IsBeforeBlock, params, header, IsBeforeHeader, IsInPayload, IsReading}
use Rattle.hg_stream.specs.Places.{at_block, header_room}
use Rattle.hg_stream.specs.code.Told.{of_block, room_left, ReadsParams, RefusesParams, RefusesHeader}
use Rattle.hg_stream.specs.Unbundler.{IsAt, Waits, ready_of}
use Rattle.hg_stream.specs.code.Steps.{BreaksBundle, Finishes}

-- ---- blocks

pub partial_at : (a : Awaits) (most : ℕ) (size block rest : List ℕ) → HoldsAt a most size block rest
    → IsPartialBlock most rest
partial_at awaits.Size most size block rest h = inl (rw h.0 h.1)
partial_at (awaits.Data left) most size block rest h = inr (
  length block + left.bytes,
  block,
  record {
    positive = omega (arith, h.1.positive);
    allowed = h.1.allowed;
    small = h.1.small;
    less = omega (arith, h.1.positive);
    spelled = h.1.spelled;
  },
)

-- a reader that waits for a block has less than one
pub partial_block : {A : Type 0} (b : BlockIn A) (rest : List ℕ) → HoldsBlock b rest
    → IsPartialBlock b.most rest
partial_block b rest h = partial_at b.awaits b.most b.size b.block.items rest h

-- a block that is refused
pub block_breaks : {A : Type 0} (fault : BlockFault) (limits : Limits) (front rest : List ℕ)
    (parts : List (Part A)) (most : ℕ)
    → IsBeforeBlock limits front parts most → BlockFails fault most rest
    → BreaksBundle (of_block fault) limits (front ++ rest) parts
block_breaks Negative limits front rest parts most before h = (front, rest, most, before, h, refl)
block_breaks TooLarge limits front rest parts most before h = (front, rest, most, before, h, refl)
block_breaks NoMemory limits front rest parts most before h = at_block front rest most before h refl

-- two tests that hold together
lt_same : (a b c d : ℕ) → (a < b → c < d) → (c < d → a < b) → nat_lt a b ≡ nat_lt c d
lt_same a b c d there back =
    ltb_from_iff {b = nat_lt a b} (λ e. there (ltb-true a b e), λ h. lt-ltb a b (back h))

-- the room for the next header, by the parts that may come and by those that came
pub room_is : {A : Type 0} (left : ℕ) (limits : Limits) (parts : List (Part A))
    → left + length parts ≡ limits.parts → room_left left ≡ header_room limits parts
room_is left limits parts sum =
    let same : nat_lt 0 left ≡ nat_lt (length parts) limits.parts = lt_same 0 left (length parts) limits.parts
    (λ h. omega (arith, sum, h)) (λ h. omega (arith, sum, h)) in
    ap (λ (b : Bool). if b then max_header else 0) same

-- ---- the stream parameters

pub params_read : {A : Type 0} (limits : Limits) (block : List ℕ) → length block ≤ limits.params
    → length block < 2 ^ 31 → ReadsParams A block → HasParts {A = A} limits (magic ++ sized block) []
params_read limits block fits small reads = record {
  block = block;
  params = reads.0;
  frames = [];
  block_fits = fits;
  block_small = small;
  block_read = reads.1;
  are = tt;
  few = omega arith;
  spelled = sym (append-nil _);
}

-- ---- steps

pub further : (bytes front rest taken : List ℕ) → bytes ≡ front ++ rest → bytes ++ taken ≡ front
    ++ (rest ++ taken)
further bytes front rest taken spelled = ap (λ (x : List ℕ). x ++ taken) spelled
    ∙ append_assoc front rest taken

-- no part was finished
pub finishes_none : {A : Type 0} (u v : Unbundler A) (bytes : List ℕ) (parts : List (Part A))
    → ready_of v ≡ ready_of u → IsAt v bytes parts → Finishes u v bytes parts []
finishes_none u v bytes parts ready at = record { ready = ready ∙ sym (append-nil _); at = rw append-nil at }

-- a block is refused
pub block_err : {A : Type 0} (fault : BlockFault) (limits : Limits) (bytes front rest taken : List ℕ)
    (parts : List (Part A)) (most : ℕ) (b : BlockIn A)
    → IsBeforeBlock limits front parts most → Waits b most rest → bytes ≡ front ++ rest
    → ((r : List ℕ) → HoldsBlock b r → BlockFails fault b.most (r ++ taken))
    → BreaksBundle (of_block fault) limits (bytes ++ taken) parts
block_err fault limits bytes front rest taken parts most b before waits spelled fails =
    let wrong : BlockFails fault most (rest ++ taken) = subst
    (λ m. BlockFails fault m (rest ++ taken)) waits.most_is (fails rest waits.holds) in
    subst (λ x. BreaksBundle (of_block fault) limits x parts) (sym (further bytes front rest taken spelled))
    (block_breaks fault limits front (rest ++ taken) parts most before wrong)

-- where a reader waits for a block, it reads
pub still_reading : {A : Type 0} (limits : Limits) (bytes front rest : List ℕ) (parts : List (Part A))
    (most : ℕ) (b : BlockIn A)
    → IsBeforeBlock limits front parts most → Waits b most rest → bytes ≡ front ++ rest
    → IsReading limits (bytes ++ []) parts
still_reading limits bytes front rest parts most b before waits spelled =
    at_block front rest most before
    (subst (λ m. IsPartialBlock m rest) waits.most_is (partial_block b rest waits.holds))
    (append-nil bytes ∙ spelled)

-- what a whole block is
abbrev pub EndsBlock : {A : Type 0} → BlockIn A → BlockIn A → List ℕ → Type 0
EndsBlock b after taken = (rest : List ℕ) → HoldsBlock b rest → BlockStops Whole after (rest ++ taken)

-- the stream parameters are refused, or memory is
pub params_err : {A : Type 0} (fault : StreamFault) (limits : Limits) (b after : BlockIn A) (piece : List ℕ)
    (n : ℕ) → n ≤ length piece → RefusesParams after.block.items fault
    → after.most ≡ b.most → EndsBlock b after (take n piece)
    → (place : ℕ) × (place ≤ length piece)
    × ((bytes rest : List ℕ) (parts : List (Part A)) → Waits b limits.params rest → parts ≡ []
    → bytes ≡ magic ++ rest → BreaksBundle fault limits (bytes ++ take place piece) parts)
params_err fault limits b after piece n within (inl e) same ends = (
  0,
  omega arith,
  λ bytes rest parts waits none spelled.
      subst (λ f. BreaksBundle f limits (bytes ++ take 0 piece) parts) (sym e)
      (still_reading limits bytes magic rest parts limits.params b (params refl none refl) waits spelled),
)
params_err fault limits b after piece n within (inr (wrong, e, faulty)) same ends = (
  n,
  within,
  λ bytes rest parts waits none spelled.
      let whole = ends rest waits.holds in
      let block : IsBlock limits.params after.block.items = subst (λ m. IsBlock m after.block.items) (same
      ∙ waits.most_is) whole.0 in
      subst (λ f. BreaksBundle f limits (bytes ++ take n piece) parts) (sym e) (
        after.block.items,
        block,
        faulty,
        further bytes magic rest (take n piece) spelled
            ∙ ap (λ (x : List ℕ). magic ++ x) whole.1,
        none,
      ),
)

-- there are no stream parameters
pub no_params : {A : Type 0} → ReadsParams A []
unfolding pieces
no_params = ([], record { sound = refl; says = refl })

-- after the stream parameters
pub behind_params : {A : Type 0} (limits : Limits) (block bytes rest taken : List ℕ) (parts : List (Part A))
    → length block ≤ limits.params → length block < 2 ^ 31 → ReadsParams A block → parts ≡ []
    → bytes ≡ magic ++ rest → rest ++ taken ≡ sized block → (front : List ℕ) × HasParts limits front parts
    × (bytes ++ taken ≡ front ++ [])
behind_params {A} limits block bytes rest taken parts fits small reads none spelled is = (
  magic ++ sized block,
  subst (λ ps. HasParts {A = A} limits (magic ++ sized block) ps) (sym none)
      (params_read limits block fits small reads),
  further bytes magic rest taken spelled ∙ ap (λ (x : List ℕ). magic ++ x) is ∙ sym (append-nil _),
)

-- ---- headers

-- a header is refused, or memory is
pub header_err : {A : Type 0} (fault : StreamFault) (limits : Limits) (b after : BlockIn A) (piece : List ℕ)
    (n : ℕ) → n ≤ length piece → RefusesHeader after.block.items fault
    → after.most ≡ b.most → EndsBlock b after (take n piece)
    → (place : ℕ) × (place ≤ length piece)
    × ((bytes front rest : List ℕ) (parts : List (Part A)) (most : ℕ)
    → IsBeforeHeader limits front parts most → Waits b most rest → bytes ≡ front ++ rest
    → BreaksBundle fault limits (bytes ++ take place piece) parts)
header_err fault limits b after piece n within (inl e) same ends = (
  0,
  omega arith,
  λ bytes front rest parts most before waits spelled.
      subst (λ f. BreaksBundle f limits (bytes ++ take 0 piece) parts) (sym e)
      (still_reading limits bytes front rest parts most b (header before) waits spelled),
)
header_err fault limits b after piece n within (inr (wrong, e, faulty)) same ends = (
  n,
  within,
  λ bytes front rest parts most before waits spelled.
      let whole = ends rest waits.holds in
      let block : IsBlock most after.block.items = subst (λ m. IsBlock m after.block.items) (same
      ∙ waits.most_is) whole.0 in
      subst (λ f. BreaksBundle f limits (bytes ++ take n piece) parts) (sym e) (
        front,
        after.block.items,
        most,
        before,
        block,
        faulty,
        further bytes front rest (take n piece) spelled
            ∙ ap (λ (x : List ℕ). front ++ x) whole.1,
      ),
)

pub room_some : (b : Bool) (n : ℕ) → 0 < n → n ≤ (if b then max_header else 0) → (b ≡ true) × (n ≤ max_header)
room_some true n some within = (refl, within)
room_some false n some within = absurd (omega (arith, some, within))

-- a header that is whole opens a part's payload
pub opens : {A : Type 0} (limits : Limits) (front : List ℕ) (parts : List (Part A)) (block : List ℕ)
    (head : Head A) → HasParts limits front parts
    → IsBlock (header_room limits parts) block → IsHeader block head
    → IsInPayload limits (front ++ (sized block ++ [])) parts head []
opens limits front parts block head has is reads =
    let room = room_some (nat_lt (length parts) limits.parts) (length block) is.0 is.1 in
    record {
      front = front;
      has = has;
      few = ltb-true (length parts) limits.parts room.0;
      header = block;
      reads = record { some = is.0; small = room.1; reads = reads };
      pieces = [];
      each = tt;
      payload_is = refl;
      fits = omega arith;
      spelled = refl;
    }
