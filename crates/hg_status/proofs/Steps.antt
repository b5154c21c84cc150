-- The steps of a payload and of a bundle.
use Rattle.std.proofs.Common.{◌≡◌, ◌<◌, ℕ, zero, suc, ◌+◌, ◌-◌, ◌^◌, ◌==◌, List, Bool, true, false, Option, Some, None}
use Rattle.std.proofs.Common.{refl, sym, ◌∙◌, length, min, arith}
use Rattle.hg_status.specs.declared.brought.Group.{Group}
use Rattle.hg_status.specs.declared.brought.Payload.{Payload}
use Rattle.hg_status.specs.Brought.{next_payload, next_bytes, payload_read, parts_read, sized_in, after_sized}
use Rattle.hg_status.specs.Brought.{after_payload, changesets_of, is_changegroup}

-- a payload goes on
pub payload_on : (steps : ℕ) (counts : Bool) (payload next : Payload) (bytes : List ℕ) →
    next_payload counts payload bytes ≡ Some next →
    payload_read (suc steps) counts payload bytes ≡ payload_read steps counts next (next_bytes bytes)
payload_on steps counts payload next bytes is = rw (is, payload_read) refl

-- a payload ends
pub payload_ends : (steps : ℕ) (counts : Bool) (payload : Payload) (bytes : List ℕ) →
    next_payload counts payload bytes ≡ None →
    payload_read (suc steps) counts payload bytes ≡ (payload.group, next_bytes bytes)
payload_ends steps counts payload bytes is = rw (is, payload_read) refl

-- a payload that went on gives what it gave
pub payload_kept : (size step : ℕ) (counts : Bool) (payload next : Payload) (bytes after : List ℕ)
    (total : Group × List ℕ) (found : Option Payload) → step < size → found ≡ next_payload counts payload bytes →
    found ≡ Some next → after ≡ next_bytes bytes → payload_read (size - step) counts payload bytes ≡ total →
    payload_read (size - (step + 1)) counts next after ≡ total
payload_kept size step counts payload next bytes after total found inside found_is is after_is kept =
    let n : size - step ≡ suc (size - (step + 1)) = omega arith in
    rw after_is
    (sym (payload_on (size - (step + 1)) counts payload next bytes (sym found_is ∙ is)) ∙ (rw n at kept))

-- a payload that ended gave that
pub payload_done : (size step : ℕ) (counts : Bool) (payload : Payload) (bytes after : List ℕ)
    (total : Group × List ℕ) (found : Option Payload) → step < size → found ≡ next_payload counts payload bytes →
    found ≡ None → after ≡ next_bytes bytes → payload_read (size - step) counts payload bytes ≡ total →
    (payload.group, after) ≡ total
payload_done size step counts payload bytes after total found inside found_is is after_is kept =
    let n : size - step ≡ suc (size - (step + 1)) = omega arith in
    rw after_is
    (sym (payload_ends (size - (step + 1)) counts payload bytes (sym found_is ∙ is)) ∙ (rw n at kept))

-- a bundle goes on
pub parts_on : (steps count : ℕ) (bytes : List ℕ) → (length (sized_in bytes) == 0) ≡ false →
    parts_read (suc steps) count bytes
    ≡ parts_read steps (min (count + changesets_of (is_changegroup (sized_in bytes)) (after_sized bytes)) (2 ^ 64 - 1))
    (after_payload (is_changegroup (sized_in bytes)) (after_sized bytes))
parts_on steps count bytes some = rw (some, parts_read) refl

-- a bundle that went on gives what it gave
pub parts_kept : (size step count more sum : ℕ) (header start bytes after : List ℕ) (counts : Bool) (total : ℕ) →
    step < size → (length header == 0) ≡ false → header ≡ sized_in bytes → start ≡ after_sized bytes →
    counts ≡ is_changegroup header → more ≡ changesets_of counts start → after ≡ after_payload counts start →
    sum ≡ min (count + more) (2 ^ 64 - 1) → parts_read (size - step) count bytes ≡ total →
    parts_read (size - (step + 1)) sum after ≡ total
parts_kept size step count more sum header start bytes after counts total inside some header_is start_is counts_is
    more_is after_is sum_is kept =
    let n : size - step ≡ suc (size - (step + 1)) = omega arith in
    rw (sum_is, more_is, after_is, counts_is, header_is, start_is)
    (sym (parts_on (size - (step + 1)) count bytes (rw header_is at some)) ∙ (rw n at kept))

-- a header of no bytes ends a bundle
pub parts_done : (steps count : ℕ) (header bytes : List ℕ) (total : ℕ) → (length header == 0) ≡ true →
    header ≡ sized_in bytes → parts_read steps count bytes ≡ total → count ≡ total
parts_done zero count header bytes total none header_is kept = kept
parts_done (suc steps) count header bytes total none header_is kept =
    let e : (length (sized_in bytes) == 0) ≡ true = rw header_is at none in
    (rw (e, parts_read) at kept)
