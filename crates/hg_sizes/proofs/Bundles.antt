-- A body that was fed to a reader of bundles.
use Rattle.std.proofs.Common.{◌≡◌, ◌≢◌, ◌≤◌, ◌+◌, ◌<◌, ◌++◌, ℕ, List, [], length, take, drop, get_or, ap, ◌∙◌, subst, sym, refl}
use Rattle.std.proofs.Common.{Some, None, ◌∷◌}
use Rattle.std.specs.List.{flat_map}
use Rattle.std.proofs.lemmas.List.{append-nil, take-append-drop, take_more}
use Rattle.std.proofs.lemmas.Grind.{flat_map-append}
use Rattle.std.proofs.Math.Seq.{take-length}
use Rattle.hg_types.specs.declared.entry.Entry.{Entry}
use Rattle.hg_types.specs.declared.limits.Limits.{Limits}
use Rattle.hg_types.specs.declared.part.Part.{Part}
use Rattle.hg_stream.specs.declared.state.State.{State}
use Rattle.hg_stream.specs.declared.state.State.TheVariants.{Ended, Failed, Reading}
use Rattle.hg_stream.specs.declared.fault.StreamFault.{StreamFault}
use Rattle.hg_stream.specs.declared.fault.StreamFault.TheVariants.{BadMagic, NegativeSize, Params, Header}
use Rattle.hg_stream.specs.declared.fault.StreamFault.TheVariants.{Chunk, NestedInterrupt, ClientAbort}
use Rattle.hg_stream.specs.declared.fault.StreamFault.TheVariants.{Unsupported, TooLarge, Truncated, NoMemory}
use Rattle.hg_stream.specs.declared.unbundler.Unbundler.{Unbundler}
use Rattle.hg_stream.specs.Laws.{HasOneVerdict}
use Rattle.hg_stream.specs.Places.{IsReading}
use Rattle.hg_stream.specs.Faults.{IsFault, StopsReading, StateTells}
use Rattle.hg_stream.specs.Frames.{IsBundle}
use Rattle.hg_stream.specs.Unbundler.{HoldsBundle, limits_of, ready_of, state_of}
use Rattle.hg_sizes.specs.Changesets.{BeginsWith, changesets_in, changesets_of, HasNoBundle}

-- a fault that is one of the bytes
byte_fault : {A : Type 0} (fault : StreamFault) (limits : Limits) (bytes : List ℕ) (parts : List (Part A))
    → fault ≢ NoMemory → fault ≢ Truncated → StopsReading fault limits bytes parts → IsFault limits bytes parts fault
byte_fault BadMagic limits bytes parts room whole stops = stops
byte_fault NegativeSize limits bytes parts room whole stops = stops
byte_fault (Params fault) limits bytes parts room whole stops = stops
byte_fault (Header fault) limits bytes parts room whole stops = stops
byte_fault (Chunk fault) limits bytes parts room whole stops = stops
byte_fault NestedInterrupt limits bytes parts room whole stops = stops
byte_fault ClientAbort limits bytes parts room whole stops = stops
byte_fault Unsupported limits bytes parts room whole stops = stops
byte_fault TooLarge limits bytes parts room whole stops = stops
byte_fault Truncated limits bytes parts room whole stops = absurd (whole refl)
byte_fault NoMemory limits bytes parts room whole stops = absurd (room refl)

module _ {A : Type 0} (limits : Limits) (v : Unbundler A) (verdict : HasOneVerdict A limits)
    (same : limits_of v ≡ limits) (body : List ℕ) (count : ℕ) (holds : HoldsBundle v [] (take count body))
  where
    -- it has ended: that is a bundle
    pub begins : state_of v ≡ Ended → (entries : List (Entry A)) → entries ≡ changesets_of (ready_of v) →
        BeginsWith limits body entries
    begins ended entries is =
        let told = subst (λ (s : State). StateTells s (limits_of v) (take count body) (ready_of v)) ended holds.tells in
        record {
          bundle = take count body;
          behind = drop count body;
          parts = ready_of v;
          has = subst (λ (l : Limits). IsBundle l (take count body) (ready_of v)) same told;
          spelled = sym (take-append-drop count body);
          entries_are = is;
        }

    -- it still reads after all bytes
    still_reads : state_of v ≡ Reading → count ≡ length body → HasNoBundle A limits body
    still_reads reads all bundle behind parts is spelled =
        let told = subst (λ (s : State). StateTells s (limits_of v) (take count body) (ready_of v)) reads holds.tells in
        let taken : take count body ≡ bundle ++ behind =
        ap (λ (n : ℕ). take n body) all ∙ (take-length body ∙ spelled) in
        let mine : IsReading limits (bundle ++ behind) (ready_of v) × (length (bundle ++ behind) ≤ limits.stream) = subst
        (λ (b : List ℕ). IsReading limits b (ready_of v) × (length b ≤ limits.stream)) taken
        (subst (λ (l : Limits). IsReading l (take count body) (ready_of v) × (length (take count body) ≤ l.stream))
        same told) in
        verdict.not_read_after bundle behind parts (ready_of v) None is mine.0 mine.1

    -- it met a fault of the bytes
    pub is_faulty : (fault : StreamFault) → state_of v ≡ Failed fault → fault ≢ NoMemory → fault ≢ Truncated →
        HasNoBundle A limits body
    is_faulty fault failed room whole bundle behind parts is spelled =
        let told = subst (λ (s : State). StateTells s (limits_of v) (take count body) (ready_of v)) failed holds.tells in
        let mine = subst (λ (l : Limits). IsFault l (take count body) (ready_of v) fault) same
        (byte_fault fault (limits_of v) (take count body) (ready_of v) room whole told) in
        let one = verdict.one_place (take count body) bundle (drop count body) behind (ready_of v) parts (Some fault)
        None mine is (take-append-drop count body ∙ spelled) in
        let apart : Some fault ≡ None = one.2 in
        cc

    -- it took what it took, and has not ended
    pub is_not_ended : (s : State) → state_of v ≡ s → s ≢ Ended → (s ≡ Reading → count ≡ length body) →
        ((fault : StreamFault) → s ≢ Failed fault) → HasNoBundle A limits body
    is_not_ended Ended is other all fails = absurd (other refl)
    is_not_ended Reading is other all fails = still_reads is (all refl)
    is_not_ended (Failed fault) is other all fails = absurd (fails fault refl)

-- one more part
parts_more : {X Y : Type 0} (f : X → List Y) (xs : List X) (i : ℕ) (x : X) → x ≡ get_or xs i x → i < length xs →
    flat_map f (take (i + 1) xs) ≡ flat_map f (take i xs) ++ f x
parts_more f xs i x is within =
    ap (flat_map f) (take_more xs i x within ∙ ap (λ y. take i xs ++ y ∷ []) (sym is))
    ∙ (flat_map-append f (take i xs) (x ∷ []) ∙ ap (λ l. flat_map f (take i xs) ++ l) (append-nil (f x)))

-- the changesets of one more part
pub one_part_more : {A : Type 0} (parts : List (Part A)) (i : ℕ) (part : Part A) (old new more : List (Entry A))
    → part ≡ get_or parts i part → i < length parts → old ≡ changesets_of (take i parts) → new ≡ old ++ more
    → more ≡ changesets_in part → new ≡ changesets_of (take (i + 1) parts)
one_part_more {A} parts i part old new more is within before appended read =
    appended
    ∙ (ap (λ (l : List (Entry A)). l ++ more) before
    ∙ (ap (λ (l : List (Entry A)). changesets_of (take i parts) ++ l) read
    ∙ sym (parts_more changesets_in parts i part is within)))
