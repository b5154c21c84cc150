-- One more push of a replay.
use Rattle.std.proofs.Common.{ℕ, Bool, true, false, ◌≡◌, ◌==◌, ◌||◌, ◌+◌, ◌<◌, ◌≤◌, List, [], ◌∷◌, ◌++◌}
use Rattle.std.proofs.Common.{refl, sym, ◌∙◌, ap, subst, arith, length, map, take, drop, set, get_or}
use Rattle.std.proofs.Common.{length-drop, if◌then◌else◌}
use Rattle.std.proofs.lemmas.List.{drop-set-lt, drop_more, get_or-map, length-map, map-append, map-set}
use Rattle.std.proofs.lemmas.List.{take_all, take_more, take_more_set}
use Rattle.std.proofs.lemmas.Grind.{drop_more_same}
use Rattle.std.proofs.lemmas.List.Folds.{list_any-append}
use Rattle.hg_repo.specs.declared.done.Done.{Done}
use Rattle.hg_parts.specs.declared.refusal.Refusal.{Refusal}
use Rattle.hg_push.specs.History.{History}
use Rattle.hg_push.specs.declared.outcome.Outcome.{Outcome}
use Rattle.hg_push.specs.Run.{BookOf, RepositoryOf}
use Rattle.hg_connection.specs.declared.sending.Sending.TheVariants.{Whole as sent_whole}
use Rattle.hg_connection.specs.Devices.{Input, Output}
use Rattle.hg_connection.specs.declared.sending.Sending.{Sending}
use Rattle.hg_connection.specs.declared.bundle_end.BundleEnd.{BundleEnd}
use Rattle.hg_replay.specs.Taking.{IsIdle, PushTakes}
use Rattle.hg_replay.specs.Answering.{IsSentTo, empty_repository, status_of}
use Rattle.hg_repo.specs.Report.{report_of}
use Rattle.hg_replay.specs.Replaying.{AreReplayed, IsPlayed, NotOpened, Plays, PlaysOne, Ran, Replay, Replayed}
use Rattle.hg_replay.specs.Replaying.{count_run, first_told, is_told, replay_status, sending_status}

-- after these pushes, one more
pub one_more : {A : Type 0} (first : RepositoryOf A) (number at : ℕ) (before mid after : History A)
    (inputs lefts : List Input) (replays : List (Replay A)) (input left : Input) (replay : Replay A)
    → at ≡ number + count_run replays → AreReplayed first number before inputs lefts replays mid
    → AreReplayed first at mid (input ∷ []) (left ∷ []) (replay ∷ []) after
    → AreReplayed first number before (inputs ++ input ∷ []) (lefts ++ left ∷ []) (replays ++ replay
    ∷ []) after
one_more {A} first number at before mid after [] [] [] input left replay is front last =
    let none : at ≡ number = omega (arith, is) in
    subst (λ (h : History A). AreReplayed first number h (input ∷ []) (left ∷ []) (replay ∷ []) after) front
    (subst (λ (n : ℕ). AreReplayed first n mid (input ∷ []) (left ∷ []) (replay ∷ []) after) none last)
one_more first number at before mid after (i ∷ inputs) (l ∷ lefts) (NotOpened
    ∷ replays) input left replay is front last = (
      front.0,
      one_more first number at before mid after inputs lefts replays input left replay is front.1
          last,
    )
one_more first number at before mid after (i ∷ inputs) (l ∷ lefts) (Ran ending parts how
    ∷ replays) input left replay is front last = (
      front.0,
      front.1,
      one_more first (number + 1) at (front.1.places
          ++ before) mid after inputs lefts replays input left replay (omega (arith, is)) front.2 last,
    )
one_more first number at before mid after [] [] (r ∷ replays) input left replay is front last = absurd front
one_more first number at before mid after [] (l ∷ lefts) replays input left replay is front last =
    absurd front
one_more first number at before mid after (i ∷ inputs) [] replays input left replay is front last =
    absurd front
one_more first number at before mid after (i ∷ inputs) (l ∷ lefts) [] input left replay is front last =
    absurd front

pick : Bool → Bool → Bool → ℕ
pick three four one = if three then 3 else if four then 4 else if one then 1 else 0

picks : (a b c t u v : Bool)
    → pick (a || t) (b || u) (c || v) ≡ pick ((pick a b c == 3) || t) ((pick a b c == 4) || u)
    ((pick a b c == 1) || v)
unfolding pick
picks true b c t u v = refl
picks false true c t u v = refl
picks false false true t u v = refl
picks false false false t u v = refl

-- of one status more
pub told_more : (statuses : List ℕ) (one : ℕ)
    → first_told (statuses ++ one ∷ []) ≡ first_told (first_told statuses ∷ one ∷ [])
unfolding pick
told_more statuses one =
    let three : is_told 3 (statuses ++ one ∷ []) ≡ (is_told 3 statuses || is_told 3 (one ∷ [])) =
    list_any-append (λ (s : ℕ). s == 3) statuses (one ∷ []) in
    let four : is_told 4 (statuses ++ one ∷ []) ≡ (is_told 4 statuses || is_told 4 (one ∷ [])) =
    list_any-append (λ (s : ℕ). s == 4) statuses (one ∷ []) in
    let last : is_told 1 (statuses ++ one ∷ []) ≡ (is_told 1 statuses || is_told 1 (one ∷ [])) =
    list_any-append (λ (s : ℕ). s == 1) statuses (one ∷ []) in
    rw (three, four, last) (picks (is_told 3 statuses) (is_told 4 statuses) (is_told 1 statuses)
    (is_told 3 (one ∷ [])) (is_told 4 (one ∷ [])) (is_told 1 (one ∷ [])))

-- the readers before a place were replayed, and those from it on are as they were
pub record PlaysOn {A : Type 0} (inputs now : List Input) (at : ℕ) (old new : BookOf A)
    (status : ℕ) : Type 0 where
  pub rest : drop at now ≡ drop at inputs
  pub plays : (first : RepositoryOf A) (before : History A) → IsIdle first before old
      → Plays first before (take at inputs) (take at now) old new status

-- one push is a replay of its own
alone : {A : Type 0} (first : RepositoryOf A) (before : History A) (input left : Input) (old new : BookOf A)
    (replay : Replay A) → IsIdle first before old → IsPlayed input left old new replay
    → (after : History A) × AreReplayed first old.next before (input ∷ []) (left ∷ []) (replay ∷ []) after
    × IsIdle first after new × (new.next ≡ old.next + count_run (replay ∷ []))
alone {A} first before input left old new NotOpened idle played = (
  before,
  (played.0, refl),
  subst (λ (b : BookOf A). IsIdle first before b) (sym played.1) idle,
  omega (arith, ap (λ (b : BookOf A). b.next) played.1),
)
alone first before input left old new (Ran ending parts how) idle played =
    let leaves = played.2 first before idle in
    (leaves.ends.places ++ before, (played.0, leaves.ends, refl), leaves.idle, played.1)

counts : {A : Type 0} (replays : List (Replay A)) (replay : Replay A)
    → count_run (replays ++ replay ∷ []) ≡ count_run replays + count_run (replay ∷ [])
counts [] replay = omega arith
counts (NotOpened ∷ replays) replay = counts replays replay
counts (Ran ending parts how ∷ replays) replay = omega (arith, counts replays replay)

-- one more reader
pub one_played : {A : Type 0} (first : RepositoryOf A) (before : History A) (inputs lefts : List Input)
    (input left : Input) (old mid new : BookOf A) (status one : ℕ)
    → Plays first before inputs lefts old mid status
    → PlaysOne input left mid new one
    → Plays first before (inputs ++ input ∷ []) (lefts ++ left ∷ []) old new
    (first_told (status ∷ one ∷ []))
one_played {A} first before inputs lefts input left old mid new status one p q =
    let a = alone first p.history input left mid new q.replay p.idle q.played in record {
      replays = p.replays ++ q.replay ∷ [];
      history = a.0;
      replayed = one_more first old.next mid.next before p.history a.0 inputs lefts p.replays input left
          q.replay p.next p.replayed a.1;
      idle = a.2;
      next = omega (arith, a.3, p.next, counts p.replays q.replay);
      status_is = ap (λ (s : ℕ). first_told (s ∷ one ∷ [])) p.status_is
          ∙ sym (told_more (map replay_status p.replays) one)
          ∙ ap (λ (s : ℕ). first_told (map replay_status p.replays ++ s ∷ [])) q.status_is
          ∙ ap (λ (l : List ℕ). first_told l) (sym (map-append replay_status p.replays (q.replay ∷ [])));
    }

-- a push that ran
pub played : {A : Type 0} (input left : Input) (old new : BookOf A) (ending : BundleEnd)
    (how : Outcome (Done A) (Refusal A)) (status : ℕ) → PushTakes input left old new ending how
    → status ≡ status_of ending how sent_whole
    → PlaysOne input left old new status
played input left old new ending how status t is = record {
  replay = Ran ending t.parts how;
  played = (t.received, t.next, t.leaves);
  status_is = is;
}

-- no reader yet
pub none_played : {A : Type 0} (inputs : List Input) (book : BookOf A) → PlaysOn inputs inputs 0 book book 0
none_played inputs book = record {
  rest = refl;
  plays = λ first before idle. record {
    replays = [];
    history = before;
    replayed = refl;
    idle = idle;
    next = omega arith;
    status_is = refl;
  };
}

-- the reader at a place was replayed
pub slot_played : {A : Type 0} (inputs now : List Input) (at : ℕ) (input left : Input)
    (old mid new : BookOf A) (status one : ℕ) → at < length now → get_or now at input ≡ input
    → PlaysOn inputs now at old mid status
    → PlaysOne input left mid new one
    → PlaysOn inputs (set now at left) (at + 1) old new (first_told (status ∷ one ∷ []))
slot_played {A} inputs now at input left old mid new status one below here p q =
    let lengths : length (drop at now) ≡ length (drop at inputs) = ap (λ (l : List Input). length l) p.rest in
    let within : at < length inputs = omega (
      arith,
      lengths,
      below,
      length-drop at now,
      length-drop at inputs,
    ) in
    let now_is : drop at now ≡ get_or now at input ∷ drop (at + 1) now = drop_more now at input below in
    let inputs_are : drop at inputs ≡ get_or inputs at input
    ∷ drop (at + 1) inputs = drop_more inputs at input within in
    let heads : get_or now at input ∷ drop (at + 1) now ≡ get_or inputs at input
    ∷ drop (at + 1) inputs = sym now_is ∙ p.rest ∙ inputs_are in
    let same : get_or inputs at input ≡ get_or now at input = cc in
    let front : take (at + 1) inputs ≡ take at inputs ++ input ∷ [] = take_more inputs at input within
    ∙ ap (λ (i : Input). take at inputs ++ i ∷ []) (same ∙ here) in
    let gone : take (at + 1) (set now at left) ≡ take at now ++ left ∷ [] = take_more_set now at left below in
    record {
      rest = drop-set-lt (at + 1) now at left (omega arith) ∙ drop_more_same now inputs at p.rest;
      plays = λ first before idle.
          let more = one_played first before (take at inputs) (take at now) input left old mid new status one
          (p.plays first before idle) q in
          subst (λ (l : List Input). Plays first before (take (at + 1) inputs) l old new
          (first_told (status ∷ one ∷ []))) (sym gone)
          (subst (λ (l : List Input). Plays first before l (take at now ++ left ∷ []) old new
          (first_told (status ∷ one ∷ []))) (sym front) more);
    }

-- all readers were replayed
pub all_played : {A : Type 0} (inputs now : List Input) (at : ℕ) (old new : BookOf A) (status : ℕ)
    → length now ≤ at → PlaysOn inputs now at old new status
    → (first : RepositoryOf A) (before : History A) → IsIdle first before old
    → Plays first before inputs now old new status
all_played {A} inputs now at old new status all p first before idle =
    let lengths : length (drop at now) ≡ length (drop at inputs) = ap (λ (l : List Input). length l) p.rest in
    let within : length inputs ≤ at = omega (
      arith,
      lengths,
      all,
      length-drop at now,
      length-drop at inputs,
    ) in
    subst (λ (l : List Input). Plays first before inputs l old new status) (take_all at now all)
    (subst (λ (l : List Input). Plays first before l (take at now) old new status) (take_all at inputs within)
    (p.plays first before idle))

-- the same of readers, which tell these inputs
pub reader_played : {A T : Type 0} (told : T → Input) (inputs : List Input) (readers : List T) (at : ℕ)
    (reader after : T) (old mid new : BookOf A) (status one both : ℕ) → at < length readers
    → reader ≡ get_or readers at reader
    → PlaysOn inputs (map told readers) at old mid status → PlaysOne (told reader) (told after) mid new one
    → both ≡ first_told (status ∷ one ∷ [])
    → PlaysOn inputs (map told (set readers at after)) (at + 1) old new both
reader_played {A} {T} told inputs readers at reader after old mid new status one both below here p q is =
    let within : at < length (map told readers) = omega (arith, below, length-map readers told) in
    let same : get_or (map told readers) at (told reader) ≡ told reader = get_or-map told readers at reader
    (told reader) below ∙ ap told (sym here) in
    subst (λ (s : ℕ). PlaysOn inputs (map told (set readers at after)) (at + 1) old new s) (sym is)
    (subst (λ (l : List Input). PlaysOn inputs l (at + 1) old new (first_told (status ∷ one ∷ [])))
    (sym (map-set told readers at after))
    (slot_played inputs (map told readers) at (told reader) (told after) old mid new status one within same p
    q))

-- the report was sent after them
pub replays : {A : Type 0} (publishing : Bool) (inputs lefts : List Input) (output output_after : Output)
    (old new : BookOf A) (repo : RepositoryOf A) (status sent_as both : ℕ) (sending : Sending) → old.next ≡ 0
    → Plays {A = A} (empty_repository publishing) [] inputs lefts old new status → repo ≡ new.repo
    → IsSentTo sending output output_after (report_of repo) → sent_as ≡ sending_status sending
    → both ≡ first_told (status ∷ sent_as ∷ []) → Replayed A publishing inputs lefts output output_after both
replays {A} publishing inputs lefts output output_after old new repo status sent_as both sending zeroth p
    repo_is sent sent_is is = record {
      replays = p.replays;
      history = p.history;
      replayed = subst (λ (n : ℕ). AreReplayed {A = A} (empty_repository publishing) n [] inputs lefts p.replays
          p.history) zeroth p.replayed;
      sending = sending;
      sent = subst (λ (r : RepositoryOf A). IsSentTo sending output output_after (report_of r)) (repo_is
          ∙ sym (ap (λ s. s.repo) p.idle.holds.state)) sent;
      status_is = is ∙ ap (λ (s : ℕ). first_told (status ∷ s ∷ [])) sent_is
          ∙ ap (λ (s : ℕ). first_told (s ∷ sending_status sending ∷ [])) p.status_is
          ∙ sym (told_more (map replay_status p.replays) (sending_status sending));
    }
