-- Frames that are written, and a store that is followed.
use Rattle.std.proofs.Common.{◌≡◌, ◌⊎◌, inl, inr, ℕ, suc, ◌+◌, ◌<◌, ◌≤◌, List, [], ◌∷◌, ◌++◌, length, take}
use Rattle.std.proofs.Common.{drop, refl, sym, ap, ◌∙◌, subst, arith, append_assoc, length-append, take-append-drop}
use Rattle.std.proofs.Common.{get_or, Option}
use Rattle.std.proofs.lemmas.List.{append-nil, drop_more, length-take-le}
use Rattle.std.proofs.KnownBytes.{Appends-nil, Appends-trans}
use Rattle.std.specs.Io.KnownBytes.{Appends}
use Rattle.hg_types.specs.declared.limits.Limits.{Limits}
use Rattle.hg_store.specs.Entries.{Entry, Stamp}
use Rattle.hg_connection.specs.declared.sending.Sending.{Sending}
use Rattle.hg_connection.specs.declared.sending.Sending.TheVariants.{Whole, Broken, NoMemory as OutOfMemory}
use Rattle.hg_connection.specs.Devices.{Output}
use Rattle.hg_connection.specs.Sent.{Sends}
use Rattle.hg_store_tools.specs.Canonical.{IsUncanonical}
use Rattle.hg_store_tools.specs.declared.fault.Fault.{Fault}
use Rattle.hg_store_tools.specs.declared.fault.Fault.TheVariants.{Damaged, Exists, Failed, Head as HasNoHead, Held}
use Rattle.hg_store_tools.specs.declared.fault.Fault.TheVariants.{Missing, NoBundle, NoMemory, NoPlace, Refused, Torn}
use Rattle.hg_store_tools.specs.declared.fault.Fault.TheVariants.{Unsent, Upgraded}
use Rattle.hg_store_tools.specs.declared.follow.FollowEnd.{FollowEnd}
use Rattle.hg_store_tools.specs.declared.follow.FollowEnd.TheVariants.{Stopped}
use Rattle.hg_store_tools.specs.Trails.{AreFramesOf, EndsAt, EndsSoAt, EndsSync, EndsTrail, Follows, HasFollowed}
use Rattle.hg_store_tools.specs.Trails.{IsFrameOf, IsFrontOf, IsFrontOfFirst, SendsFrame, SendsFrames, SendsNoFrame}
use Rattle.hg_store_tools.specs.Trails.{StopsFollowing, StopsSending, unsent, unsynced}
use Rattle.hg_store_tools.specs.Logging.{IsInForm, LogForm}
use Rattle.hg_store_tools.specs.PushFrames.{IsUnframed, SendsFront, frame_front, push_frame}
use Rattle.hg_store_tools.specs.Reporting.{sending_fault}
use Rattle.hg_store_tools.proofs.Written.{take_next, whole_sent}

-- ---- faults

-- what ends a trail ends the frames
pub trail_ends : (fault : Fault) (place : ℕ) → EndsTrail fault place → EndsAt fault place
trail_ends (Damaged at) place why = why
trail_ends (Torn at) place why = why
trail_ends NoMemory place why = tt
trail_ends Failed place why = tt
trail_ends Missing place why = absurd why
trail_ends (HasNoHead fault) place why = absurd why
trail_ends (NoBundle at) place why = absurd why
trail_ends (Refused at) place why = absurd why
trail_ends (NoPlace count) place why = absurd why
trail_ends Upgraded place why = absurd why
trail_ends Held place why = absurd why
trail_ends Exists place why = absurd why
trail_ends Unsent place why = absurd why

-- so does what keeps a file from being synced
pub sync_ends : (fault : Fault) (place : ℕ) → EndsSync fault → EndsAt fault place
sync_ends NoMemory place why = tt
sync_ends Failed place why = tt
sync_ends (Damaged at) place why = absurd why
sync_ends (Torn at) place why = absurd why
sync_ends Missing place why = absurd why
sync_ends (HasNoHead fault) place why = absurd why
sync_ends (NoBundle at) place why = absurd why
sync_ends (Refused at) place why = absurd why
sync_ends (NoPlace count) place why = absurd why
sync_ends Upgraded place why = absurd why
sync_ends Held place why = absurd why
sync_ends Exists place why = absurd why
sync_ends Unsent place why = absurd why

-- and a record that has no frame
pub unframed_ends : (fault : Fault) (place : ℕ) → IsUnframed fault place → EndsAt fault place
unframed_ends NoMemory place why = tt
unframed_ends Unsent place why = tt
unframed_ends (NoBundle at) place why = why
unframed_ends Failed place why = absurd why
unframed_ends (Damaged at) place why = absurd why
unframed_ends (Torn at) place why = absurd why
unframed_ends Missing place why = absurd why
unframed_ends (HasNoHead fault) place why = absurd why
unframed_ends (Refused at) place why = absurd why
unframed_ends (NoPlace count) place why = absurd why
unframed_ends Upgraded place why = absurd why
unframed_ends Held place why = absurd why
unframed_ends Exists place why = absurd why

-- or none in its form
pub uncanonical_ends : (A : Type 0) (fault : Fault) (place : ℕ) (limits : Limits) (stored : List ℕ)
    → IsUncanonical A fault place limits stored → EndsAt fault place
uncanonical_ends A NoMemory place limits stored why = tt
uncanonical_ends A (NoBundle at) place limits stored why = why.0
uncanonical_ends A Unsent place limits stored why = absurd why
uncanonical_ends A Failed place limits stored why = absurd why
uncanonical_ends A (Damaged at) place limits stored why = absurd why
uncanonical_ends A (Torn at) place limits stored why = absurd why
uncanonical_ends A Missing place limits stored why = absurd why
uncanonical_ends A (HasNoHead fault) place limits stored why = absurd why
uncanonical_ends A (Refused at) place limits stored why = absurd why
uncanonical_ends A (NoPlace count) place limits stored why = absurd why
uncanonical_ends A Upgraded place limits stored why = absurd why
uncanonical_ends A Held place limits stored why = absurd why
uncanonical_ends A Exists place limits stored why = absurd why

-- ---- the writing of a frame

-- nothing of it was written
pub none_of_frame : (fault : Fault) (place : ℕ) (frame : List ℕ) (taken : Option (List ℕ)) → IsUnframed fault place
    → SendsFront fault place frame taken taken
none_of_frame fault place frame taken why =
    record { part = []; rest = frame; spelled = refl; sent = Appends-nil taken; why = why }

send_why : (sending : Sending) (place : ℕ) → IsUnframed (sending_fault sending) place
send_why Whole place = tt
send_why Broken place = tt
send_why OutOfMemory place = tt

module _ (place : ℕ) (stamp : Stamp) (bundle front shown : List ℕ) (before mid after : Output)
    (front_is : front ≡ frame_front place stamp bundle) (shown_is : shown ≡ front) where
  front_so : shown ≡ frame_front place stamp bundle
  front_so = shown_is ∙ front_is

  -- a front of what stands before the bundle was written
  pub part_of_front : (fault : Fault) (sending : Sending) (count : ℕ) → fault ≡ sending_fault sending
      → Sends sending count before mid shown
      → SendsFront fault place (push_frame place stamp bundle) before.taken mid.taken
  part_of_front fault sending count is sends = record {
    part = sends.gone;
    rest = sends.sent.rest ++ bundle;
    spelled = ap (λ (l : List ℕ). l ++ bundle) (sym front_so ∙ sends.sent.reply_is)
        ∙ append_assoc sends.gone sends.sent.rest bundle;
    sent = sends.bytes;
    why = subst (λ (f : Fault). IsUnframed f place) (sym is) (send_why sending place);
  }

  module _ (first : ℕ) (whole : Sends Whole first before mid shown) where
    front_sent : Appends before.taken mid.taken (frame_front place stamp bundle)
    front_sent = subst (λ (l : List ℕ). Appends before.taken mid.taken l) front_so
        (whole_sent first before mid shown whole)

    pub all_of_frame : (count : ℕ) → Sends Whole count mid after bundle
        → Appends before.taken after.taken (push_frame place stamp bundle)
    all_of_frame count sends =
        Appends-trans before.taken mid.taken after.taken (frame_front place stamp bundle) bundle front_sent
        (whole_sent count mid after bundle sends)

    pub part_of_bundle : (fault : Fault) (sending : Sending) (count : ℕ) → fault ≡ sending_fault sending
        → Sends sending count mid after bundle
        → SendsFront fault place (push_frame place stamp bundle) before.taken after.taken
    part_of_bundle fault sending count is sends = record {
      part = frame_front place stamp bundle ++ sends.gone;
      rest = sends.sent.rest;
      spelled = ap (λ (l : List ℕ). frame_front place stamp bundle ++ l) sends.sent.reply_is
          ∙ sym (append_assoc (frame_front place stamp bundle) sends.gone sends.sent.rest);
      sent = Appends-trans before.taken mid.taken after.taken (frame_front place stamp bundle) sends.gone front_sent
          sends.bytes;
      why = subst (λ (f : Fault). IsUnframed f place) (sym is) (send_why sending place);
    }

-- ---- the frame of a record

module _ (A : Type 0) (log : LogForm) (place : ℕ) (entry : Entry) where
  pub frame_passed : (taken : Option (List ℕ)) → place < log.from → SendsFrame A log place entry taken taken
  frame_passed taken before = ([], inl (before, refl), Appends-nil taken)

  pub frame_unformed : (fault : Fault) (taken : Option (List ℕ))
      → IsUncanonical A fault place log.limits entry.bundle → SendsNoFrame A log place entry fault taken taken
  frame_unformed fault taken why =
      ([], inl refl, Appends-nil taken, uncanonical_ends A fault place log.limits entry.bundle why)

  module _ (stamp : Stamp) (stored bundle shown : List ℕ) (before after : Option (List ℕ)) (here : log.from ≤ place)
      (stamp_is : stamp ≡ entry.stamp) (stored_is : stored ≡ entry.bundle)
      (is : IsInForm log.form A log.limits stored bundle) (shown_is : shown ≡ bundle) where
    frame_so : push_frame place stamp shown ≡ push_frame place entry.stamp bundle
    frame_so = ap (λ (s : Stamp). push_frame place s shown) stamp_is
        ∙ ap (λ (l : List ℕ). push_frame place entry.stamp l) shown_is

    formed : IsInForm log.form A log.limits entry.bundle bundle
    formed = subst (λ (l : List ℕ). IsInForm log.form A log.limits l bundle) stored_is is

    pub frame_sent : Appends before after (push_frame place stamp shown) → SendsFrame A log place entry before after
    frame_sent sent = (
      push_frame place entry.stamp bundle,
      inr (here, bundle, formed, refl),
      subst (λ (l : List ℕ). Appends before after l) frame_so sent,
    )

    pub frame_unsent : (fault : Fault) → SendsFront fault place (push_frame place stamp shown) before after
        → SendsNoFrame A log place entry fault before after
    frame_unsent fault sends = (
      sends.part,
      inr (sends.rest, inr (here, bundle, formed, sym sends.spelled ∙ frame_so)),
      sends.sent,
      unframed_ends fault place sends.why,
    )

-- ---- records that are found

-- These were found more than at first, and no other is durable. The first place is the same.
pub record Finding (first : ℕ) (found durable : List Entry) (now_first : ℕ) (now_found now_durable more : List Entry) :
    Type 0 where
  pub first_is : now_first ≡ first
  pub found_is : now_found ≡ found ++ more
  pub durable_is : now_durable ≡ durable

pub finding_none : (first : ℕ) (found durable : List Entry) → Finding first found durable first found durable []
finding_none first found durable = record { first_is = refl; found_is = sym (append-nil found); durable_is = refl }

pub finding_more : (first : ℕ) (found durable : List Entry) (now_first : ℕ) (now_found now_durable more : List Entry)
    (next : Entry) (then_first : ℕ) (then_found then_durable : List Entry)
    → Finding first found durable now_first now_found now_durable more → then_found ≡ now_found ++ next ∷ []
    → then_durable ≡ now_durable → then_first ≡ now_first
    → Finding first found durable then_first then_found then_durable (more ++ next ∷ [])
finding_more first found durable now_first now_found now_durable more next then_first then_found then_durable finding
    found_is durable_is first_is = record {
      first_is = first_is ∙ finding.first_is;
      found_is = found_is ∙ ap (λ (rs : List Entry). rs ++ next ∷ []) finding.found_is ∙ append_assoc found more (next ∷ []);
      durable_is = durable_is ∙ finding.durable_is;
    }

-- ---- frames

module _ (A : Type 0) (log : LogForm) where
  pub frames_append : (place : ℕ) (first second : List Entry) (one other : List ℕ) → AreFramesOf A log place first one
      → AreFramesOf A log (place + length first) second other → AreFramesOf A log place (first ++ second) (one ++ other)
  frames_append place [] second one other none are =
      subst (λ (l : List ℕ). AreFramesOf A log place second (l ++ other)) (sym none)
      (subst (λ (n : ℕ). AreFramesOf A log n second other) (omega arith) are)
  frames_append place (entry ∷ first) second one other is are =
      let further : place + suc (length first) ≡ place + 1 + length first = omega arith in (
        is.0,
        is.1 ++ other,
        ap (λ (l : List ℕ). l ++ other) is.2 ∙ append_assoc is.0 is.1 other,
        is.3,
        frames_append (place + 1) first second is.1 other is.4
            (subst (λ (n : ℕ). AreFramesOf A log n second other) further are),
      )

  pub frames_push : (place : ℕ) (records : List Entry) (entry : Entry) (frames frame : List ℕ)
      → AreFramesOf A log place records frames → IsFrameOf A log (place + length records) entry frame
      → AreFramesOf A log place (records ++ entry ∷ []) (frames ++ frame)
  frames_push place records entry frames frame are is =
      frames_append place records (entry ∷ []) frames frame are (frame, [], sym (append-nil frame), is, refl)

  -- a front of nothing
  pub no_front : (place : ℕ) (records : List Entry) → IsFrontOfFirst A log place records []
  no_front place [] = refl
  no_front place (entry ∷ records) = inl refl

  -- ---- one after the other

  -- The frames of the first records were written, the first of which is at this place.
  pub record HasSent (place : ℕ) (records : List Entry) (index next : ℕ) (before now : Option (List ℕ)) : Type 0 where
    pub next_is : next ≡ place + index
    pub frames : List ℕ
    pub are : AreFramesOf A log place (take index records) frames
    pub sent : Appends before now frames

  pub sending_none : (place : ℕ) (records : List Entry) (before : Option (List ℕ)) → HasSent place records 0 place
      before before
  sending_none place records before =
      record { next_is = omega arith; frames = []; are = refl; sent = Appends-nil before }

  module _ (place : ℕ) (records : List Entry) (index next : ℕ) (entry : Entry) (before now : Option (List ℕ))
      (inside : index < length records) (is : entry ≡ get_or records index entry)
      (sending : HasSent place records index next before now) where
    front_long : length (take index records) ≡ index
    front_long = length-take-le index records (omega (arith, inside))

    here : next ≡ place + length (take index records)
    here = omega (arith, sending.next_is, front_long)

    pub sending_more : (after : Option (List ℕ)) → SendsFrame A log next entry now after
        → HasSent place records (index + 1) (next + 1) before after
    sending_more after sends = record {
      next_is = omega (arith, sending.next_is);
      frames = sending.frames ++ sends.0;
      are = subst (λ (rs : List Entry). AreFramesOf A log place rs (sending.frames ++ sends.0))
          (sym (take_next records index entry inside is))
          (frames_push place (take index records) entry sending.frames sends.0 sending.are
          (subst (λ (n : ℕ). IsFrameOf A log n entry sends.0) here sends.1));
      sent = Appends-trans before now after sending.frames sends.0 sending.sent sends.2;
    }

    left_is : drop index records ≡ entry ∷ drop (index + 1) records
    left_is = drop_more records index entry inside
        ∙ ap (λ (e : Entry). e ∷ drop (index + 1) records) (sym is)

    pub sending_stops : (fault : Fault) (after : Option (List ℕ)) → SendsNoFrame A log next entry fault now after
        → StopsSending A log place records fault before after
    sending_stops fault after stops = record {
      whole = take index records;
      left = drop index records;
      split = sym (take-append-drop index records);
      frames = sending.frames;
      are = sending.are;
      part = stops.0;
      front = subst (λ (rs : List Entry). IsFrontOfFirst A log (place + length (take index records)) rs stops.0)
          (sym left_is)
          (subst (λ (n : ℕ). IsFrontOf A log n entry stops.0) here stops.1);
      sent = Appends-trans before now after sending.frames stops.0 sending.sent stops.2;
      why = subst (λ (n : ℕ). EndsAt fault n) here stops.3;
    }

    -- the place behind the next one cannot be told
    pub sending_ends : (after : Option (List ℕ)) → SendsFrame A log next entry now after
        → StopsSending A log place records Failed before after
    sending_ends after sends =
        let more = sending_more after sends in
        record {
          whole = take (index + 1) records;
          left = drop (index + 1) records;
          split = sym (take-append-drop (index + 1) records);
          frames = more.frames;
          are = more.are;
          part = [];
          front = no_front (place + length (take (index + 1) records)) (drop (index + 1) records);
          sent = Appends-trans before after after more.frames [] more.sent (Appends-nil after);
          why = tt;
        }

  pub sending_all : (place : ℕ) (records : List Entry) (index next : ℕ) (before now : Option (List ℕ))
      → take index records ≡ records → index ≡ length records → HasSent place records index next before now
      → SendsFrames A log place records next before now
  sending_all place records index next before now all count sending = (
    omega (arith, sending.next_is, count),
    sending.frames,
    subst (λ (rs : List Entry). AreFramesOf A log place rs sending.frames) all sending.are,
    sending.sent,
  )

  -- ---- a store that is followed

  -- All records that were found are durable, and their frames were written. The first of them is at this place.
  pub record Following (first now_first place : ℕ) (found durable : List Entry) (before now : Option (List ℕ)) : Type 0
    where
      pub first_is : now_first ≡ first
      pub count : place ≡ now_first + length found
      pub durable_is : durable ≡ found
      pub frames : List ℕ
      pub are : AreFramesOf A log first found frames
      pub sent : Appends before now frames

  pub following_none : (first now_first : ℕ) (found durable : List Entry) (before : Option (List ℕ))
      → now_first ≡ first → found ≡ [] → durable ≡ [] → Following first now_first first found durable before before
  following_none first now_first found durable before same none none_durable = record {
    first_is = same;
    count = omega (arith, same, ap length none);
    durable_is = none_durable ∙ sym none;
    frames = [];
    are = subst (λ (rs : List Entry). AreFramesOf A log first rs []) (sym none) refl;
    sent = Appends-nil before;
  }

  module _ (first now_first place : ℕ) (found durable : List Entry) (before now : Option (List ℕ))
      (following : Following first now_first place found durable before now) where
    from_first : now_first + length found ≡ first + length found
    from_first = ap (λ (n : ℕ). n + length found) following.first_is

    durable_then : (more now_found now_durable : List Entry) → now_found ≡ found ++ more
        → ((more ≡ []) × (now_durable ≡ durable)) ⊎ (now_durable ≡ now_found) → now_durable ≡ now_found
    durable_then more now_found now_durable found_is synced = elim synced [
      | inl none ↦ none.1 ∙ following.durable_is ∙ sym (append-nil found)
          ∙ ap (λ (rs : List Entry). found ++ rs) (sym none.0) ∙ sym found_is
      | inr all ↦ all
    ]

    pub following_more : (next then_first : ℕ) (now_found now_durable : List Entry) (after : Option (List ℕ))
        → then_first ≡ now_first → Follows A log now_first next found durable now_found now_durable now after
        → Following first then_first next now_found now_durable before after
    following_more next then_first now_found now_durable after same follows = record {
      first_is = same ∙ following.first_is;
      count = follows.count ∙ ap (λ (n : ℕ). n + length now_found) (sym same);
      durable_is = durable_then follows.more now_found now_durable follows.found_is follows.synced;
      frames = following.frames ++ follows.frames;
      are = subst (λ (rs : List Entry). AreFramesOf A log first rs (following.frames ++ follows.frames))
          (sym follows.found_is)
          (frames_append first found follows.more following.frames follows.frames following.are
          (subst (λ (n : ℕ). AreFramesOf A log n follows.more follows.frames) from_first follows.are));
      sent = Appends-trans before now after following.frames follows.frames following.sent follows.sent;
    }

    -- it ends between two steps
    pub following_left : (end : FollowEnd) → EndsSoAt end (first + length found)
        → HasFollowed A log first end found durable before now
    following_left end why = record {
      whole = found;
      left = [];
      found_is = sym (append-nil found);
      frames = following.frames;
      are = following.are;
      part = [];
      front = refl;
      synced = inl following.durable_is;
      sent = Appends-trans before now now following.frames [] following.sent (Appends-nil now);
      why = why;
    }

    pub following_stops : (fault : Fault) (now_found now_durable : List Entry) (after : Option (List ℕ))
        → StopsFollowing A log now_first fault found durable now_found now_durable now after
        → HasFollowed A log first (Stopped fault) now_found now_durable before after
    following_stops fault now_found now_durable after stops = elim stops [
      | unsynced more found_is durable_is same why ↦ record {
        whole = found;
        left = more;
        found_is = found_is;
        frames = following.frames;
        are = following.are;
        part = [];
        front = no_front (first + length found) more;
        synced = inr (refl, durable_is ∙ following.durable_is);
        sent = subst (λ (t : Option (List ℕ)). Appends before t (following.frames ++ [])) (sym same)
            (Appends-trans before now now following.frames [] following.sent (Appends-nil now));
        why = subst (λ (n : ℕ). EndsAt fault n) from_first why;
      }
      | unsent more found_is all sends ↦
          let long : now_first + length found + length sends.whole ≡ first + length (found ++ sends.whole) =
          omega (arith, following.first_is, length-append found sends.whole) in
          record {
            whole = found ++ sends.whole;
            left = sends.left;
            found_is = found_is ∙ ap (λ (rs : List Entry). found ++ rs) sends.split
                ∙ sym (append_assoc found sends.whole sends.left);
            frames = following.frames ++ sends.frames;
            are = frames_append first found sends.whole following.frames sends.frames following.are
                (subst (λ (n : ℕ). AreFramesOf A log n sends.whole sends.frames) from_first sends.are);
            part = sends.part;
            front = subst (λ (n : ℕ). IsFrontOfFirst A log n sends.left sends.part) long sends.front;
            synced = inl all;
            sent = subst (λ (l : List ℕ). Appends before after l)
                (sym (append_assoc following.frames sends.frames sends.part))
                (Appends-trans before now after following.frames (sends.frames ++ sends.part) following.sent sends.sent);
            why = subst (λ (n : ℕ). EndsAt fault n) long sends.why;
          }
    ]

  -- ---- one step

  module _ (first place : ℕ) (found durable mid_found mid_durable more : List Entry) (taken : Option (List ℕ))
      (count : place ≡ first + length found) (found_is : mid_found ≡ found ++ more) (durable_is : mid_durable ≡ durable) where
    pub step_starves : (fault : Fault) → EndsTrail fault (first + length found)
        → StopsFollowing A log first fault found durable mid_found mid_durable taken taken
    step_starves fault why = unsynced more found_is durable_is refl (trail_ends fault (first + length found) why)

    pub step_idle : more ≡ [] → Follows A log first place found durable mid_found mid_durable taken taken
    step_idle none = record {
      more = more;
      found_is = found_is;
      count = count ∙ ap (λ (rs : List Entry). first + length rs)
          (sym (append-nil found) ∙ ap (λ (rs : List Entry). found ++ rs) (sym none) ∙ sym found_is);
      synced = inl (none, durable_is);
      frames = [];
      are = subst (λ (rs : List Entry). AreFramesOf A log (first + length found) rs []) (sym none) refl;
      sent = Appends-nil taken;
    }

    module _ (now_found now_durable : List Entry) (still : now_found ≡ mid_found) where
      pub step_unsynced : (fault : Fault) → now_durable ≡ mid_durable → EndsSync fault
          → StopsFollowing A log first fault found durable now_found now_durable taken taken
      step_unsynced fault same why =
          unsynced more (still ∙ found_is) (same ∙ durable_is) refl (sync_ends fault (first + length found) why)

      module _ (shown : List Entry) (after : Option (List ℕ)) (synced : now_durable ≡ mid_found)
          (shown_is : shown ≡ more) where
        pub step_sent : (next : ℕ) → SendsFrames A log place shown next taken after
            → Follows A log first next found durable now_found now_durable taken after
        step_sent next sends = record {
          more = more;
          found_is = still ∙ found_is;
          count = sends.0 ∙ omega (arith, count, ap length shown_is, ap length (still ∙ found_is), length-append found more);
          synced = inr (synced ∙ sym still);
          frames = sends.1;
          are = subst (λ (n : ℕ). AreFramesOf A log n more sends.1) count
              (subst (λ (rs : List Entry). AreFramesOf A log place rs sends.1) shown_is sends.2);
          sent = sends.3;
        }

        pub step_unsent : (fault : Fault) → StopsSending A log place shown fault taken after
            → StopsFollowing A log first fault found durable now_found now_durable taken after
        step_unsent fault stops =
            unsent more (still ∙ found_is) (synced ∙ sym still)
            (subst (λ (n : ℕ). StopsSending A log n more fault taken after) count
            (subst (λ (rs : List Entry). StopsSending A log place rs fault taken after) shown_is stops))
