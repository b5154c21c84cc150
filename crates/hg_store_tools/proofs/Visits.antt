-- Records that are gone through, one after the other.
use Rattle.std.proofs.Common.{◌≡◌, inl, inr, ℕ, ◌+◌, List, [], ◌∷◌, ◌++◌, length, refl, sym, ap, ◌∙◌, subst}
use Rattle.std.proofs.Common.{arith, suc, length-append, Option}
use Rattle.std.proofs.lemmas.List.{append-nil}
use Rattle.std.proofs.KnownBytes.{Consumes-nil, Consumes-trans}
use Rattle.std.specs.Io.KnownBytes.{Consumes}
use Rattle.std.specs.List.{AllByRecursion}
use Rattle.hg_store.specs.Entries.{Entry}
use Rattle.hg_store.specs.Head.{version_of}
use Rattle.hg_store.specs.Pieces.{GivesNoRecord, GivesRecord}
use Rattle.hg_store.specs.Records.{IsDamaged, IsRecord, digest_of, frame, frames, last_digest}
use Rattle.hg_store.specs.declared.head.Head.{Head}
use Rattle.hg_store.specs.declared.head.Version.{Version}
use Rattle.hg_store.specs.declared.pieces.RecordStop.{RecordStop}
use Rattle.hg_store.specs.declared.pieces.RecordStop.TheVariants.{NoRecord as no_record}
use Rattle.hg_store.specs.declared.record.NoRecord.{NoRecord}
use Rattle.hg_store.specs.declared.record.NoRecord.TheVariants.{Damaged as damaged, End as at_end, Torn as torn}
use Rattle.hg_store_tools.specs.declared.fault.Fault.{Fault}
use Rattle.hg_store_tools.specs.declared.fault.Fault.TheVariants.{Damaged, Exists, Failed, Head as HasNoHead, Held}
use Rattle.hg_store_tools.specs.declared.fault.Fault.TheVariants.{Missing, NoBundle, NoMemory, NoPlace, Refused}
use Rattle.hg_store_tools.specs.declared.fault.Fault.TheVariants.{Torn as TornAt, Unsent, Upgraded}
use Rattle.hg_store_tools.specs.declared.fault.StoreEnd.{StoreEnd}
use Rattle.hg_store_tools.specs.declared.fault.StoreEnd.TheVariants.{Whole, Torn}
use Rattle.hg_store_tools.specs.Visiting.{EndsAs, FailsAs, IsUnreadAt, StopsVisitingFrom, VisitsEach, VisitsFrom}
use Rattle.hg_store_tools.specs.Visiting.{failed, unread}
use Rattle.hg_store_tools.proofs.Frames.{each-push, frames-push, last_digest-push}

visits-push : {T : Type 0} (step : ℕ → Entry → T → T → Type 0) (place : ℕ) (records : List Entry) (entry : Entry)
    (first mid last : T) → VisitsEach step place records first mid → step (place + length records) entry mid last
    → VisitsEach step place (records ++ entry ∷ []) first last
visits-push {T} step place [] entry first mid last visited done =
    let here : place + 0 ≡ place = omega arith in (
      last,
      subst (λ (t : T). step place entry t last) visited (subst (λ (n : ℕ). step n entry mid last) here done),
      refl,
    )
visits-push {T} step place (other ∷ records) entry first mid last visited done =
    let further : place + suc (length records) ≡ place + 1 + length records = omega arith in (
      visited.0,
      visited.1,
      visits-push step (place + 1) records entry visited.0 mid last visited.2
          (subst (λ (n : ℕ). step n entry mid last) further done),
    )

-- The reader gave these records, the last of which has that digest, and something was done with each.
pub record HasVisited {T : Type 0} (step : ℕ → Entry → T → T → Type 0) (version : Version) (start digest : List ℕ)
    (a b : Option (List ℕ)) (base place : ℕ) (first last : T) : Type 0 where
  pub records : List Entry
  pub each : AllByRecursion (IsRecord version) records
  pub gone : Consumes a b (frames version start records)
  pub digest_is : digest ≡ last_digest version start records
  pub count : base + length records ≡ place
  pub visited : VisitsEach step base records first last

pub visits_none : {T : Type 0} (step : ℕ → Entry → T → T → Type 0) (version : Version) (start : List ℕ)
    (a : Option (List ℕ)) (base : ℕ) (first : T) → HasVisited step version start start a a base base first first
visits_none step version start a base first = record {
  records = [];
  each = tt;
  gone = Consumes-nil a;
  digest_is = refl;
  count = omega arith;
  visited = refl;
}

module _ {T : Type 0} (step : ℕ → Entry → T → T → Type 0) (version : Version) (start digest : List ℕ)
    (a b : Option (List ℕ)) (base place : ℕ) (first mid : T)
    (has : HasVisited step version start digest a b base place first mid)
  where
    pub more_gone : (c : Option (List ℕ)) (entry : Entry) → Consumes b c (frame version digest entry)
        → Consumes a c (frames version start (has.records ++ entry ∷ []))
    more_gone c entry gone =
        subst (Consumes a c)
        (ap (λ (d : List ℕ). frames version start has.records ++ frame version d entry) has.digest_is
        ∙ sym (frames-push version start has.records entry))
        (Consumes-trans a b c (frames version start has.records) (frame version digest entry) has.gone gone)

    pub visits_more : (c : Option (List ℕ)) (entry : Entry) (next : List ℕ) (last : T)
        → GivesRecord version digest b c entry next → step place entry mid last
        → HasVisited step version start next a c base (place + 1) first last
    visits_more c entry next last gives done =
        let here : place ≡ base + length has.records = omega (arith, has.count) in
        record {
          records = has.records ++ entry ∷ [];
          each = each-push version has.records entry has.each gives.is;
          gone = more_gone c entry gives.gone;
          digest_is = gives.digest_is ∙ ap (λ (d : List ℕ). digest_of version d entry) has.digest_is
              ∙ sym (last_digest-push version start has.records entry);
          count = omega (arith, length-append has.records (entry ∷ []), has.count);
          visited = visits-push step base has.records entry first mid last has.visited
              (subst (λ (n : ℕ). step n entry mid last) here done);
        }

    pub tail_gone : (c : Option (List ℕ)) (tail : List ℕ) → Consumes b c tail
        → Consumes a c (frames version start has.records ++ tail)
    tail_gone c tail gone = Consumes-trans a b c (frames version start has.records) tail has.gone gone

-- what a record is read to be, or why none is
abbrev GivesNone : RecordStop → Version → List ℕ → Option (List ℕ) → Option (List ℕ) → Type 0
GivesNone stop version digest b c =
    (found : NoRecord) → stop ≡ no_record found → GivesNoRecord found version digest b c

module _ {T : Type 0} (step : ℕ → Entry → T → T → Type 0) (head : Head) (start digest : List ℕ)
    (a b : Option (List ℕ)) (base place : ℕ) (first last : T)
    (has : HasVisited step (version_of head) start digest a b base place first last) where
  visits_whole : (c : Option (List ℕ)) (ending : StoreEnd) (stop : RecordStop) → EndsAs ending place stop
      → GivesNone stop (version_of head) digest b c → VisitsFrom step head base start a c ending first last
  visits_whole c Whole stop ends none =
      let gives = none at_end ends in
      record {
        records = has.records;
        tail = gives.tail;
        each = has.each;
        gone = tail_gone step (version_of head) start digest a b base place first last has c gives.tail gives.gone;
        ends = gives.stops;
        over = λ either. elim either [
          | inl empty ↦ gives.over (inl empty)
          | inr other ↦ absurd (other refl)
        ];
        visited = has.visited;
      }
  visits_whole c (Torn count) stop ends none =
      let gives = none torn ends.1 in
      record {
        records = has.records;
        tail = gives.tail;
        each = has.each;
        gone = tail_gone step (version_of head) start digest a b base place first last has c gives.tail gives.gone;
        ends = (ends.0 ∙ sym has.count, gives.stops);
        over = λ _. gives.over (inr refl);
        visited = has.visited;
      }

  module _ (fails : ℕ → Entry → Fault → T → T → Type 0) where
    starves : (c : Option (List ℕ)) (fault : Fault) → IsUnreadAt fault (version_of head)
        (last_digest (version_of head) start has.records) (base + length has.records) []
        → StopsVisitingFrom step fails head base start a c fault first last
    starves c fault why =
        unread has.records [] b has.each
        (subst (Consumes a b) (sym (append-nil (frames (version_of head) start has.records))) has.gone) why has.visited

    visits_not : (c : Option (List ℕ)) (fault : Fault) (stop : RecordStop) → FailsAs fault place stop
        → GivesNone stop (version_of head) digest b c → StopsVisitingFrom step fails head base start a c fault first last
    visits_not c (Damaged at) stop ends none =
        let gives = none damaged ends.1 in
        unread has.records gives.tail c has.each
        (tail_gone step (version_of head) start digest a b base place first last has c gives.tail gives.gone) (
          ends.0 ∙ sym has.count,
          subst (λ (d : List ℕ). IsDamaged (version_of head) d gives.tail) has.digest_is gives.stops,
        )
        has.visited
    visits_not c NoMemory stop ends none = starves c NoMemory tt
    visits_not c Failed stop ends none = starves c Failed tt
    visits_not c Missing stop ends none = absurd ends
    visits_not c (HasNoHead fault) stop ends none = absurd ends
    visits_not c (NoBundle at) stop ends none = absurd ends
    visits_not c (Refused at) stop ends none = absurd ends
    visits_not c (NoPlace count) stop ends none = absurd ends
    visits_not c (TornAt count) stop ends none = absurd ends
    visits_not c Upgraded stop ends none = absurd ends
    visits_not c Held stop ends none = absurd ends
    visits_not c Exists stop ends none = absurd ends
    visits_not c Unsent stop ends none = absurd ends

-- the same, where the version is that of the head
pub visits_all : {T : Type 0} (step : ℕ → Entry → T → T → Type 0) (head : Head) (version : Version) (start digest : List ℕ)
    (a b c : Option (List ℕ)) (base place : ℕ) (first last : T) (ending : StoreEnd) (stop : RecordStop)
    → version ≡ version_of head → HasVisited step version start digest a b base place first last → EndsAs ending place stop
    → GivesNone stop version digest b c → VisitsFrom step head base start a c ending first last
visits_all {T} step head version start digest a b c base place first last ending stop is has ends none =
    visits_whole step head start digest a b base place first last
    (subst (λ (v : Version). HasVisited step v start digest a b base place first last) is has) c ending stop ends
    (subst (λ (v : Version). GivesNone stop v digest b c) is none)

pub visits_unread : {T : Type 0} (step : ℕ → Entry → T → T → Type 0) (fails : ℕ → Entry → Fault → T → T → Type 0)
    (head : Head) (version : Version) (start digest : List ℕ) (a b c : Option (List ℕ)) (base place : ℕ) (first last : T)
    (fault : Fault) (stop : RecordStop) → version ≡ version_of head
    → HasVisited step version start digest a b base place first last → FailsAs fault place stop
    → GivesNone stop version digest b c → StopsVisitingFrom step fails head base start a c fault first last
visits_unread {T} step fails head version start digest a b c base place first last fault stop is has ends none =
    visits_not step head start digest a b base place first last
    (subst (λ (v : Version). HasVisited step v start digest a b base place first last) is has) fails c fault stop ends
    (subst (λ (v : Version). GivesNone stop v digest b c) is none)

pub visits_cut_off : {T : Type 0} (step : ℕ → Entry → T → T → Type 0) (fails : ℕ → Entry → Fault → T → T → Type 0)
    (head : Head) (version : Version) (start digest : List ℕ) (a b : Option (List ℕ)) (base place : ℕ) (first last : T)
    → version ≡ version_of head → HasVisited step version start digest a b base place first last
    → StopsVisitingFrom step fails head base start a b Failed first last
visits_cut_off {T} step fails head version start digest a b base place first last is has =
    starves step head start digest a b base place first last
    (subst (λ (v : Version). HasVisited step v start digest a b base place first last) is has) fails b Failed tt

pub visits_failed : {T : Type 0} (step : ℕ → Entry → T → T → Type 0) (fails : ℕ → Entry → Fault → T → T → Type 0)
    (head : Head) (version : Version) (start digest : List ℕ) (a b c : Option (List ℕ)) (base place : ℕ) (first mid last : T)
    (fault : Fault) (entry : Entry) (next : List ℕ) → version ≡ version_of head
    → HasVisited step version start digest a b base place first mid → GivesRecord version digest b c entry next
    → fails place entry fault mid last → StopsVisitingFrom step fails head base start a c fault first last
visits_failed {T} step fails head version start digest a b c base place first mid last fault entry next is has gives why =
    let at = subst (λ (v : Version). HasVisited step v start digest a b base place first mid) is has in
    let given = subst (λ (v : Version). GivesRecord v digest b c entry next) is gives in
    failed at.records entry mid
    (each-push (version_of head) at.records entry at.each given.is)
    (more_gone step (version_of head) start digest a b base place first mid at c entry given.gone)
    at.visited
    (subst (λ (n : ℕ). fails n entry fault mid last) (sym at.count) why)
