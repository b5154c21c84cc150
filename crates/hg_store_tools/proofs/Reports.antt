-- Records that are run one by one, and their report.
use Rattle.std.proofs.Common.{◌≡◌, ℕ, ◌+◌, List, [], ◌∷◌, ◌++◌, length, take, refl, sym, ap}
use Rattle.std.proofs.Common.{◌∙◌, subst, arith, length-append, Option, get_or}
use Rattle.std.proofs.lemmas.List.{append-nil, take_at}
use Rattle.std.specs.Io.KnownBytes.{Consumes}
use Rattle.hg_types.specs.declared.limits.Limits.{Limits}
use Rattle.hg_push.specs.Run.{RepositoryOf}
use Rattle.hg_recovery.specs.Opening.{empty_repository}
use Rattle.hg_recovery.specs.Replays.{IsUnrun, Replays, ReplaysOne}
use Rattle.hg_store.specs.Entries.{Entry}
use Rattle.hg_store.specs.Head.{setup_of, version_of}
use Rattle.hg_store.specs.Pieces.{HasToGive}
use Rattle.hg_store.specs.Records.{frames}
use Rattle.hg_store.specs.declared.head.Head.{Head}
use Rattle.hg_store_tools.specs.Reporting.{IsUntold, Replayed, ReplaysNoRecord, ReplaysRecord, Reports, report_text}
use Rattle.hg_store_tools.specs.Reporting.{unread as untold_unread, unrun}
use Rattle.hg_store_tools.specs.Visiting.{Begins, StopsVisiting, Visits, VisitsEach, failed, has_no_begin, unread}
use Rattle.hg_store_tools.specs.declared.fault.Fault.{Fault}
use Rattle.hg_store_tools.specs.declared.fault.Fault.TheVariants.{NoMemory}
use Rattle.hg_store_tools.specs.declared.fault.StoreEnd.{StoreEnd}
use Rattle.hg_store_tools.proofs.Files.{from_front, has_front, headless, is_read, is_unread, is_unread_at, whole_file}

last_is : (records : List Entry) (entry : Entry) → entry ≡ get_or (records ++ entry ∷ []) (length records) entry
last_is [] entry = refl
last_is (other ∷ records) entry = last_is records entry

-- the records were run, and what is counted are their places
record HasRun {A : Type 0} (limits : Limits) (place : ℕ) (records : List Entry) (first last : Replayed A) : Type 0 where
  ran : Replays limits first.repo records last.repo
  limits_are : last.repo.settings.limits ≡ limits
  count : first.count ≡ place → last.count ≡ place + length records

all_ran : {A : Type 0} (limits : Limits) (place : ℕ) (records : List Entry) (first last : Replayed A)
    → first.repo.settings.limits ≡ limits → VisitsEach ReplaysRecord place records first last
    → HasRun limits place records first last
all_ran {A} limits place [] first last are visited = record {
  ran = ap (λ (r : Replayed A). r.repo) (sym visited);
  limits_are = ap (λ (r : Replayed A). r.repo.settings.limits) visited ∙ are;
  count = λ counted. ap (λ (r : Replayed A). r.count) visited ∙ counted ∙ omega arith;
}
all_ran {A} limits place (entry ∷ records) first last are visited =
    let mid = visited.0 in
    let one = visited.1 in
    let kept : mid.repo.settings.limits ≡ limits = ap (λ s. s.limits) one.1 ∙ are in
    let others = all_ran limits (place + 1) records mid last kept visited.2 in
    record {
      ran = (
        mid.repo,
        subst (λ (l : Limits). ReplaysOne l first.repo entry.bundle mid.repo) are one.0,
        others.ran,
      );
      limits_are = others.limits_are;
      count = λ _. others.count one.2 ∙ omega arith;
    }

module _ {A : Type 0} (head : Head) (digest : List ℕ) (a b c : Option (List ℕ)) (begins : Begins a b head digest)
    (first last : Replayed A) (repo : first.repo ≡ empty_repository (setup_of head)) (none : first.count ≡ 0) where
  limits_so : first.repo.settings.limits ≡ head.limits
  limits_so = ap (λ (r : RepositoryOf A). r.settings.limits) repo

  pub reports : (ending : StoreEnd) (text : List ℕ) → Visits ReplaysRecord head digest b c ending first last
      → text ≡ report_text last.repo last.count → (file : List ℕ) × HasToGive a file × Reports A file ending text
  reports ending text visits text_is =
      let at = whole_file head digest a b c begins visits.records visits.tail visits.each visits.gone in
      let run = all_ran head.limits 0 visits.records first last limits_so visits.visited in
      let counted : last.count ≡ length visits.records = run.count none ∙ omega arith in (
        at.file,
        at.is,
        record {
          head = head;
          records = visits.records;
          read = is_read head digest a b c begins visits.records visits.tail visits.each visits.gone ending visits.over
              visits.ends;
          repo = last.repo;
          ran = subst (λ (r : RepositoryOf A). Replays head.limits r visits.records last.repo) repo run.ran;
          text_is = text_is ∙ ap (report_text last.repo) counted;
        },
      )

  pub not_told : (fault : Fault)
      → StopsVisiting ReplaysRecord (λ place entry fault before after. ReplaysNoRecord place entry fault before) head digest
      b c fault first last → (file : List ℕ) × HasToGive a file × IsUntold A file fault
  not_told fault stops = elim stops [
    | unread records tail mid each gone why visited ↦
        let at = whole_file head digest a b mid begins records tail each gone in
        let front = has_front head digest a b mid begins records tail each gone in (
          at.file,
          at.is,
          untold_unread (is_unread fault at.file head records (tail ++ at.rest) front
              (is_unread_at head digest a b mid begins records tail each gone fault why)),
        )
    | failed records entry mid each gone visited here ↦
        let why = subst (λ (n : ℕ). ReplaysNoRecord n entry fault mid) (from_front (length records)) here in
        let many = records ++ entry ∷ [] in
        let all : Consumes b c (frames (version_of head) digest many ++ []) =
        subst (Consumes b c) (sym (append-nil (frames (version_of head) digest many))) gone in
        let at = whole_file head digest a b c begins many [] each all in
        let run = all_ran head.limits 0 records first mid limits_so visited in
        let before : take (length records) many ≡ records = take_at records (entry ∷ []) (length records) refl in
        let ran : Replays head.limits (empty_repository (setup_of head)) (take (length records) many) mid.repo =
        subst (λ (rs : List Entry). Replays head.limits (empty_repository (setup_of head)) rs mid.repo) (sym before)
        (subst (λ (r : RepositoryOf A). Replays head.limits r records mid.repo) repo run.ran) in (
          at.file,
          at.is,
          unrun head many ([] ++ at.rest) why.0 mid.repo
              (has_front head digest a b c begins many [] each all)
              (record {
                place = length records;
                entry = entry;
                more = omega (arith, length-append records (entry ∷ []));
                at = last_is records entry;
                ran = ran;
                unrun = subst (λ (l : Limits). IsUnrun why.0 (length records) l mid.repo entry.bundle) run.limits_are why.1;
              })
              why.2,
        )
  ]

  -- memory was refused for the report
  pub starved : (ending : StoreEnd) → Visits ReplaysRecord head digest b c ending first last
      → (file : List ℕ) × HasToGive a file × IsUntold A file NoMemory
  starved ending visits =
      let at = whole_file head digest a b c begins visits.records visits.tail visits.each visits.gone in
      (at.file, at.is, untold_unread tt)

pub not_begun : (A : Type 0) (fault : Fault) (a b : Option (List ℕ)) → has_no_begin fault a b
    → (file : List ℕ) × HasToGive a file × IsUntold A file fault
not_begun A fault a b none =
    let at = headless fault a b none in
    (at.0, at.1, untold_unread at.2)
