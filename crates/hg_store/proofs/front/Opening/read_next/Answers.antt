use Rattle.std.proofs.Common.{◌≡◌, ◌∙◌, ◌+◌, ◌<◌, ◌∷◌, ◌++◌, [], ℕ, List, Err, ap, append-nil, append_assoc, arith, length}
use Rattle.std.proofs.Common.{length-append, refl, subst, sym, true}
use Rattle.std.specs.List.{AllByRecursion}
use Rattle.hg_store.specs.Again.{HasGates}
use Rattle.hg_store.specs.Calls.{bytes_in}
use Rattle.hg_store.specs.Entries.{Entry}
use Rattle.hg_store.specs.Files.{digest_behind, stored}
use Rattle.hg_store.specs.Head.{head_for}
use Rattle.hg_store.specs.Records.{IsDamaged, IsEnd, IsRecord, IsTorn, frame}
use Rattle.hg_store.specs.code.Headings.{entry_with, heading_bytes}
use Rattle.hg_store.specs.declared.head.Head.{Head}
use Rattle.hg_store.specs.declared.head.Version.TheVariants.{Second}
use Rattle.hg_store.specs.declared.opening.RecoverFault.TheVariants.{Torn}
use Rattle.hg_store.specs.declared.record.NoRecord.TheVariants as no
use Rattle.hg_store.specs.declared.start.StoreFault.TheVariants.{Recover}
use Rattle.hg_store.proofs.Frames.{each-push}
use Rattle.hg_store.proofs.OneByOne.{chained_more, fewer_records, place_more, read_more}
use Rattle.hg_store.proofs.Streamed.{label_of, over_bundle, over_heading, stopped, torn_heading}
use Rattle.hg_store.proofs.front.Opening.read_next.Goals as goal

pub digest_with-requires-clause-label : goal.digest_with-requires-clause-label
digest_with-requires-clause-label g c =
    let h = c.in-Ok.ensures.whole in
    let heading = c.in-Ok.heading in
    label_of heading.numbers heading.name.now heading.told.now c.deref.result.now h
    (c.in_ok-read_heading.ensures.whole heading.numbers (heading.name.now ++ heading.told.now) h.are
    (sym c.deref.ensures.value ∙ h.spelled)).0

pub returns-in-Err-End-clause-read : goal.returns-in-Err-End-clause-read
returns-in-Err-End-clause-read g c = λ setup has.
    let head : Head = head_for setup c.args.self.now.identity in
    let records : List Entry = c.args.self.now.records.entries in
    let items : List ℕ = c.read_heading.new.bytes.items in (
      record {
        all = record {
          allowed = has.allowed;
          each = has.each;
          read = c.in_ok-read_heading.ensures.read
              ∙ ap (λ (l : List ℕ). l ++ items) (has.read ∙ append-nil (stored head records));
          place = has.place;
          chained = has.chained;
          count = has.count;
          kept = has.kept;
        };
        ends = subst IsEnd c.deref.ensures.value (c.in-Err-End.ensures.end (ap Err c.in-Err-End.field-0-is));
      },
      refl,
      refl,
    )

pub returns-in-Err-Torn-clause-err : goal.returns-in-Err-Torn-clause-err
returns-in-Err-Torn-clause-err g c = λ setup has.
    let head : Head = head_for setup c.args.self.now.identity in
    let records : List Entry = c.args.self.now.records.entries in
    let items : List ℕ = c.read_heading.new.bytes.items in
    stopped no.Torn c.stop_fault.result setup head records (g.C.Calls.drawn c.read_heading.new.calls) items
    c.args.self.now.digest c.args.self.now.stored (g.C.Calls.history c.args.self.now.calls)
    (g.C.Calls.history c.read_heading.new.calls) has.allowed has.each
    (c.in_ok-read_heading.ensures.read
    ∙ ap (λ (l : List ℕ). l ++ items) (has.read ∙ append-nil (stored head records))) has.count has.chained
    c.read_heading.ensures.same (λ is. cc is)
    (λ _. subst (IsTorn Second) c.deref.ensures.value
    (torn_heading c.deref.result.now (c.in-Err-Torn.ensures.torn (ap Err c.in-Err-Torn.field-0-is))))
    (λ is. absurd (cc is))
    c.stop_fault.ensures.torn c.stop_fault.ensures.damaged

pub returns-in-Err-Damaged-clause-err : goal.returns-in-Err-Damaged-clause-err
returns-in-Err-Damaged-clause-err g c = λ setup has.
    let head : Head = head_for setup c.args.self.now.identity in
    let records : List Entry = c.args.self.now.records.entries in
    let items : List ℕ = c.read_heading.new.bytes.items in
    stopped no.Damaged c.stop_fault-in-Err-Damaged.result setup head records (g.C.Calls.drawn c.read_heading.new.calls) items
    c.args.self.now.digest c.args.self.now.stored (g.C.Calls.history c.args.self.now.calls)
    (g.C.Calls.history c.read_heading.new.calls) has.allowed has.each
    (c.in_ok-read_heading.ensures.read
    ∙ ap (λ (l : List ℕ). l ++ items) (has.read ∙ append-nil (stored head records))) has.count has.chained
    c.read_heading.ensures.same (λ is. cc is)
    (λ is. absurd (cc is))
    (λ _. subst (IsDamaged Second c.args.self.now.digest) c.deref.ensures.value
    (c.in-Err-Damaged.ensures.damaged c.args.self.now.digest (ap Err c.in-Err-Damaged.field-0-is)))
    c.stop_fault-in-Err-Damaged.ensures.torn c.stop_fault-in-Err-Damaged.ensures.damaged

pub returns-in-Err-Torn-clause-torn : goal.returns-in-Err-Torn-clause-torn
returns-in-Err-Torn-clause-torn g c = λ whole _.
    over_heading c.deref.result.now (g.C.Calls.is_over c.read_heading.new.calls ≡ true)
    (c.in-Err-Torn.ensures.torn (ap Err c.in-Err-Torn.field-0-is))
    (λ few. c.in_ok-read_heading.ensures.short (subst (λ (l : List ℕ). length l < 14) c.deref.ensures.value few))
    (λ numbers rest are is. c.in_ok-read_heading.ensures.whole numbers rest are (sym c.deref.ensures.value ∙ is))

pub returns-in-Err-Damaged-clause-torn : goal.returns-in-Err-Damaged-clause-torn
returns-in-Err-Damaged-clause-torn g c = λ whole is.
    let same : c.stop_fault-in-Err-Damaged.result ≡ Recover (Torn whole) = cc is in
    over_bundle no.Damaged c.stop_fault-in-Err-Damaged.result c.args.self.now.stored whole _ (λ e. cc e)
    (λ e. absurd (cc e)) c.stop_fault-in-Err-Damaged.ensures.damaged same

pub returns-in-Err-clause-torn : goal.returns-in-Err-clause-torn
returns-in-Err-clause-torn g c = λ whole is.
    let same : c.stop_fault-in-Err.result ≡ Recover (Torn whole) = cc is in
    over_bundle c.in-Err.stop c.stop_fault-in-Err.result c.args.self.now.stored whole _
    (λ e. c.in-Err.ensures.end (ap Err e))
    (λ e. c.in_ok-bundle.ensures.short (c.in-Err.ensures.torn (ap Err e)).0)
    c.stop_fault-in-Err.ensures.damaged same

pub overflow_add-self-3 : goal.overflow_add-self-3
overflow_add-self-3 g c =
    let has = c.requires.1 in
    let head : Head = head_for c.requires.0 c.args.self.now.identity in
    omega (
      arith,
      has.count,
      has.place,
      fewer_records head c.args.self.now.records.entries,
      c.if-self-ge-MOST_BYTES.false,
    )

pub returns-in-Err-clause-err : goal.returns-in-Err-clause-err
returns-in-Err-clause-err g c = λ setup has.
    let head : Head = head_for setup c.args.self.now.identity in
    let records : List Entry = c.args.self.now.records.entries in
    let items : List ℕ = c.read_heading.new.bytes.items in
    let bundle : List ℕ = bytes_in c.in_ok-bundle.bundle.pieces.events in
    let heading = c.in-Ok.heading in
    let items_is : heading_bytes heading.numbers heading.name.now heading.told.now ≡ items =
    sym c.in-Ok.ensures.whole.spelled ∙ c.deref.ensures.value in
    stopped c.in-Err.stop c.stop_fault-in-Err.result setup head records
    (g.C.Calls.drawn c.read_bundle.new.calls) (items ++ bundle) c.args.self.now.digest c.args.self.now.stored
    (g.C.Calls.history c.args.self.now.calls) (g.C.Calls.history c.read_bundle.new.calls) has.allowed has.each
    (c.in_ok-bundle.ensures.read
    ∙ ap (λ (l : List ℕ). l ++ bundle) (c.in_ok-read_heading.ensures.read
    ∙ ap (λ (l : List ℕ). l ++ items) (has.read ∙ append-nil (stored head records)))
    ∙ append_assoc (stored head records) items bundle) has.count has.chained
    (c.read_bundle.ensures.same ∙ c.read_heading.ensures.same)
    (λ is. c.in-Err.ensures.end (ap Err is))
    (λ is. subst (λ (l : List ℕ). IsTorn Second (l ++ bundle)) items_is
    (c.in-Err.ensures.torn (ap Err is)).1)
    (λ is. subst (λ (l : List ℕ). IsDamaged Second c.args.self.now.digest (l ++ bundle)) items_is
    (c.in-Err.ensures.damaged (ap Err is)))
    c.stop_fault-in-Err.ensures.torn c.stop_fault-in-Err.ensures.damaged

pub returns-clause-read : goal.returns-clause-read
returns-clause-read g c = λ setup has.
    let head : Head = head_for setup c.args.self.now.identity in
    let records : List Entry = c.args.self.now.records.entries in
    let digest : List ℕ = c.args.self.now.digest in
    let items : List ℕ = c.read_heading.new.bytes.items in
    let bundle : List ℕ = bytes_in c.in_ok-bundle.bundle.pieces.events in
    let heading = c.in-Ok.heading in
    let items_is : heading_bytes heading.numbers heading.name.now heading.told.now ≡ items =
    sym c.in-Ok.ensures.whole.spelled ∙ c.deref.ensures.value in
    let found : Entry = entry_with heading.numbers heading.name.now bundle in
    let next = c.in-Ok-digest_with.ensures.whole in
    let all : List ℕ = items ++ bundle in
    let spelled : all ≡ frame Second digest found ++ [] =
    ap (λ (l : List ℕ). l ++ bundle) (sym items_is) ∙ next.spelled in
    let grown : c.and-self.result.entries ≡ records ++ found ∷ [] =
    c.and-self.ensures ∙ ap (λ (e : Entry). records ++ e ∷ []) c.passed.ensures in (
      record {
        allowed = has.allowed;
        each = subst (AllByRecursion (IsRecord Second)) (sym grown) (each-push Second records found has.each next.is);
        read = read_more head records found digest has.chained (g.C.Calls.drawn c.args.self.now.calls) all
            (g.C.Calls.drawn c.read_bundle.new.calls) [] has.read spelled refl
            (c.in_ok-bundle.ensures.read ∙ ap (λ (l : List ℕ). l ++ bundle) c.in_ok-read_heading.ensures.read
            ∙ append_assoc (g.C.Calls.drawn c.args.self.now.calls) items bundle)
            ∙ ap (λ (rs : List Entry). stored head rs ++ []) (sym grown);
        place = place_more head records found digest has.chained all [] c.args.self.now.end
            (c.args.self.now.end + (c.len.result + c.in_ok-bundle.bundle.len)) spelled refl has.place
            (omega (arith, c.len.ensures, c.in_ok-bundle.ensures.len, length-append items bundle))
            ∙ ap (λ (rs : List Entry). length (stored head rs)) (sym grown);
        chained = chained_more head records found digest has.chained c.in-Ok-digest_with.digest next.digest
            ∙ ap (digest_behind head) (sym grown);
        count = omega (arith, has.count, ap length grown, length-append records (found ∷ []));
        kept = subst (λ (rs : List Entry). HasGates head rs c.add_gate.new.gates.items) (sym grown)
            (c.in_ok-add_gate.ensures head records found has.kept has.place);
      },
      (found, record { more = grown; taken = c.in_ok-bundle.ensures.taken }),
    )
