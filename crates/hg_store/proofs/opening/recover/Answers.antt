use Rattle.std.proofs.Common.{◌≡◌, inr, ℕ, List, drop, sym, ap, ◌∙◌, subst}
use Rattle.hg_store.specs.Files.{StandsFor}
use Rattle.hg_store.proofs.Moments.{no_more, one_behind}
use Rattle.hg_store.proofs.Repair.{ends_as, here_stands, is_old, is_torn, only_as, stands_as}
use Rattle.hg_store.specs.Device.{LeavesOnly}
use Rattle.std.proofs.Common.{Err}
use Rattle.hg_store.specs.Tails.{IsTailRefused}
use Rattle.hg_store.specs.declared.tail.TailFault.{TailFault}
use Rattle.hg_store.proofs.Tails.{at_most, hiding_is, refused_as, shown_is, tail_safe}
use Rattle.hg_store.proofs.opening.recover.Goals as goal

pub returns-in_err-bytes-clause-any_moment : goal.returns-in_err-bytes-clause-any_moment
returns-in_err-bytes-clause-any_moment g c = λ head records stands only.
    let read = no_more g.D.Device.moment g.D.Device.left_since c.args.device.now c.read.new.self
    (StandsFor head records) (g.D.Device.may_leave c.args.device.now) (g.D.Device.may_leave c.read.new.self)
    (g.met.D.Device.only_now c.args.device.now) (here_stands head records (g.D.Device.seen c.args.device.now)
    (g.D.Device.may_leave c.args.device.now) stands only) c.read.ensures.time c.read.ensures.crash in
    read

pub returns-in_err-found-clause-any_moment : goal.returns-in_err-found-clause-any_moment
returns-in_err-found-clause-any_moment g c = λ head records stands only.
    let read = no_more g.D.Device.moment g.D.Device.left_since c.args.device.now c.read.new.self
    (StandsFor head records) (g.D.Device.may_leave c.args.device.now) (g.D.Device.may_leave c.read.new.self)
    (g.met.D.Device.only_now c.args.device.now) (here_stands head records (g.D.Device.seen c.args.device.now)
    (g.D.Device.may_leave c.args.device.now) stands only) c.read.ensures.time c.read.ensures.crash in
    read

pub returns-then-is_old-clause-any_moment : goal.returns-then-is_old-clause-any_moment
returns-then-is_old-clause-any_moment g c = λ head records stands only.
    no_more g.D.Device.moment g.D.Device.left_since c.args.device.now c.read.new.self
    (StandsFor head records) (g.D.Device.may_leave c.args.device.now) (g.D.Device.may_leave c.read.new.self)
    (g.met.D.Device.only_now c.args.device.now) (here_stands head records (g.D.Device.seen c.args.device.now)
    (g.D.Device.may_leave c.args.device.now) stands only) c.read.ensures.time c.read.ensures.crash

pub returns-then-is_old-clause-old_version : goal.returns-then-is_old-clause-old_version
returns-then-is_old-clause-old_version g c = λ is. (
  is_old c.in_ok-found.found.head c.in_ok-found.found.records (g.D.Device.seen c.args.device.now)
      c.deref.result.now (drop c.in_ok-found.found.end c.deref.result.now)
      (c.deref.ensures.value ∙ c.in_ok-bytes.ensures.bytes) c.in_ok-found.ensures.store
      (c.is_old.ensures.old c.if-is_old.true),
  record { same = c.read.ensures.seen; outcomes = c.read.ensures.crash },
)

pub returns-then-found-clause-any_moment : goal.returns-then-found-clause-any_moment
returns-then-found-clause-any_moment g c = λ head records stands only.
    let read = no_more g.D.Device.moment g.D.Device.left_since c.args.device.now c.read.new.self
    (StandsFor head records) (g.D.Device.may_leave c.args.device.now) (g.D.Device.may_leave c.read.new.self)
    (g.met.D.Device.only_now c.args.device.now) (here_stands head records (g.D.Device.seen c.args.device.now)
    (g.D.Device.may_leave c.args.device.now) stands only) c.read.ensures.time c.read.ensures.crash in
    read

pub returns-then-found-clause-torn : goal.returns-then-found-clause-torn
returns-then-found-clause-torn g c = λ whole is.
    let same : whole ≡ c.len.result = cc in (
      is_torn c.in_ok-found.found.head c.in_ok-found.found.records (g.D.Device.seen c.args.device.now)
          c.deref.result.now c.in_ok-found.found.end whole (c.deref.ensures.value ∙ c.in_ok-bytes.ensures.bytes)
          c.in_ok-found.ensures.store (c.in_ok-found.ensures.torn c.if-found.true) (same ∙ c.len.ensures),
      record { same = c.read.ensures.seen; outcomes = c.read.ensures.crash },
    )

pub returns-in_err-shut_gate-clause-any_moment : goal.returns-in_err-shut_gate-clause-any_moment
returns-in_err-shut_gate-clause-any_moment g c = λ head records stands only.
    let read = no_more g.D.Device.moment g.D.Device.left_since c.args.device.now c.read.new.self
    (StandsFor head records) (g.D.Device.may_leave c.args.device.now) (g.D.Device.may_leave c.read.new.self)
    (g.met.D.Device.only_now c.args.device.now) (here_stands head records (g.D.Device.seen c.args.device.now)
    (g.D.Device.may_leave c.args.device.now) stands only) c.read.ensures.time c.read.ensures.crash in
    let bytes = c.deref.ensures.value ∙ c.in_ok-bytes.ensures.bytes in
    let ends = ends_as head c.in_ok-found.found.head records c.in_ok-found.found.records
    (g.D.Device.seen c.args.device.now) c.deref.result.now (g.D.Device.seen c.read.new.self)
    (drop c.in_ok-found.found.end c.deref.result.now) c.in_ok-found.found.end stands bytes
    c.in_ok-found.ensures.store c.in_ok-found.ensures.end c.read.ensures.seen in
    let now = only_as (g.D.Device.seen c.args.device.now) (g.D.Device.seen c.read.new.self)
    (g.D.Device.may_leave c.args.device.now) (g.D.Device.may_leave c.read.new.self) only c.read.ensures.seen
    c.read.ensures.crash in
    one_behind g.D.Device.moment g.D.Device.left_since c.args.device.now c.read.new.self c.shut_gate.new.device
    (StandsFor head records) (StandsFor head records) (StandsFor head records) read
    (c.shut_gate.ensures.any_moment head records ends now) (λ f p. p) (λ f p. p)

pub returns-clause-any_moment : goal.returns-clause-any_moment
returns-clause-any_moment g c = λ head records stands only.
    let read = no_more g.D.Device.moment g.D.Device.left_since c.args.device.now c.read.new.self
    (StandsFor head records) (g.D.Device.may_leave c.args.device.now) (g.D.Device.may_leave c.read.new.self)
    (g.met.D.Device.only_now c.args.device.now) (here_stands head records (g.D.Device.seen c.args.device.now)
    (g.D.Device.may_leave c.args.device.now) stands only) c.read.ensures.time c.read.ensures.crash in
    let bytes = c.deref.ensures.value ∙ c.in_ok-bytes.ensures.bytes in
    let ends = ends_as head c.in_ok-found.found.head records c.in_ok-found.found.records
    (g.D.Device.seen c.args.device.now) c.deref.result.now (g.D.Device.seen c.read.new.self)
    (drop c.in_ok-found.found.end c.deref.result.now) c.in_ok-found.found.end stands bytes
    c.in_ok-found.ensures.store c.in_ok-found.ensures.end c.read.ensures.seen in
    let now = only_as (g.D.Device.seen c.args.device.now) (g.D.Device.seen c.read.new.self)
    (g.D.Device.may_leave c.args.device.now) (g.D.Device.may_leave c.read.new.self) only c.read.ensures.seen
    c.read.ensures.crash in
    one_behind g.D.Device.moment g.D.Device.left_since c.args.device.now c.read.new.self c.shut_gate.new.device
    (StandsFor head records) (StandsFor head records) (StandsFor head records) read
    (c.shut_gate.ensures.any_moment head records ends now) (λ f p. p) (λ f p. p)

pub returns-clause-read : goal.returns-clause-read
returns-clause-read g c =
    stands_as c.in_ok-found.found.head c.in_ok-found.found.records (g.D.Device.seen c.args.device.now)
    c.deref.result.now c.in_ok-found.found.end (c.deref.ensures.value ∙ c.in_ok-bytes.ensures.bytes)
    c.in_ok-found.ensures.store (c.in_ok-found.ensures.whole c.if-found.false)

pub returns-clause-settled : goal.returns-clause-settled
returns-clause-settled g c =
    let stands = returns-clause-read g c in
    let ends = ends_as c.in_ok-found.found.head c.in_ok-found.found.head c.in_ok-found.found.records
    c.in_ok-found.found.records (g.D.Device.seen c.args.device.now) c.deref.result.now
    (g.D.Device.seen c.read.new.self) (drop c.in_ok-found.found.end c.deref.result.now) c.in_ok-found.found.end
    stands (c.deref.ensures.value ∙ c.in_ok-bytes.ensures.bytes) c.in_ok-found.ensures.store
    c.in_ok-found.ensures.end c.read.ensures.seen in
    record {
      allowed = c.in_ok-found.ensures.store.begins.allowed;
      version = c.is_old.ensures.new c.if-is_old.false;
      each = c.in_ok-found.ensures.store.reads.each;
      file = c.in_ok-shut_gate.ensures.at_rest c.in_ok-found.found.head c.in_ok-found.found.records ends;
      place = c.in_ok-found.ensures.end;
      chained = c.in_ok-found.ensures.digest;
      durable = c.in_ok-shut_gate.ensures.durable;
    }

pub returns-in_err-bytes-clause-tail : goal.returns-in_err-bytes-clause-tail
returns-in_err-bytes-clause-tail g c = λ head records tail store only.
    inr (inr (no_more g.D.Device.moment g.D.Device.left_since c.args.device.now c.read.new.self
    (λ (l : List ℕ). l ≡ g.D.Device.seen c.args.device.now) (g.D.Device.may_leave c.args.device.now)
    (g.D.Device.may_leave c.read.new.self) (g.met.D.Device.only_now c.args.device.now) only c.read.ensures.time
    c.read.ensures.crash))

pub returns-in_err-found-clause-tail : goal.returns-in_err-found-clause-tail
returns-in_err-found-clause-tail g c = λ head records tail store only.
    inr (inr (no_more g.D.Device.moment g.D.Device.left_since c.args.device.now c.read.new.self
    (λ (l : List ℕ). l ≡ g.D.Device.seen c.args.device.now) (g.D.Device.may_leave c.args.device.now)
    (g.D.Device.may_leave c.read.new.self) (g.met.D.Device.only_now c.args.device.now) only c.read.ensures.time
    c.read.ensures.crash))

pub returns-then-is_old-clause-tail : goal.returns-then-is_old-clause-tail
returns-then-is_old-clause-tail g c = λ head records tail store only.
    inr (inr (no_more g.D.Device.moment g.D.Device.left_since c.args.device.now c.read.new.self
    (λ (l : List ℕ). l ≡ g.D.Device.seen c.args.device.now) (g.D.Device.may_leave c.args.device.now)
    (g.D.Device.may_leave c.read.new.self) (g.met.D.Device.only_now c.args.device.now) only c.read.ensures.time
    c.read.ensures.crash))

pub returns-then-found-clause-tail : goal.returns-then-found-clause-tail
returns-then-found-clause-tail g c = λ head records tail store only.
    inr (inr (no_more g.D.Device.moment g.D.Device.left_since c.args.device.now c.read.new.self
    (λ (l : List ℕ). l ≡ g.D.Device.seen c.args.device.now) (g.D.Device.may_leave c.args.device.now)
    (g.D.Device.may_leave c.read.new.self) (g.met.D.Device.only_now c.args.device.now) only c.read.ensures.time
    c.read.ensures.crash))

pub returns-in-Err-clause-tail : goal.returns-in-Err-clause-tail
returns-in-Err-clause-tail g c = λ head records tail store only.
    inr (inr (no_more g.D.Device.moment g.D.Device.left_since c.args.device.now c.read.new.self
    (λ (l : List ℕ). l ≡ g.D.Device.seen c.args.device.now) (g.D.Device.may_leave c.args.device.now)
    (g.D.Device.may_leave c.read.new.self) (g.met.D.Device.only_now c.args.device.now) only c.read.ensures.time
    c.read.ensures.crash))

pub returns-in-Err-clause-any_moment : goal.returns-in-Err-clause-any_moment
returns-in-Err-clause-any_moment g c = λ head records stands only.
    no_more g.D.Device.moment g.D.Device.left_since c.args.device.now c.read.new.self
    (StandsFor head records) (g.D.Device.may_leave c.args.device.now) (g.D.Device.may_leave c.read.new.self)
    (g.met.D.Device.only_now c.args.device.now) (here_stands head records (g.D.Device.seen c.args.device.now)
    (g.D.Device.may_leave c.args.device.now) stands only) c.read.ensures.time c.read.ensures.crash

pub returns-in_err-shut_gate-clause-tail : goal.returns-in_err-shut_gate-clause-tail
returns-in_err-shut_gate-clause-tail g c = λ head records tail store only.
    tail_safe (g.D.Device.seen c.args.device.now) c.deref.result.now c.split_at.result.1.now head
    c.in_ok-found.found.head records c.in_ok-found.found.records tail c.in_ok-found.found.end c.len-2.result
    (g.K.TailKeeper.done c.args.keeper.now) (g.K.TailKeeper.done c.keep_tail.new.keeper)
    (LeavesOnly g.D.Device.moment g.D.Device.left_since c.args.device.now c.shut_gate.new.device
    (λ (l : List ℕ). l ≡ g.D.Device.seen c.args.device.now)) (c.deref.ensures.value ∙ c.in_ok-bytes.ensures.bytes)
    c.in_ok-found.ensures.store (c.split_at.ensures.back ∙ ap (drop c.in_ok-found.found.end)
    (c.deref-2.ensures.value ∙ sym c.deref.ensures.value)) c.len-2.ensures c.in_default.ensures.kept store

pub returns-in_err-shut_gate-clause-done : goal.returns-in_err-shut_gate-clause-done
returns-in_err-shut_gate-clause-done g c =
    at_most c.split_at.result.1.now c.len-2.result (g.K.TailKeeper.done c.args.keeper.now)
    (g.K.TailKeeper.done c.keep_tail.new.keeper) c.in_default.ensures.kept

pub returns-clause-tail : goal.returns-clause-tail
returns-clause-tail g c = λ head records tail store only.
    tail_safe (g.D.Device.seen c.args.device.now) c.deref.result.now c.split_at.result.1.now head
    c.in_ok-found.found.head records c.in_ok-found.found.records tail c.in_ok-found.found.end c.len-2.result
    (g.K.TailKeeper.done c.args.keeper.now) (g.K.TailKeeper.done c.keep_tail.new.keeper)
    (LeavesOnly g.D.Device.moment g.D.Device.left_since c.args.device.now c.shut_gate.new.device
    (λ (l : List ℕ). l ≡ g.D.Device.seen c.args.device.now)) (c.deref.ensures.value ∙ c.in_ok-bytes.ensures.bytes)
    c.in_ok-found.ensures.store (c.split_at.ensures.back ∙ ap (drop c.in_ok-found.found.end)
    (c.deref-2.ensures.value ∙ sym c.deref.ensures.value)) c.len-2.ensures c.in_default.ensures.kept store

pub returns-clause-done : goal.returns-clause-done
returns-clause-done g c =
    at_most c.split_at.result.1.now c.len-2.result (g.K.TailKeeper.done c.args.keeper.now)
    (g.K.TailKeeper.done c.keep_tail.new.keeper) c.in_default.ensures.kept

pub returns-clause-shown : goal.returns-clause-shown
returns-clause-shown g c =
    shown_is (g.D.Device.seen c.args.device.now) c.deref.result.now c.split_at.result.1.now
    c.in_ok-found.found.digest c.in_ok-found.found.head c.in_ok-found.found.records c.version.result
    c.in_ok-found.found.end (c.deref.ensures.value ∙ c.in_ok-bytes.ensures.bytes)
    (c.split_at.ensures.back ∙ ap (drop c.in_ok-found.found.end)
    (c.deref-2.ensures.value ∙ sym c.deref.ensures.value))
    c.version.ensures c.in_ok-found.ensures.digest c.in_default.ensures.shown

pub returns-in-Err-clause-tail_refused : goal.returns-in-Err-clause-tail_refused
returns-in-Err-clause-tail_refused g c = λ fault is.
    let same : fault ≡ c.in-Err.fault = cc in (
      subst (λ (f : TailFault). IsTailRefused f (g.D.Device.seen c.args.device.now)) (sym same)
          (refused_as c.in-Err.fault (g.D.Device.seen c.args.device.now) (λ whole told.
          let why = c.in-Err.ensures.hidden whole (ap Err told) in
          hiding_is c.in_ok-found.found.head c.in_ok-found.found.records c.version.result
          (g.D.Device.seen c.args.device.now) c.deref.result.now c.split_at.result.1.now c.in_ok-found.found.digest
          c.in_ok-found.found.end whole c.len-2.result (c.deref.ensures.value ∙ c.in_ok-bytes.ensures.bytes)
          c.in_ok-found.ensures.store (c.split_at.ensures.back ∙ ap (drop c.in_ok-found.found.end)
          (c.deref-2.ensures.value ∙ sym c.deref.ensures.value)) c.version.ensures c.in_ok-found.ensures.digest
          c.len-2.ensures why.0 why.1)),
      record { same = c.read.ensures.seen; outcomes = c.read.ensures.crash },
    )

pub returns-in_err-shut_gate-clause-same_file : goal.returns-in_err-shut_gate-clause-same_file
returns-in_err-shut_gate-clause-same_file g c =
    g.met.D.Device.goes_on_more c.args.device.now c.read.new.self c.shut_gate.new.device c.read.ensures.same_file
    c.shut_gate.ensures.same_file

pub returns-clause-same_file : goal.returns-clause-same_file
returns-clause-same_file g c =
    g.met.D.Device.goes_on_more c.args.device.now c.read.new.self c.shut_gate.new.device c.read.ensures.same_file
    c.shut_gate.ensures.same_file
