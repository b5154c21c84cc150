use Rattle.std.proofs.Common.{◌≡◌, ℕ, ◌+◌, ◌<◌, List, length, take, arith, sym, ◌∙◌, subst, true≢false}
use Rattle.std.proofs.lemmas.Result.{err_from_is_err_and}
use Rattle.std.proofs.lemmas.List.{length-take, take_all}
use Rattle.hg_stream.specs.declared.state.State.TheVariants.{Ended}
use Rattle.hg_stream.specs.Unbundler.{state_of}
use Rattle.hg_stream.specs.code.Steps.{FeedsBundle, Halts, Moves}
use Rattle.hg_stream.proofs.Feeding.{front_take, front_within, past_take, halted, fed, passed}
use Rattle.hg_stream.proofs.unbundler.Unbundler.feed_on.Goals as goal

pub returns-in_err-count-clause-err : goal.returns-in_err-count-clause-err
returns-in_err-count-clause-err g c =
    let p = err_from_is_err_and c.from_residual.result c.from_residual.ensures.1 in
    let failed = c.in_err-count.ensures.err in
    let taken = take failed.0 c.args.piece.now in
    let same = front_take c.args.piece.now c.min-within.result failed.0 failed.1 in
    let halts : Halts c.in_err-count.field-0.0 c.args.self.now c.read.new.self taken = subst
    (λ t. Halts c.in_err-count.field-0.0 c.args.self.now c.read.new.self t) same failed.2 in
    rw p.1 (
      failed.0,
      front_within c.args.piece.now c.min-within.result failed.0 failed.1,
      halted c.in_err-count.field-0.0 c.args.self.now c.read.new.self taken c.in_err-count.ensures.failed
          c.read.ensures.limits halts
          (omega (
            arith,
            length-take failed.0 c.args.piece.now,
            length-take c.min-within.result c.args.piece.now,
            failed.1,
            c.min-within.ensures,
          )),
    )

pub returns-then-within-piece-clause-ok : goal.returns-then-within-piece-clause-ok
returns-then-within-piece-clause-ok g c =
    let moves : Moves c.args.self.now c.read.new.self (take c.in_ok-count.count c.args.piece.now) =
    subst (λ t. Moves c.args.self.now c.read.new.self t)
    (front_take c.args.piece.now c.min-within.result c.in_ok-count.count c.in_ok-count.ensures.count)
    c.in_ok-count.ensures.ok in
    fed c.args.self.now _ (take c.in_ok-count.count c.args.piece.now)
    (λ bytes parts at. (let m = moves bytes parts at in
    (m.0, record { ready = m.1.ready; at = record { left = m.1.at.left; place = m.1.at.place } })))
    (omega (
      arith,
      length-take c.in_ok-count.count c.args.piece.now,
      length-take c.min-within.result c.args.piece.now,
      c.in_ok-count.ensures.count,
      c.read.ensures.stream_left,
      c.min-within.ensures,
    )) c.read.ensures.limits

pub returns-then-is_ended-clause-ok : goal.returns-then-is_ended-clause-ok
returns-then-is_ended-clause-ok g c =
    let moves : Moves c.args.self.now c.read.new.self (take c.in_ok-count.count c.args.piece.now) =
    subst (λ t. Moves c.args.self.now c.read.new.self t)
    (front_take c.args.piece.now c.min-within.result c.in_ok-count.count c.in_ok-count.ensures.count)
    c.in_ok-count.ensures.ok in
    fed c.args.self.now _ (take c.in_ok-count.count c.args.piece.now)
    (λ bytes parts at. (let m = moves bytes parts at in
    (m.0, record { ready = m.1.ready; at = record { left = m.1.at.left; place = m.1.at.place } })))
    (omega (
      arith,
      length-take c.in_ok-count.count c.args.piece.now,
      length-take c.min-within.result c.args.piece.now,
      c.in_ok-count.ensures.count,
      c.read.ensures.stream_left,
      c.min-within.ensures,
    )) c.read.ensures.limits

pub returns-clause-err : goal.returns-clause-err
returns-clause-err g c =
    let past = c.read_past.ensures.past in
    let not_ended : state_of c.read.new.self ≡ Ended
    → ⊥ = λ e. true≢false (sym (c.is_ended.ensures.1 e) ∙ c.if-is_ended.false) in
    let whole = c.in_ok-count.ensures.all not_ended in
    let front : List ℕ = take c.min-within.result c.args.piece.now in
    let some : c.min-within.result < length c.args.piece.now = omega
    (arith, c.min-within.ensures, c.if-within-piece.false) in
    let full : length front ≡ c.args.self.now.stream_left = omega
    (arith, length-take c.min-within.result c.args.piece.now, c.min-within.ensures, some) in
    let moves : Moves c.args.self.now c.read.new.self front =
    subst (λ t. Moves c.args.self.now c.read.new.self t)
    (take_all c.in_ok-count.count front (omega (arith, whole))) c.in_ok-count.ensures.ok in (
      c.min-within.result + past.0,
      omega (arith, some, past.1),
      subst (λ t. FeedsBundle c.args.self.now c.read_past.new.self t)
          (past_take c.args.piece.now c.min-within.result past.0 some past.1)
          (passed c.read_past.result c.args.self.now _ c.read_past.new.self front _
          (λ bytes parts at. (let m = moves bytes parts at in (
            m.0,
            record {
              ready = m.1.ready;
              at = record { left = m.1.at.left; place = m.1.at.place };
            },
          )))
          not_ended full c.read.ensures.limits c.read_past.ensures.limits c.read_past.ensures.failed past.2),
    )
