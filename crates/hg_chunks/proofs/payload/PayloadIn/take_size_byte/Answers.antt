use Rattle.std.proofs.Common.{◌≡◌, refl, sym, ◌∙◌, ap, arith, rules}
use Rattle.std.specs.Prelude.{pos, false}
use Rattle.std.specs.Int.{w32, cast_unsigned, is_negative}
use mir.Val.{to_z, of_z}
use lib.IntN.{nat_abs}
use Rattle.std.specs.Int.RustNames.{FitsSigned}
use Rattle.std.proofs.lemmas.Int.{to_z-of_z}
use Rattle.hg_chunks.proofs.Steps.{size_waits, short_more, no_true, bad_size, too_large, chunk_starts}
use Rattle.hg_chunks.proofs.Steps.{abs_size, pos_size}
use Rattle.hg_chunks.proofs.payload.PayloadIn.take_size_byte.Goals as goal

pub returns-in_default-clause-ok : goal.returns-in_default-clause-ok
returns-in_default-clause-ok g c = λ whole rest h.
    let more = c.in_default.ensures.more in
    let short = short_more _ _ _ h.1 (λ e. no_true (c.in_default.ensures.full.1 e)) more in
    size_waits c.args.self.now _ c.args.byte whole rest c.requires refl refl refl more short h

pub returns-then-size-lt0-clause-err : goal.returns-then-size-lt0-clause-err
returns-then-size-lt0-clause-err g c = λ whole rest h.
    let fits : FitsSigned w32 c.in-Some.size = search rules in
    bad_size c.args.self.now _ c.args.byte c.in-Some.size whole rest c.requires refl refl
    c.in-Some.ensures.size.1 c.in-Some.ensures.size.0
    (simp to_z-of_z at c.if-size-lt0.true) (λ e. c.if-size.false (ap (cast_unsigned w32) e)) fits h

pub returns-then-bytes-saturating_sub-clause-err :
    goal.returns-then-bytes-saturating_sub-clause-err
returns-then-bytes-saturating_sub-clause-err g c = λ whole rest h.
    let fits : FitsSigned w32 c.in-Some.size = search rules in
    too_large c.args.self.now _ c.args.byte c.in-Some.size whole rest c.requires refl refl
    c.in-Some.ensures.size.1 c.in-Some.ensures.size.0
    (simp to_z-of_z at c.if-size-lt0.false) (λ e. c.if-size-eq0.false (ap (cast_unsigned w32) e)) fits
    (λ n e. let same : pos n ≡ pos (nat_abs (to_z w32 (of_z w32 c.in-Some.size))) = sym e
    ∙ abs_size c.in-Some.size fits (simp to_z-of_z at c.if-size-lt0.false) in
    let same_n : n ≡ nat_abs (to_z w32 (of_z w32 c.in-Some.size)) = cc in
    omega (arith, c.args.self.now.«data».ok)) h

pub returns-clause-ok : goal.returns-clause-ok
returns-clause-ok g c = λ whole rest h.
    let fits : FitsSigned w32 c.in-Some.size = search rules in
    let natural : is_negative c.in-Some.size ≡ false = simp to_z-of_z at c.if-size-lt0.false in
    let is = abs_size c.in-Some.size fits natural in
    let n = pos_size c.in-Some.size natural (λ e. c.if-size-eq0.false (ap (cast_unsigned w32) e)) fits in
    let same : pos n.0 ≡ pos (nat_abs (to_z w32 (of_z w32 c.in-Some.size))) = sym n.1 ∙ is in
    let same_n : n.0 ≡ nat_abs (to_z w32 (of_z w32 c.in-Some.size)) = cc in
    chunk_starts c.args.self.now _ c.args.byte c.in-Some.size whole rest _ c.requires refl refl
    c.in-Some.ensures.size.1 refl c.in-Some.ensures.size.0 is
    (omega (arith, same_n, n.3))
    (omega (
      arith,
      c.args.self.now.«data».ok,
      c.if-bytes-saturating_sub.false,
      c.saturating_sub.ensures,
      c.len.ensures,
      same_n,
      n.2,
    )) h
