use Rattle.std.proofs.Common.{[], arith, rules, sym, true≢false}
use Rattle.std.specs.Int.{w32}
use Rattle.std.specs.Int.RustNames.{FitsSigned}
use Rattle.std.proofs.lemmas.List.{append-nil}
use Rattle.hg_stream.proofs.Magic.{magic_whole, magic_more, bad_magic}
use Rattle.hg_stream.proofs.Moves.{took, stumbled}
use Rattle.hg_stream.proofs.unbundler.Unbundler.take_magic.Goals as goal

pub returns : goal.returns
returns g c = took _ _ _ _ (search rules) (search rules) (search rules) (search rules) (λ bytes parts h.
    let place = rw c.requires.stage at h.place in
    let whole = magic_whole bytes c.args.self.now.magic c.args.piece.now c.in-Some.magic place.taken
    c.requires.piece c.in-Some.ensures.size.0 c.if-magic-ne-MAGIC.false in (
      [],
      record {
        ready = sym (append-nil _);
        at = record {
          left = rw append-nil h.left;
          place = record { rest = []; waits = place.waits; none = rw append-nil place.none; spelled = whole };
        };
      },
    ))

pub returns-in_default : goal.returns-in_default
returns-in_default g c =
    took _ _ _ _ (search rules) (search rules) (search rules) (search rules) (λ bytes parts h.
    let place = rw c.requires.stage at h.place in
    let more = magic_more bytes c.args.self.now.magic c.push.new.self c.args.piece.now place.taken
    c.requires.piece c.in_default.ensures.more place.short
    (λ e. true≢false (sym (c.in_default.ensures.full.1 e))) in (
      [],
      record {
        ready = sym (append-nil _);
        at = record {
          left = rw append-nil h.left;
          place = rw c.requires.stage
              (record {
                taken = more.0;
                short = more.1;
                waits = place.waits;
                none = rw append-nil place.none;
              });
        };
      },
    ))

pub returns-then-magic-ne-MAGIC : goal.returns-then-magic-ne-MAGIC
returns-then-magic-ne-MAGIC g c =
    stumbled _ _ _ _ (search rules) (search rules) (search rules)
    (let fits : FitsSigned w32 c.in-Some.magic = search rules in (
      1,
      omega (arith, c.requires.piece),
      λ bytes parts h.
          let place = rw c.requires.stage at h.place in
          let bad = bad_magic bytes c.args.self.now.magic c.args.piece.now c.in-Some.magic place.taken
          c.requires.piece c.in-Some.ensures.size.0 fits c.if-magic-ne-MAGIC.true in
          (bad.0, bad.1, place.none),
    ))
