use Rattle.std.proofs.Common.{◌++◌, refl, subst}
use Rattle.hg_stream.specs.declared.state.State.TheVariants.{Reading}
use Rattle.hg_stream.specs.Faults.{StateTells}
use Rattle.hg_stream.specs.Unbundler.{KeepsFinished, ready_of, limits_of}
use Rattle.hg_stream.proofs.Telling.{goes_on, stage_ended, stage_failed}
use Rattle.hg_stream.proofs.unbundler.Unbundler.end_input.Goals as goal

pub returns-in_default : goal.returns-in_default
returns-in_default g c = record {
  ended = λ e. absurd (c.in_default.not-Ended (stage_ended c.args.self.now.stage e));
  reading = λ e. (refl, refl);
  failed = λ fault e. absurd (c.in_default.not-Failed fault (stage_failed c.args.self.now.stage fault e));
  holds = λ given bytes h.
      let going = goes_on c.args.self.now.stage c.in_default.not-Ended c.in_default.not-Failed in
      let told : StateTells Reading (limits_of c.args.self.now) bytes (given ++ ready_of c.args.self.now) = subst
      (λ s. StateTells s (limits_of c.args.self.now) bytes (given ++ ready_of c.args.self.now)) going
      h.tells in
      let kept : KeepsFinished Reading c.args.self.now bytes (given ++ ready_of c.args.self.now) = subst
      (λ s. KeepsFinished s c.args.self.now bytes (given ++ ready_of c.args.self.now)) going h.keeps in
      record { keeps = kept.0.left; tells = told };
  ready = refl;
  limits = refl;
}
