-- Where a reader of bundles is after a step.
use Rattle.hg_stream.specs.declared.payloads.Level.{Level}
use Rattle.hg_stream.specs.declared.payloads.Level.TheVariants as level
use Rattle.hg_stream.specs.declared.unbundler.Stage.{Stage}
use Rattle.hg_stream.specs.declared.unbundler.Stage.TheVariants as stage

-- after a size of 0 in the place of a header
abbrev pub stage_after : Level → Stage
stage_after level.Part = stage.Ended
stage_after level.Interrupting = stage.Payload level.Part
