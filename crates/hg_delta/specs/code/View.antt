-- A hunk that was read, as a value apart from where its content lies.
use Rattle.hg_delta.specs.declared.hunk.Hunk as code
use Rattle.hg_delta.specs.Delta.{Hunk}

abbrev pub view : code.Hunk → Hunk
view hunk = record { start = hunk.start; end = hunk.end; content = hunk.content.now }
