use Rattle.hg_http.proofs.HookHeads.{reads_more, receives}
use Rattle.hg_http.proofs.hook.asking.receive.Goals as goal

pub returns-in-Some : goal.returns-in-Some
returns-in-Some g c =
    receives _ _ c.read_once.new.answer c.in-Some.answer.status
    (reads_more _ _ _ _ _ c.reads.invariant c.in_ok-read_once.ensures) c.in-Some.ensures
