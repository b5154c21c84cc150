use denote.Param.Send.{sendable}
use Rattle.hg_help_store_tests.proofs.device.Sending.{memory_send}
use Rattle.hg_commit_tests.proofs.tests.play.Goals as goal

pub push_from_threads-requires-send-D : goal.push_from_threads-requires-send-D
push_from_threads-requires-send-D g c = search (memory_send, sendable)
