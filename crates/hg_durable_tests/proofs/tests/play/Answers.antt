use denote.Param.Send.{sendable}
use Rattle.hg_help_store_tests.proofs.device.Sending.{memory_send}
use Rattle.hg_durable_tests.proofs.tests.play.Goals as goal

pub connect_all-requires-send-D : goal.connect_all-requires-send-D
connect_all-requires-send-D g c = search (memory_send, sendable)
