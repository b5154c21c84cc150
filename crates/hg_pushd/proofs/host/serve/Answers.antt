use denote.Param.Send.{sendable}
use Rattle.std.proofs.Crossing.{crosses}
use Rattle.hg_store.proofs.file.StoreFile.TheSendSync.{the_send as store_send}
use Rattle.hg_pushd.proofs.Sending.{host_send}
use Rattle.hg_pushd.proofs.host.serve.Goals as goal

pub serve_store-over-requires-send-D : goal.serve_store-over-requires-send-D
serve_store-over-requires-send-D g c κs within = search (host_send, store_send, crosses, sendable) depth 10
