-- A file of the system may go to another thread: beside the file and numbers it holds a history, which owns nothing.
use denote.Param.Send.{IsSend, sendable}
use Rattle.hg_store.specs.contracts.host.HostFile as HostFile
use Rattle.hg_store.proofs.host.Signs.TheSendSync.{the_send as signs_send}

pub host_send : IsSend HostFile.the_row
host_send = search (signs_send, sendable) depth 16
