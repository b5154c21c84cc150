-- A device in memory may go to another thread: beside bytes and numbers it holds a history, which owns nothing.
use denote.Builtin.{u8}
use denote.Param.Send.{IsSend, owning_send, recorded_send, struct_send, sendable}
use denote.Struct.Declared.{shape}
use Rattle.std.proofs.Crossing as heap
use Rattle.std.proofs.alloc.Global.TheSendSync as handle
use Rattle.hg_store.specs.contracts.history.History as History
use Rattle.hg_help_store_tests.specs.contracts.device.Memory as Memory
use Rattle.hg_help_store_tests.specs.contracts.device.Write as Write
use Rattle.hg_help_store_tests.proofs.device.Write.TheSendSync as write

history_send : IsSend History.the_row
history_send = owning_send History.the_type tt (λ d. tt) (λ k x w. tt)

fields_send : IsSend Memory.the_field.row
fields_send =
    let bytes = heap.Vec-send u8 (search sendable) in
    let writes = heap.Vec-send Write.the_row write.the_send in
    struct_send (shape Memory.the_type)
    (handle.the_field_send, (bytes, (bytes, (writes, (search sendable, (search sendable, (search sendable, (history_send, tt))))))))

pub memory_send : IsSend Memory.the_row
memory_send = recorded_send Memory.the_field.row _ _ Memory.the_type.to_one fields_send
