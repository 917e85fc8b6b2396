use Rattle.std.proofs.Common.{ap, is_some}
use Rattle.rv_memory.specs.Access.{bytes_of}
use Rattle.rv_memory.specs.Memory.{Memory}
use Rattle.heap_trials.proofs.tests.guest.store.Goals as goal

pub returns-in-Ok : goal.returns-in-Ok
returns-in-Ok c =
    c.stores_keep_home.ensures.stores c.args.heap.now c.args.space.now c.store.new.self c.args.addr (bytes_of 1 c.from.result) c.bounds.ensures c.in-Ok.ensures.answer c.in-Ok.ensures.stored c.in-Ok.ensures.taken c.requires

pub returns-in-Err : goal.returns-in-Err
returns-in-Err c =
    c.stores_keep_home.ensures.mapping c.args.heap.now c.args.space.now c.store.new.self (λ a low high. ap (λ (m : Memory). is_some (m.bytes a)) c.in-Err.ensures.refused) (λ a low high. ap (λ (m : Memory). m.writable a) c.in-Err.ensures.refused) c.in-Err.ensures.taken c.requires
