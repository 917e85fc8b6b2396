use Rattle.std.proofs.Common.{◌≤◌, ◌+◌, ◌-◌, ◌++◌, ◌≡◌, ℕ, List, length, map, replicate, string_bytes, ap, arith}
use Rattle.std.proofs.lemmas.List.{length-append, length-replicate}
use Rattle.infinite_heap.specs.Start.{stack_from, stack_end, stack_of, IsWithin}
use Rattle.rv_machine.proofs.Stacked.{stack-room}
use Rattle.rv_machine.proofs.hart.Hart.start.Goals as goal

pub lay_out-requires-clause-low : goal.lay_out-requires-clause-low
lay_out-requires-clause-low c = (c.in_ok-pointer.ensures {u = tt}).low

-- the bytes from the pointer on end by the stack's end
ends : (pointer : ℕ) (top : List ℕ) (args : List (List ℕ)) → IsWithin args → stack_from ≤ pointer → replicate (pointer - stack_from) 0 ++ top ≡ stack_of args → pointer + length top ≤ stack_end
ends pointer top args within low bytes =
    let room : length (stack_of args) ≤ 0x800000 = stack-room args within in
    omega (arith, room, low, ap length bytes, length-append (replicate (pointer - stack_from) 0) top, length-replicate {A = ℕ} (pointer - stack_from) 0)

pub lay_out-requires-clause-high : goal.lay_out-requires-clause-high
lay_out-requires-clause-high c =
    let e = c.in_ok-pointer.ensures {u = tt} in
    omega (arith, ends c.in_ok-pointer.pointer c.in_ok-pointer.top.items (map string_bytes c.args.args.now) c.requires e.low e.bytes, ap length c.deref.ensures.value)
