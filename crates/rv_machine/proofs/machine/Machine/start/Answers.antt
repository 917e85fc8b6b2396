use Rattle.std.proofs.Common.{◌≡◌, false, map, string_bytes, arith, None, subst}
use Rattle.infinite_heap.specs.InfiniteHeap.{call_at}
use Rattle.rv_machine.proofs.Outside.{start-outside}
use Rattle.rv_machine.proofs.machine.Machine.start.Goals as goal

pub new_heap-requires : goal.new_heap-requires
new_heap-requires c = start-outside c.args.program (map string_bytes c.args.args.now) c.in_ok-hart.hart c.rules.ensures (c.in_ok-hart.ensures {u = tt}).stands

pub invariant_of-result-clause-homely : goal.invariant_of-result-clause-homely
invariant_of-result-clause-homely c = ∣ (λ (e : c.in_ok-hart.hart.spent ≡ false). (c.in_ok-heap.ensures {u = tt}).home) ∣₁

pub invariant_of-result-clause-counted : goal.invariant_of-result-clause-counted
invariant_of-result-clause-counted c e n = (omega (arith, (c.in_ok-heap.ensures {u = tt}).calls), omega (arith, (c.in_ok-heap.ensures {u = tt}).clock))

pub invariant_of-result-clause-nameless : goal.invariant_of-result-clause-nameless
invariant_of-result-clause-nameless c a low high = subst (λ names. call_at names a ≡ None) c.as_slice.ensures.value (c.quiet_around-quiet.ensures.nameless a low high)

pub invariant_of-result-clause-kept : goal.invariant_of-result-clause-kept
invariant_of-result-clause-kept c = c.in_ok-new.ensures c.extend_from_slice.new.self.items
