use Rattle.std.proofs.Common.{◌≡◌, false}
use Rattle.std.proofs.Math.Logic.{∥∥₁_map}
use Rattle.exact_heap.specs.Heaps.{HasHome}
use Rattle.rv_machine.proofs.machine.Machine.set_patches.Goals as goal

pub invariant_of-self-clause-homely : goal.invariant_of-self-clause-homely
invariant_of-self-clause-homely c =
    let old = c.args.self.now in
    ∥∥₁_map old.homely (λ (k : old.hart.spent ≡ false → HasHome old.heap old.hart.space) (e : old.hart.spent ≡ false). c.set_patches.ensures.home old.hart.space (k e))
