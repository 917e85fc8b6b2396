-- Nothing of the heap region is mapped before the first step.
use Rattle.std.proofs.Common.{◌≡◌, ℕ, ◌+◌, ◌^◌, ◌<◌, ◌≤◌, true, false, Option, None, Some, is_some, refl, ap, ◌∙◌, arith, List, Result, Ok, Err}
use Rattle.std.specs.Prelude.{is_none, IfOk}
use Rattle.std.specs.declared.alloc.AllocError.{AllocError}
use Rattle.std.proofs.lemmas.Bool.Decides.{nat_tests}
use Rattle.infinite_heap.specs.Lawful.{IsLawful}
use Rattle.infinite_heap.specs.Loaded.{Loaded}
use Rattle.infinite_heap.specs.Region.{in_region}
use Rattle.rv_memory.specs.Memory.{Memory, is_unmapped}
use Rattle.rv_memory.specs.Spaces.{memory_of}
use Rattle.rv_memory.specs.declared.space.Space.{Space}
use Rattle.rv_memory.specs.Laws.{from_each}
use Rattle.exact_heap.specs.declared.heap.Heap.{Heap}
use Rattle.exact_heap.specs.Heaps.{HasHome}
use Rattle.rv_machine.specs.Core.{start}
use Rattle.rv_machine.specs.Harts.{core_of}
use Rattle.rv_machine.specs.declared.hart.Hart.{Hart}
use Rattle.rv_machine.proofs.Begun.{programs_stay_outside}

missing : (byte : Option ℕ) → is_some byte ≡ false → is_none byte ≡ true
missing None e = refl
missing (Some b) e = absurd (cc)

in-region : (a : ℕ) → 2 ^ 30 ≤ a → a < 2 ^ 30 + 2 ^ 30 → in_region a ≡ true
in-region a lo hi = grind (arith, nat_tests)

pub unmapped : (m : Memory) → ((a : ℕ) → in_region a ≡ true → is_some (m.bytes a) ≡ false) → is_unmapped m 0x40000000 (2 ^ 30) ≡ true
unmapped m none = from_each (λ address. is_none (m.bytes address)) 0x40000000 (2 ^ 30) (λ a lo hi. missing (m.bytes a) (none a (in-region a lo hi)))

pub home-there : (space : Space) → ((a : ℕ) → in_region a ≡ true → is_some ((memory_of space).bytes a) ≡ false) → (result : Result Heap AllocError) → IfOk result (λ heap. (space : Space) → is_unmapped (memory_of space) 0x40000000 (2 ^ 30) ≡ true → HasHome heap space) → IfOk result (λ heap. HasHome heap space)
home-there space none (Ok heap) home = home space (unmapped (memory_of space) none)
home-there space none (Err refused) home = tt

pub start-outside : (program : Loaded) (args : List (List ℕ)) (hart : Hart) → IsLawful program → core_of hart ≡ start program args → (a : ℕ) → in_region a ≡ true → is_some ((memory_of hart.space).bytes a) ≡ false
start-outside program args hart lawful same a r = ap (λ core. is_some (core.memory.bytes a)) same ∙ (programs_stay_outside program lawful args a r).0
