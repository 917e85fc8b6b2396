-- How long the stack is.
use Rattle.std.proofs.Common.{◌≡◌, ◌≤◌, ℕ, ◌+◌, ◌-◌, ◌*◌, List, [], ◌∷◌, ◌++◌, length, replicate, refl, arith}
use Rattle.std.proofs.lemmas.List.{length-append, length-replicate}
use Rattle.std.specs.Int.{w32, to_le_bytes}
use Rattle.infinite_heap.specs.Start.{stack_from, string_block, addresses_from, strings_at, stack_pointer, gap, stack_of, IsWithin}

addresses-length : (at : ℕ) (args : List (List ℕ)) → length (addresses_from at args) ≡ 4 * length args
addresses-length at [] = refl
addresses-length at (arg ∷ args) = rw (length-append (to_le_bytes w32 at) (addresses_from (at + length arg + 1) args), addresses-length (at + length arg + 1) args) (omega arith)

pub stack-room : (args : List (List ℕ)) → IsWithin args → length (stack_of args) ≤ 0x800000
unfolding stack_of
stack-room args within =
    rw (
      length-append (replicate (stack_pointer args - stack_from) 0 ++ to_le_bytes w32 (length args) ++ addresses_from (strings_at args) args ++ replicate (gap args) 0) (string_block args),
      length-append (replicate (stack_pointer args - stack_from) 0 ++ to_le_bytes w32 (length args) ++ addresses_from (strings_at args) args) (replicate (gap args) 0),
      length-append (replicate (stack_pointer args - stack_from) 0 ++ to_le_bytes w32 (length args)) (addresses_from (strings_at args) args),
      length-append (replicate (stack_pointer args - stack_from) 0) (to_le_bytes w32 (length args)),
      length-replicate {A = ℕ} (stack_pointer args - stack_from) 0,
      length-replicate {A = ℕ} (gap args) 0,
      addresses-length (strings_at args) args,
    )
    (omega (arith, within.few, within.short))
