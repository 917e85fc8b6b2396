use Rattle.std.proofs.Common.{◌<◌, true, false, Bool, List, ℕ, length, subst}
use Rattle.std.specs.Bool.{MatchBool}
use Rattle.elf_load.specs.declared.header.ProgramHeader.{ProgramHeader}
use Rattle.elf_load.specs.Order.{Chained, Meets, InOrder}
use Rattle.elf_load.proofs.Mapped.{segs, in_order, out_of_order}
use Rattle.std.specs.List.{All}
use Rattle.std.specs.List.Sorted.{IsPermutation, IsNonDecreasingBy}
use Rattle.elf_load.proofs.order.put_in_order.Goals as goal

by_test : (file : List ℕ) (xs ys : List ProgramHeader) (b : Bool) → IsPermutation xs ys → IsNonDecreasingBy (λ h. h.from) ys → All (λ h. 0 < h.len) xs → MatchBool b (Chained ys (length ys)) (Meets ys) → InOrder (segs file xs) (segs file ys) b
by_test file xs ys true perm up pos h = in_order file xs ys perm up pos h
by_test file xs ys false perm up pos h = out_of_order file xs ys perm up pos h

pub returns-clause-order : goal.returns-clause-order
returns-clause-order c = λ file. by_test file _ _ _ c.in_ok-sort.ensures.permutation c.in_ok-sort.ensures.sorted c.requires (subst (λ (zs : List ProgramHeader). MatchBool c.is_chained.result (Chained zs (length zs)) (Meets zs)) c.deref.ensures.value c.is_chained.ensures)
