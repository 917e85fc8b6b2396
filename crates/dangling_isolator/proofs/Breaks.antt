-- Only broken bytes within a slot mark it.
use Rattle.std.proofs.Common.{◌≡◌, ℕ, ◌+◌, ◌-◌, ◌&&◌, nat_le, nat_lt, Bool, true, false, cond, List, [], ◌∷◌, ◌++◌, filter, refl, sym, ap, ◌∙◌, arith}
use Rattle.std.specs.List.{flat_map}
use Rattle.std.proofs.lemmas.Bool.Decides.{nat_tests}
use Rattle.exact_heap.specs.declared.row.SlotRow.{SlotRow}
use Rattle.heap_image.specs.declared.image.Broken.{Broken}
use Rattle.heap_image.specs.Lookup.{is_within}
use Rattle.dangling_isolator.specs.Danglings.{mark_of}
use Rattle.dangling_isolator.specs.Marks.{break_marks}

not_inside : (from slot at : ℕ) → (nat_le from at && nat_lt at (from + slot)) ≡ false → (nat_le from at && nat_lt (at - from) slot) ≡ false
not_inside from slot at h = grind (arith, nat_tests)

silent : (slot : ℕ) (r : SlotRow) (b : Broken) → is_within r.addr (r.addr + slot) b ≡ false → break_marks slot r b ≡ []
silent slot r b h = ap (λ t. cond t (mark_of r (b.addr - r.addr) b.byte ∷ []) []) (not_inside r.addr slot b.addr h)

pub within_marks : (slot : ℕ) (r : SlotRow) (bs : List Broken) → flat_map (break_marks slot r) (filter (is_within r.addr (r.addr + slot)) bs) ≡ flat_map (break_marks slot r) bs
within_marks slot r [] = refl
within_marks slot r (b ∷ bs) = split (within_marks slot r bs) (is_within r.addr (r.addr + slot) b) refl
  where
    split : flat_map (break_marks slot r) (filter (is_within r.addr (r.addr + slot)) bs) ≡ flat_map (break_marks slot r) bs → (t : Bool) → is_within r.addr (r.addr + slot) b ≡ t → flat_map (break_marks slot r) (cond t (b ∷ filter (is_within r.addr (r.addr + slot)) bs) (filter (is_within r.addr (r.addr + slot)) bs)) ≡ break_marks slot r b ++ flat_map (break_marks slot r) bs
    split more true e = ap (λ ms. break_marks slot r b ++ ms) more
    split more false e = more ∙ ap (λ ms. ms ++ flat_map (break_marks slot r) bs) (sym (silent slot r b e))
