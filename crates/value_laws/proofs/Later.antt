-- Later layouts.
use Rattle.std.proofs.Common.{◌≡◌, ℕ, ◌+◌, ◌%◌, ◌^◌, ◌<◌, ◌≤◌, ap, ◌⊎◌, inl, inr, arith}
use Rattle.std.proofs.lemmas.Bool.{cases_lt}
use Rattle.infinite_heap.specs.declared.value.Cell.{Cell}
use Rattle.infinite_heap.specs.declared.value.Cell.TheVariants.{Byte, Part, Unset}
use Rattle.infinite_heap.specs.declared.value.Value.{Value}
use Rattle.infinite_heap.specs.declared.value.Value.TheVariants.{Num, Ptr, Mix, Low}
use Rattle.infinite_heap.specs.Values.{byte}
use Rattle.infinite_heap.specs.Layout.{Layout, place, CellStands, Stands, IsIn, IsPart}
use Rattle.infinite_heap.specs.Memory.{CellMap, Matches}
use Rattle.value_laws.specs.LayoutLaws.{IsLater, KeepsBytes, KeepsCells, NewCellsStand}

later_part : (l m : Layout) → IsLater l m → (o d k b : ℕ) → IsPart l o d k b → IsPart m o d k b
later_part l m e o d k b p = record { known = omega (arith, p.known, e.count); fits = p.fits; is = rw (e.at o p.known) p.is }

pub later_cell : (l m : Layout) → IsLater l m → (c : Cell) (b : ℕ) → CellStands l c b → CellStands m c b
later_cell l m e (Byte n) b p = p
later_cell l m e (Part o d k) b p = later_part l m e o d k b p
later_cell l m e Unset b p = p

pub later_value : (l m : Layout) → IsLater l m → (v : Value) (x : ℕ) → Stands l v x → Stands m v x
later_value l m e (Num n) x p = p
later_value l m e (Ptr o d) x p = record { known = omega (arith, p.known, e.count); fits = p.fits; is = rw (e.at o p.known) p.is }
later_value l m e (Mix a b c d) x p = (later_cell l m e a (byte 0 x) p.0, later_cell l m e b (byte 1 x) p.1, later_cell l m e c (byte 2 x) p.2, later_cell l m e d (byte 3 x) p.3)
later_value l m e (Low b) x p = p

pub later_memory : (l m : Layout) → IsLater l m → (c k : CellMap) (old new : ℕ → ℕ) → Matches l c old → KeepsBytes l m old new → KeepsCells l c k → NewCellsStand l m k new
    → Matches m k new
later_memory l m e c k old new mm b s fresh = record {
  fits = b.fits;
  flat = λ x r. rw (s.flat x, b.flat x r) (later_cell l m e (c.flat x) (old x) (mm.flat x r));
  heap = λ o d hd i. by_age o d hd i (cases_lt o l.count);
}
  where
    by_age : (o d : ℕ) → d < 2 ^ 32 → IsIn m o (place m o d) → (o < l.count) ⊎ (l.count ≤ o) → CellStands m (k.heap o d) (new (place m o d))
    by_age o d hd i (inr h) = fresh o d h hd i
    by_age o d hd i (inl h) =
        let q = b.held o (place m o d) h i in
        let t : place m o d ≡ place l o d = ap (λ (x : ℕ). (x + d) % 2 ^ 32) (e.at o h) in
        rw (q.1, s.heap o d h hd, t) (later_cell l m e (c.heap o d) (old (place l o d)) (mm.heap o d hd (rw t at q.0)))
