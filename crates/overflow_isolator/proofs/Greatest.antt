-- What windows show of an object is what the images show of it.
use Rattle.std.proofs.Common.{◌≡◌, ℕ, ◌+◌, ◌-◌, ◌<◌, ◌≤◌, List, Some, None, get_or, refl, sym, ap, subst, arith}
use Rattle.std.specs.List.{AllZip}
use Rattle.exact_heap.specs.declared.row.SlotRow.{SlotRow}
use Rattle.heap_image.specs.Agreement.{Allocation, AgreeOn, allocation_of, row_of}
use Rattle.heap_image.specs.Snapshot.{Snapshot}
use Rattle.overflow_isolator.specs.Overflows.{AreBrokenBefore, IsGreatestBelow, IsGreatestOverflow, IsGreatestUnderflow, IsOverflow, IsUnderflow}
use Rattle.overflow_isolator.specs.Windows.{AreBrokenBack, IsLeastBelow, IsWindowOf, ShareNothing}
use Rattle.culprits.specs.declared.found.Overflow.{Overflow}
use Rattle.culprits.specs.declared.found.Underflow.{Underflow}
use Rattle.overflow_isolator.specs.declared.window.Window.{Window}
use Rattle.overflow_isolator.proofs.Windows.{past_back, back_past, before_back, back_before, before_end, past_end}

module _ (images : List Snapshot) (object : ℕ) (row : SlotRow) (told : (a : Allocation) → AgreeOn images object a → allocation_of row ≡ a) where
  agreed_row : (a : Allocation) (o : ℕ) → o ≡ object → AgreeOn images o a → AgreeOn images object (allocation_of row)
  agreed_row a o e h = let k = subst (λ n. AgreeOn images n a) e h in subst (AgreeOn images object) (sym (told a k)) k

  size_of : (a : Allocation) → AgreeOn images object a → row.size ≡ a.size
  size_of a h = ap (λ (x : Allocation). x.size) (told a h)

  pub no_overflow_shared : ShareNothing images object (row.size + 65536) (allocation_of row) → (f : Overflow) → IsGreatestOverflow images f → f.object ≡ object → ⊥
  no_overflow_shared none f g e =
      let o = subst (λ n. IsOverflow images n g.distance) e g.holds in
      let size = size_of o.allocation o.agreed in
      let past : o.allocation.size ≤ g.distance = o.past in
      let near : g.distance < o.allocation.size + 65536 = o.near in
      let low : row.size ≤ g.distance = omega (arith, size, past) in
      let close : g.distance < row.size + 65536 = omega (arith, size, near) in
      none (agreed_row g.allocation f.object e g.agreed) (row.size + 65536 - g.distance) (omega (arith, close)) (omega (arith, low))
      (λ k d lt. past_end (row_of object (get_or images k d)) (get_or images k d) row.size g.distance close (o.broken k d lt))

  pub no_underflow_shared : ShareNothing images object 0 (allocation_of row) → (f : Underflow) → IsGreatestUnderflow images f → f.object ≡ object → ⊥
  no_underflow_shared none f g e =
      let o = subst (λ n. IsUnderflow images n f.extent) e g.holds in
      none (agreed_row g.allocation f.object e g.agreed) f.extent o.before o.near
      (λ k d lt. before_end (row_of object (get_or images k d)) (get_or images k d) f.extent (o.broken k d lt))

  -- an overflow's distance, counted back from the end of the object's windows
  back_of : (windows : List Window) → AllZip (IsWindowOf object (row.size + 65536)) images windows → (other : ℕ) → IsOverflow images object other → (row.size ≤ other) × (other < row.size + 65536) × AreBrokenBack windows (row.size + 65536 - other)
  back_of windows zip other o =
      let size = size_of o.allocation o.agreed in
      let past : o.allocation.size ≤ other = o.past in
      let near : other < o.allocation.size + 65536 = o.near in
      let close : other < row.size + 65536 = omega (arith, size, near) in
      (omega (arith, size, past), close, past_back images windows object row.size other close zip o.broken)

  pub no_overflow : (windows : List Window) → AllZip (IsWindowOf object (row.size + 65536)) images windows → IsLeastBelow (AreBrokenBack windows) 1 65537 None → (f : Overflow) → IsGreatestOverflow images f → f.object ≡ object → ⊥
  no_overflow windows zip none f g e =
      let b = back_of windows zip g.distance (subst (λ n. IsOverflow images n g.distance) e g.holds) in
      let low : row.size ≤ g.distance = b.0 in
      let high : g.distance < row.size + 65536 = b.1 in
      none (row.size + 65536 - g.distance) (omega arith) (omega arith) b.2

  pub an_overflow : (windows : List Window) (distance : ℕ) → AgreeOn images object (allocation_of row) → AllZip (IsWindowOf object (row.size + 65536)) images windows → IsLeastBelow (AreBrokenBack windows) 1 65537 (Some distance) → IsGreatestOverflow images (record { object = object; site = row.site; size = row.size; extent = row.size + 65536 - distance + 1 })
  an_overflow windows distance agreed zip h =
      let one : 1 ≤ distance = h.0 in
      let most : distance < 65537 = h.1 in
      record {
        allocation = allocation_of row;
        agreed = agreed;
        site = refl;
        size = refl;
        distance = row.size + 65536 - distance;
        extent = refl;
        holds = record {
          allocation = allocation_of row;
          agreed = agreed;
          past = omega arith;
          near = omega arith;
          broken = back_past images windows object row.size (row.size + 65536 - distance) (omega arith) zip (subst (AreBrokenBack windows) (twice row.size distance most) h.2);
        };
        greatest = λ other o.
            let b = back_of windows zip other o in
            let low : row.size ≤ other = b.0 in
            let high : other < row.size + 65536 = b.1 in
            let least : distance ≤ row.size + 65536 - other = h.3 (row.size + 65536 - other) (omega arith) (omega arith) b.2 in
            omega arith;
      }
    where
      twice : (size distance : ℕ) → distance < 65537 → distance ≡ size + 65536 - (size + 65536 - distance)
      twice size distance most = omega arith

  pub no_underflow : (windows : List Window) → AllZip (IsWindowOf object 0) images windows → IsGreatestBelow (AreBrokenBack windows) 1 65537 None → (f : Underflow) → IsGreatestUnderflow images f → f.object ≡ object → ⊥
  no_underflow windows zip none f g e =
      let o = g.holds in
      let one : 1 ≤ f.extent = o.before in
      let near : f.extent ≤ 65536 = o.near in
      none f.extent one (omega arith) (before_back images windows object f.extent zip (subst (λ n. AreBrokenBefore images n f.extent) e o.broken))

  pub an_underflow : (windows : List Window) (distance : ℕ) → AgreeOn images object (allocation_of row) → AllZip (IsWindowOf object 0) images windows → IsGreatestBelow (AreBrokenBack windows) 1 65537 (Some distance) → IsGreatestUnderflow images (record { object = object; site = row.site; extent = distance })
  an_underflow windows distance agreed zip h =
      let one : 1 ≤ distance = h.0 in
      let most : distance < 65537 = h.1 in
      record {
        allocation = allocation_of row;
        agreed = agreed;
        site = refl;
        holds = record {
          allocation = allocation_of row;
          agreed = agreed;
          before = one;
          near = omega arith;
          broken = back_before images windows object distance one zip h.2;
        };
        greatest = λ other o.
            let low : 1 ≤ other = o.before in
            let high : other ≤ 65536 = o.near in
            h.3 other low (omega arith) (before_back images windows object other zip o.broken);
      }
