-- Raised patches.
use Rattle.std.proofs.Common.{ℕ, zero, suc, ◌+◌, ◌*◌, ◌^◌, ◌≤◌, ◌≡◌, max, Bool, true, false, cond, nat_le, List, [], ◌∷◌, Option, None, Some, refl, arith}
use Rattle.std.proofs.lemmas.Bool.Decides.{nat_tests}
use Rattle.infinite_heap.specs.declared.access.AccessKind.{AccessKind}
use Rattle.infinite_heap.specs.declared.access.AccessKind.TheVariants.{Load, Store, Touch, Again}
use Rattle.infinite_heap.specs.declared.access.Record.{Record}
use Rattle.infinite_heap.specs.Covered.{Cures, IsBelow, power_from, reach, IsWithin, InTime, AllCovered, IsCoveredRun, records_after}
use Rattle.infinite_heap.specs.InfiniteRun.{inf_run}
use Rattle.infinite_heap.specs.Objects.{Object, Freed, object_at}
use Rattle.value_laws.specs.PatchLaws.{RecordsStay, RunsStay}

-- doubling only raises
power-least : (power need n : ℕ) → power ≤ power_from power need n
unfolding power_from
power-least power need zero = omega arith
power-least power need (suc n) = go (nat_le need power) (power-least (2 * power) need n)
  where
    go : (b : Bool) → 2 * power ≤ power_from (2 * power) need n → power ≤ cond b power (power_from (2 * power) need n)
    go true h = omega arith
    go false h = omega arith

-- a greater need is met by no lesser power
power-rises : (power low high m n : ℕ) → low ≤ high → m ≤ n → power_from power low m ≤ power_from power high n
unfolding power_from
power-rises power low high zero n h k = power-least power high n
power-rises power low high (suc m) zero h k = absurd (omega arith)
power-rises power low high (suc m) (suc n) h k = go (nat_le low power) (nat_le high power) (λ e. grind (arith, nat_tests)) (power-rises (2 * power) low high m n h (omega arith)) (power-least (2 * power) high n)
  where
    go : (b c : Bool) → (c ≡ true → b ≡ true) → power_from (2 * power) low m ≤ power_from (2 * power) high n → 2 * power ≤ power_from (2 * power) high n
        → cond b power (power_from (2 * power) low m) ≤ cond c power (power_from (2 * power) high n)
    go true true f r s = omega arith
    go true false f r s = omega arith
    go false true f r s = let e : false ≡ true = f refl in absurd (cc)
    go false false f r s = r

reach-rises : (low high : Cures) → IsBelow low high → (object : Object) → reach low object ≤ reach high object
reach-rises low high h object =
    let k : low.pad object.site ≤ high.pad object.site = h.pads object.site in
    power-rises 16 (max 1 (object.size + low.pad object.site)) (max 1 (object.size + high.pad object.site)) (object.size + low.pad object.site) (object.size + high.pad object.site) (omega arith) (omega arith)

within-stays : (low high : Cures) → IsBelow low high → (object : Object) (is_before : Bool) (offset width : ℕ) → IsWithin low object is_before offset width → IsWithin high object is_before offset width
within-stays low high h object false offset width w = omega (arith, w, reach-rises low high h object)
within-stays low high h object true offset width w = (omega (arith, w.0, h.fronts object.site), omega (arith, w.1, reach-rises low high h object))

in_time-stays : (low high : Cures) → IsBelow low high → (object : Object) (f : Option Freed) (k : AccessKind) (clock : ℕ) → InTime low object f k clock → InTime high object f k clock
in_time-stays low high h object None Again clock t = t
in_time-stays low high h object None Load clock t = t
in_time-stays low high h object None Store clock t = t
in_time-stays low high h object None Touch clock t = t
in_time-stays low high h object (Some f) Again clock t = omega (arith, h.defers object.site f.site)
in_time-stays low high h object (Some f) Load clock t = omega (arith, h.defers object.site f.site)
in_time-stays low high h object (Some f) Store clock t = omega (arith, h.defers object.site f.site)
in_time-stays low high h object (Some f) Touch clock t = omega (arith, h.defers object.site f.site)

pub records_stay : RecordsStay IsBelow
records_stay low high h objects r c = record {
  within = within-stays low high h (object_at objects r.access.object) (nat_le (2 ^ 31) r.access.offset) r.access.offset r.access.width c.within;
  in_time = in_time-stays low high h (object_at objects r.access.object) (object_at objects r.access.object).freed r.kind r.access.clock c.in_time;
}

all-stay : (low high : Cures) → IsBelow low high → (objects : List Object) (records : List Record) → AllCovered low objects records → AllCovered high objects records
all-stay low high h objects [] c = tt
all-stay low high h objects (r ∷ rest) c = (records_stay low high h objects r c.0, all-stay low high h objects rest c.1)

pub runs_stay : RunsStay IsBelow
unfolding IsCoveredRun
runs_stay low high h program args input zeroed zero c = tt
runs_stay low high h program args input zeroed (suc n) c = (
  runs_stay low high h program args input zeroed n c.0,
  all-stay low high h (inf_run program args input zeroed n).state.objects (records_after program args input zeroed n) c.1,
)
