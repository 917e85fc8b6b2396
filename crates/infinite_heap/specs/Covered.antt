-- Which accesses a patch table covers: docs/infinite-run.md, "Covered".
use Rattle.std.specs.Prelude.{ℕ, zero, Bool, true, false, suc, ◌+◌, ◌*◌, ◌^◌, ◌<◌, ◌≤◌, max, nat_le, if◌then◌else◌, ⊤, List, [], ◌∷◌}
use Rattle.std.specs.declared.option.Option.{Option}
use Rattle.std.specs.declared.option.Option.TheVariants.{Some, None}
use Rattle.infinite_heap.specs.declared.access.AccessKind.{AccessKind}
use Rattle.infinite_heap.specs.declared.access.AccessKind.TheVariants.{Again}
use Rattle.infinite_heap.specs.declared.access.Record.{Record}
use Rattle.infinite_heap.specs.declared.program.HeapName.{HeapName}
use Rattle.infinite_heap.specs.InfiniteRun.{InfRun, InfEnding, inf_mapping, inf_run}
use Rattle.infinite_heap.specs.InfiniteState.{records_of}
use Rattle.infinite_heap.specs.InfiniteStep.{inf_step}
use Rattle.infinite_heap.specs.Loaded.{Loaded}
use Rattle.infinite_heap.specs.Mapped.{Mapping}
use Rattle.infinite_heap.specs.Objects.{Freed, Object, object_at}

-- a patch table: the pad and the front of a site, and the deferral of an allocation and a free site; what is absent is 0
pub record Cures : Type 0 where
  pub pad : ℕ → ℕ
  pub front : ℕ → ℕ
  pub defer : ℕ → ℕ → ℕ

abbrev pub no_cures : Cures
no_cures = record { pad = λ site. 0; front = λ site. 0; defer = λ alloc free. 0 }

-- each entry of the first table is at most the second's
pub record IsBelow (low high : Cures) : Type 0 where
  pub pads : (site : ℕ) → low.pad site ≤ high.pad site
  pub fronts : (site : ℕ) → low.front site ≤ high.front site
  pub defers : (alloc free : ℕ) → low.defer alloc free ≤ high.defer alloc free

-- the least power of two from the one given on that is at least the need, where so many doublings reach it
unfoldable pub power_from : (power need : ℕ) → (doublings : ℕ) → ℕ
power_from power need zero = power
power_from power need (suc n) = if nat_le need power then power else power_from (2 * power) need n

-- the reach of an object: the least power of two, 16 at least, that is at least its size and its site's pad
abbrev pub reach : Cures → Object → ℕ
reach cures object = power_from 16 (max 1 (object.size + cures.pad object.site)) (object.size + cures.pad object.site)

-- Each byte of an access lies before the end of the object's reach and not before its front. Of the offsets, which have
-- 32 bits, those from 2^31 on lie before the object's address.
abbrev pub IsWithin : Cures → Object → (is_before : Bool) → (offset width : ℕ) → Type 0
IsWithin cures object false offset width = offset + width ≤ reach cures object
IsWithin cures object true offset width = (2 ^ 32 ≤ offset + cures.front object.site) × (offset + width ≤ 2 ^ 32 + reach cures object)

-- the clock up to which a freed object is kept
abbrev pub kept_until : Cures → Object → Freed → ℕ
kept_until cures object freed = freed.clock + cures.defer object.site freed.site

-- an access comes in time; a repeated free of an object that isn't freed doesn't arise
abbrev pub InTime : Cures → Object → Option Freed → AccessKind → (clock : ℕ) → Type 0
InTime cures object None Again clock = ⊥
InTime cures object None kind clock = ⊤
InTime cures object (Some freed) Again clock = clock ≤ kept_until cures object freed
InTime cures object (Some freed) kind clock = clock < kept_until cures object freed

-- a record on the objects as they are at its step, of which its object is one
pub record IsCovered (cures : Cures) (objects : List Object) (r : Record) : Type 0 where
  pub within : IsWithin cures (object_at objects r.access.object) (nat_le (2 ^ 31) r.access.offset) r.access.offset r.access.width
  pub in_time : InTime cures (object_at objects r.access.object) (object_at objects r.access.object).freed r.kind r.access.clock

abbrev pub AllCovered : Cures → List Object → List Record → Type 0
AllCovered cures objects [] = ⊤
AllCovered cures objects (r ∷ records) = IsCovered cures objects r × AllCovered cures objects records

-- ---- runs

-- what the next step of a run records, nothing where it has ended
abbrev pub next_records : Mapping → List HeapName → (zeroed : Bool) → (input : List ℕ) → InfRun → Option InfEnding → List Record
next_records p names zeroed input run None = records_of (inf_step p names zeroed input run.state)
next_records p names zeroed input run (Some ending) = []

-- what step n + 1 of a run records
abbrev pub records_after : Loaded → (args : List (List ℕ)) → (input : List ℕ) → (zeroed : Bool) → ℕ → List Record
records_after program args input zeroed n =
    next_records (inf_mapping program args) program.names zeroed input (inf_run program args input zeroed n) (inf_run program args input zeroed n).ending

-- each record of the first n steps is covered, on the objects as they are at its step
unfoldable pub IsCoveredRun : Cures → Loaded → (args : List (List ℕ)) → (input : List ℕ) → (zeroed : Bool) → ℕ → Type 0
IsCoveredRun cures program args input zeroed zero = ⊤
IsCoveredRun cures program args input zeroed (suc n) =
    IsCoveredRun cures program args input zeroed n
    × AllCovered cures (inf_run program args input zeroed n).state.objects (records_after program args input zeroed n)
