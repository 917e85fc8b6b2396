-- What patches cover at the ends of an object's reach and of its time: docs/infinite-run.md, "Covered".
use Rattle.std.specs.Prelude.{ℕ, ◌≡◌, ◌+◌, ◌-◌, ◌^◌, ◌&&◌, false, nat_eq, if◌then◌else◌, List, [], ◌∷◌}
use Rattle.infinite_heap.specs.declared.access.AccessKind.{AccessKind}
use Rattle.infinite_heap.specs.declared.access.AccessKind.TheVariants.{Load, Store, Touch, Again}
use Rattle.infinite_heap.specs.declared.value.Cell.TheVariants.{Unset}
use Rattle.infinite_heap.specs.Covered.{Cures, reach, IsCovered, IsCoveredRun}
use Rattle.infinite_heap.specs.Objects.{Object}
use Rattle.worked_cases.specs.Runs.{guest_of, plain_names, kept, gone, used}

-- tables of one entry
abbrev pub one_pad : (site pad : ℕ) → Cures
one_pad site pad = record { pad = λ s. if nat_eq s site then pad else 0; front = λ s. 0; defer = λ alloc free. 0 }

abbrev pub one_front : (site front : ℕ) → Cures
one_front site front = record { pad = λ s. 0; front = λ s. if nat_eq s site then front else 0; defer = λ alloc free. 0 }

abbrev pub one_deferral : (alloc free defer : ℕ) → Cures
one_deferral alloc free defer = record { pad = λ s. 0; front = λ s. 0; defer = λ a f. if nat_eq a alloc && nat_eq f free then defer else 0 }

-- so many steps of a guest are covered
abbrev pub CoversGuest : Cures → (words : List ℕ) → (steps : ℕ) → Type 0
CoversGuest cures words steps = IsCoveredRun cures (guest_of plain_names false words) [] [] false steps

-- ---- single records

-- Object 0 has 16 bytes, and a pad of 1 makes its reach 32. Object 1 has 16 bytes, and is freed at clock 3 and kept up to
-- clock 7. Object 2 is like it, of sites that no patch names. Object 3 has 16 bytes and a front of 32, and object 4 a
-- front of 2^32, which no table has, so that every offset before an object is one of it.
abbrev pub objects : List Object
objects = kept 16 5 Unset ∷ gone 16 6 Unset 3 9 ∷ gone 16 7 Unset 3 9 ∷ kept 16 8 Unset ∷ kept 16 9 Unset ∷ []

abbrev pub cures : Cures
cures = record { pad = λ site. if nat_eq site 5 then 1 else 0; front = λ site. if nat_eq site 8 then 32 else if nat_eq site 9 then 2 ^ 32 else 0; defer = λ alloc free. if nat_eq alloc 6 && nat_eq free 9 then 4 else 0 }

abbrev pub Covers : AccessKind → (object offset width clock : ℕ) → Type 0
Covers kind object offset width clock = IsCovered cures objects (used kind object offset width clock 0)

-- a record of this kind and width at this offset is covered, and one byte further it isn't
abbrev pub EndsAt : AccessKind → (object offset width clock : ℕ) → Type 0
EndsAt kind object offset width clock = Covers kind object offset width clock × ¬ (Covers kind object (offset + 1) width clock)

-- a record of this kind and width is covered at this clock, and one clock later it isn't
abbrev pub LastsUntil : AccessKind → (object width clock : ℕ) → Type 0
LastsUntil kind object width clock = Covers kind object 0 width clock × ¬ (Covers kind object 0 width (clock + 1))

-- Up to the reach of an object, whose last byte counts.
abbrev pub WithinReach : Type 0
WithinReach = EndsAt Load 0 28 4 3 × EndsAt Store 0 31 1 3 × EndsAt Touch 0 31 1 3 × EndsAt Store 1 0 16 6 × EndsAt Again 1 16 0 6

-- a record of this kind and width at this offset is covered, and one byte before it isn't
abbrev pub BeginsAt : AccessKind → (object offset width clock : ℕ) → Type 0
BeginsAt kind object offset width clock = Covers kind object offset width clock × ¬ (Covers kind object (offset - 1) width clock)

-- From the front of an object on, whose first byte counts, and over its address up to its reach; of an object without a
-- front from its address on. An offset below 2^31 lies behind the object's address.
abbrev pub WithinFront : Type 0
WithinFront =
    BeginsAt Store 3 (2 ^ 32 - 32) 1 3 × BeginsAt Load 3 (2 ^ 32 - 32) 4 3 × EndsAt Load 3 (2 ^ 32 - 8) 24 3 × ¬ (Covers Touch 0 (2 ^ 32 - 1) 1 3) × ¬ (Covers Load 0 (2 ^ 32 - 2) 4 3)
    × BeginsAt Store 4 (2 ^ 31) 1 3 × EndsAt Store 3 15 1 3

-- Before the clock up to which an object is kept, and a repeated free at that clock too.
abbrev pub InTime : Type 0
InTime = LastsUntil Load 1 4 6 × LastsUntil Store 1 1 6 × LastsUntil Touch 1 1 6 × LastsUntil Again 1 0 7 × LastsUntil Again 2 0 3

-- Of an object that isn't kept after its free, at its very clock; and a repeated free of one that isn't freed.
abbrev pub OutOfTime : Type 0
OutOfTime = ¬ (Covers Load 2 0 1 3) × ¬ (Covers Store 2 0 1 3) × ¬ (Covers Touch 2 0 1 3) × ¬ (Covers Again 0 0 0 3)

-- the reach of an object of this size with this pad
abbrev pub Reaches : (size pad end : ℕ) → Type 0
Reaches size pad end = reach (one_pad 5 pad) (kept size 5 Unset) ≡ end

-- A front is no part of it.
abbrev pub FrontApart : Type 0
FrontApart = (reach (one_front 5 32) (kept 16 5 Unset) ≡ 16) × (reach (one_front 5 32) (kept 17 5 Unset) ≡ 32)

abbrev pub Reach : Type 0
Reach =
    Reaches 0 0 16 × Reaches 16 0 16 × Reaches 17 0 32 × Reaches 16 1 32 × Reaches 0 33 64 × Reaches 1024 0 1024 × Reaches 1024 1 2048 × Reaches 1000 24 1024
