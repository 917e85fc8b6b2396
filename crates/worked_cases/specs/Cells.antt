-- Cells, low parts, loads and stores: docs/infinite-heap.md, "Cells and values", "Memory" and "Worked values".
use Rattle.std.specs.Prelude.{◌≡◌, true, false, [], ◌∷◌}
use Rattle.std.specs.declared.option.Option.TheVariants.{Some, None}
use Rattle.infinite_heap.specs.declared.value.Cell.TheVariants.{Byte, Part, Unset}
use Rattle.infinite_heap.specs.declared.value.Value.TheVariants.{Num, Mix, Low}
use Rattle.infinite_heap.specs.Memory.{value_from, cells_from, write_all, store_all, is_stored, stored_count}
use Rattle.infinite_heap.specs.Values.{value_of, low_part}
use Rattle.worked_cases.specs.Operations.{at, part, lowest}

-- Four numbers are one, and the four bytes of one pointer in their order are that pointer; all else is a Mix.
abbrev pub Joined : Type 0
Joined =
    (value_of (Byte 0x78) (Byte 0x56) (Byte 0x34) (Byte 0x12) ≡ Num 0x12345678) × (value_of (part 0) (part 1) (part 2) (part 3) ≡ at 8)
    × (value_of (part 0) (part 1) (part 3) (part 2) ≡ Mix (part 0) (part 1) (part 3) (part 2)) × (value_of (part 0) (part 1) (part 2) (Part 3 9 3) ≡ Mix (part 0) (part 1) (part 2) (Part 3 9 3))
    × (value_of (part 0) (part 1) (part 2) (Part 4 8 3) ≡ Mix (part 0) (part 1) (part 2) (Part 4 8 3)) × (value_of (part 0) (part 1) (part 2) Unset ≡ Mix (part 0) (part 1) (part 2) Unset)
    × (value_of (Byte 1) (Byte 2) (Byte 3) Unset ≡ Mix (Byte 1) (Byte 2) (Byte 3) Unset)

abbrev pub LowParts : Type 0
LowParts =
    (low_part (Num 0xff) ≡ Some 15) × (low_part (at 29) ≡ Some 13) × (low_part (Low 9) ≡ Some 9) × (low_part (lowest (Byte 0xfa)) ≡ Some 10) × (low_part (lowest (Part 3 29 0)) ≡ Some 13)
    × (low_part (lowest (Part 3 29 1)) ≡ None) × (low_part (Mix Unset (part 0) (part 1) (part 2)) ≡ None)

-- The sign of what is loaded goes above it in lb and lh alone, and is unknown where the last cell is no number.
abbrev pub Loaded : Type 0
Loaded =
    (value_from true (Byte 127 ∷ []) ≡ Num 127) × (value_from true (Byte 128 ∷ []) ≡ Num 0xffffff80) × (value_from false (Byte 128 ∷ []) ≡ Num 128)
    × (value_from true (Byte 0 ∷ Byte 127 ∷ []) ≡ Num 0x7f00) × (value_from true (Byte 0 ∷ Byte 128 ∷ []) ≡ Num 0xffff8000) × (value_from false (Byte 0 ∷ Byte 128 ∷ []) ≡ Num 0x8000)
    × (value_from true (part 3 ∷ []) ≡ lowest (part 3)) × (value_from false (part 3 ∷ []) ≡ Mix (part 3) (Byte 0) (Byte 0) (Byte 0))
    × (value_from true (Unset ∷ Byte 128 ∷ []) ≡ Mix Unset (Byte 128) (Byte 255) (Byte 255)) × (value_from false (part 0 ∷ part 1 ∷ []) ≡ Mix (part 0) (part 1) (Byte 0) (Byte 0))
    × (value_from false (part 0 ∷ part 1 ∷ part 2 ∷ part 3 ∷ []) ≡ at 8)

-- A low part has no cell of its own.
abbrev pub Stored : Type 0
Stored =
    (cells_from 1 (Num 0x12345678) ≡ Byte 0x78 ∷ []) × (cells_from 2 (at 8) ≡ part 0 ∷ part 1 ∷ []) × (cells_from 4 (at 8) ≡ part 0 ∷ part 1 ∷ part 2 ∷ part 3 ∷ [])
    × (cells_from 4 (Num 0x12345678) ≡ Byte 0x78 ∷ Byte 0x56 ∷ Byte 0x34 ∷ Byte 0x12 ∷ []) × (cells_from 2 (Low 9) ≡ Unset ∷ Unset ∷ []) × (cells_from 2 (lowest (part 3)) ≡ part 3 ∷ Unset ∷ [])

-- Each stored cell counts once, however often it is stored; another object's cell is another one, and one that was
-- written without a mark doesn't count.
abbrev pub Counted : Type 0
Counted =
    (stored_count [] ≡ 0) × (stored_count (store_all [] 0 4 (Byte 1 ∷ Byte 2 ∷ [])) ≡ 2) × (stored_count (store_all (store_all [] 0 4 (Byte 1 ∷ Byte 2 ∷ [])) 0 5 (Byte 3 ∷ Byte 4 ∷ [])) ≡ 3)
    × (stored_count (store_all (store_all [] 0 4 (Byte 1 ∷ [])) 1 4 (Byte 1 ∷ [])) ≡ 2) × (stored_count (write_all (λ offset. false) [] 1 0 (Byte 1 ∷ Unset ∷ [])) ≡ 0)
    × (stored_count (store_all (write_all (λ offset. false) [] 1 0 (Byte 1 ∷ Unset ∷ [])) 1 1 (Unset ∷ [])) ≡ 1)
    × (stored_count (write_all (is_stored (store_all [] 0 1 (Byte 7 ∷ [])) 0) (store_all [] 0 1 (Byte 7 ∷ [])) 1 0 (Unset ∷ Byte 7 ∷ Unset ∷ [])) ≡ 2)
