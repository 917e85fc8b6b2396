-- Loaded cells and cells stored outside the heap region, by the laws of the crates below.
use Rattle.std.specs.Prelude.{ℕ, ◌<◌, ◌^◌, Bool, List, length}
use Rattle.infinite_heap.specs.declared.value.Cell.{Cell}
use Rattle.infinite_heap.specs.Layout.{Layout, IsLayout, Stands, AllStand}
use Rattle.infinite_heap.specs.Memory.{CellMap, Matches, put_all, value_from, word_from}
use Rattle.value_laws.specs.MemoryLaws.{IsOutside}
use Rattle.rv_machine.specs.Facts.{Facts}

pub loaded_stands : Facts → (l : Layout) (extends : Bool) {cs : List Cell} {bs : List ℕ} → AllStand l cs bs → Stands l (value_from extends cs) (word_from extends bs) × (word_from extends bs < 2 ^ 32)
loaded_stands laws l extends {cs} {bs} a = laws.loaded l extends cs bs a

pub stored_flat : Facts → (l : Layout) → IsLayout l → (m : CellMap) (bytes : ℕ → ℕ) → Matches l m bytes → (x : ℕ) {cs : List Cell} {bs : List ℕ} → AllStand l cs bs → IsOutside x (length bs) → x < 2 ^ 32
    → Matches l (record { flat = put_all m.flat x cs; heap = m.heap }) (put_all bytes x bs)
stored_flat laws l il m bytes mm x {cs} {bs} a h hx = laws.outside_stores l il m bytes mm x hx cs bs a h
