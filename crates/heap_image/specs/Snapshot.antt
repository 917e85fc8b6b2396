-- An image as contracts see it (docs/images.md, "Parts").
use Rattle.std.specs.Prelude.{ℕ, List}
use Rattle.patch_table.specs.Table.{Table}
use Rattle.exact_heap.specs.declared.signal.Place.{Place}
use Rattle.exact_heap.specs.declared.row.SlotRow.{SlotRow}
use Rattle.heap_image.specs.declared.image.Broken.{Broken}

pub record Snapshot : Type 0 where
  pub tag : ℕ
  pub seed : ℕ
  pub place : Place
  pub clock : ℕ
  pub patches : Table
  -- the class of each miniheap, in order of creation
  pub miniheaps : List ℕ
  pub rows : List SlotRow
  pub contents : List ℕ
  pub broken : List Broken
