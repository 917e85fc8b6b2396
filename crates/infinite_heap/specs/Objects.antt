-- The objects of the infinite heap: docs/infinite-run.md, "Objects".
use Rattle.std.specs.Prelude.{ℕ, Bool, if◌then◌else◌, List, get_or, slice_set}
use Rattle.std.specs.declared.option.Option.{Option}
use Rattle.std.specs.declared.option.Option.TheVariants.{Some, None}
use Rattle.infinite_heap.specs.declared.value.Cell.{Cell}
use Rattle.infinite_heap.specs.declared.value.Cell.TheVariants.{Byte, Unset}
use Rattle.infinite_heap.specs.Region.{least_alignment}

-- when and where an object was freed: the clock, and the site of the call
pub record Freed : Type 0 where
  pub clock : ℕ
  pub site : ℕ

-- an object: its size, its alignment, the site of its allocation, the cell that each of its offsets began with, and its free
pub record Object : Type 0 where
  pub size : ℕ
  pub alignment : ℕ
  pub site : ℕ
  pub begins : Cell
  pub freed : Option Freed

abbrev pub no_object : Object
no_object = record { size = 0; alignment = least_alignment; site = 0; begins = Unset; freed = None }

-- objects are numbered from 0 in the order of their allocations
abbrev pub object_at : List Object → ℕ → Object
object_at objects o = get_or objects o no_object

abbrev pub size_in : List Object → ℕ → ℕ
size_in objects o = (object_at objects o).size

abbrev pub alignment_in : List Object → ℕ → ℕ
alignment_in objects o = (object_at objects o).alignment

abbrev pub begins_in : List Object → ℕ → Cell
begins_in objects o = (object_at objects o).begins

-- an object as it is allocated
abbrev pub new_object : (size alignment site : ℕ) → (zeroed : Bool) → Object
new_object size alignment site zeroed = record { size = size; alignment = alignment; site = site; begins = if zeroed then Byte 0 else Unset; freed = None }

-- the objects, with a free of object o
abbrev pub with_free : List Object → (o : ℕ) → Freed → List Object
with_free objects o freed = slice_set objects o (record (object_at objects o) { freed = Some freed })
