-- Marks of the words that may have a cell that is no number.
use Rattle.std.specs.Prelude.{◌≡◌, ℕ, ◌/◌, None}
use Rattle.std.specs.Ordering.{nat_cmp}
use Rattle.std.specs.BTreeMap as tree
use Rattle.std.specs.BTreeMap.{BTreeMap}
use Rattle.infinite_heap.specs.declared.value.Cell.{Cell}
use Rattle.blind_judge.specs.FlatBytes.{byte_in}
use Rattle.blind_judge.specs.declared.flat_bytes.FlatBytes.{FlatBytes}

-- each of these cells lies in a word that is marked
abbrev pub AreMarked : FlatBytes → BTreeMap ℕ Cell → Type 0
AreMarked marks cells = (x : ℕ) → byte_in marks (x / 4) ≡ 0 → tree.get nat_cmp cells x ≡ None
