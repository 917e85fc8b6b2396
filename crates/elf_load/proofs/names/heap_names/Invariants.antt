use Rattle.std.proofs.Common.{◌≡◌, ◌+◌, ◌*◌, ◌-◌, ◌≤◌, map}
use Rattle.std.specs.List.{filter_map}
use Rattle.infinite_heap.specs.ElfFields.{rows}
use Rattle.infinite_heap.specs.ElfSymbols.{heap_name, by_address}
use Rattle.elf_load.specs.Symbols.{name_of}
use Rattle.elf_load.proofs.names.heap_names.Given as goal

abbrev pub invariant-loop-left : goal.invariant-loop-left
invariant-loop-left l = record {
  inside : l.left ≤ l.symbols.count;
  behind : map name_of l.calls.entries ≡ by_address (filter_map (heap_name l.file l.strings) (rows (l.symbols.from + 16 * l.left) 16 (l.symbols.count - l.left)));
}

abbrev pub decreases-loop-left : goal.decreases-loop-left
decreases-loop-left l = l.left
