use Rattle.std.proofs.Common.{◌≡◌, ◌+◌, ◌*◌, ◌-◌, ◌≤◌, length}
use Rattle.std.specs.List.{list_all}
use Rattle.infinite_heap.specs.ElfFields.{rows}
use Rattle.infinite_heap.specs.ElfSymbols.{name_ends}
use Rattle.elf_load.proofs.names.all_end.Given as goal

abbrev pub invariant-loop : goal.invariant-loop
invariant-loop l = record {
  inside : l.at + 16 * (l.fn.symbols.count - l.counter) ≤ length l.file;
  rest : list_all (name_ends l.file l.strings) (rows l.at 16 (l.fn.symbols.count - l.counter)) ≡ list_all (name_ends l.file l.strings) (rows l.fn.symbols.from 16 l.fn.symbols.count);
}
