use Rattle.std.proofs.Common.{◌≡◌, ◌+◌, ◌*◌, ◌-◌, ◌≤◌, ◌++◌, length, map}
use Rattle.infinite_heap.specs.ElfFields.{rows}
use Rattle.elf_load.specs.Headers.{header_at}
use Rattle.elf_load.proofs.header.headers_in.Given as goal

abbrev pub invariant-loop : goal.invariant-loop
invariant-loop l = record {
  inside : l.at + 32 * (l.fn.table.count - l.counter) ≤ length l.file;
  rest : l.headers.items ++ map (header_at l.file) (rows l.at 32 (l.fn.table.count - l.counter)) ≡ map (header_at l.file) (rows l.fn.table.from 32 l.fn.table.count);
}
