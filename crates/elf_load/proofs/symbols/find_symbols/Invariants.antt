use Rattle.std.proofs.Common.{◌≡◌, ◌+◌, ◌*◌, ◌-◌, ◌≤◌, length, eqb}
use Rattle.std.specs.List.{find}
use Rattle.infinite_heap.specs.ElfFields.{rows, sh_type}
use Rattle.elf_load.proofs.symbols.find_symbols.Given as goal

abbrev pub invariant-loop : goal.invariant-loop
invariant-loop l = record {
  inside : l.at + 40 * (l.fn.sections.count - l.counter) ≤ length l.file;
  rest : find (λ at. eqb (sh_type l.file at) 2) (rows l.at 40 (l.fn.sections.count - l.counter)) ≡ find (λ at. eqb (sh_type l.file at) 2) (rows l.fn.sections.from 40 l.fn.sections.count);
}
