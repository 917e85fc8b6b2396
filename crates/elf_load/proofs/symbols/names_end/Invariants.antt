use Rattle.std.proofs.Common.{◌≡◌, ◌≤◌, length, false}
use Rattle.infinite_heap.specs.ElfSymbols.{ends}
use Rattle.elf_load.proofs.symbols.names_end.Given as goal

abbrev pub invariant-loop-end : goal.invariant-loop-end
invariant-loop-end l = record {
  inside : l.end ≤ length l.strings;
  none : ends l.strings l.end ≡ false;
}

abbrev pub decreases-loop-end : goal.decreases-loop-end
decreases-loop-end l = l.end
