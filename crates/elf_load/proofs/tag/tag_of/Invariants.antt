use Rattle.std.proofs.Common.{◌≡◌, take}
use Rattle.infinite_heap.specs.Elf.{tag_of}
use Rattle.elf_load.proofs.tag.tag_of.Given as goal

abbrev pub invariant-loop-byte : goal.invariant-loop-byte
invariant-loop-byte l = l.tag ≡ tag_of (take l.byte-index l.file)
