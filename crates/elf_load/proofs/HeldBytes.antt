-- The program of a file of bytes holds bytes.
use Rattle.std.proofs.Common.{◌≡◌, ℕ, ◌<◌, List, [], ◌∷◌, map, drop, Ok, subst}
use Rattle.std.specs.List.{All, AllByRecursion, filter}
use Rattle.std.proofs.lemmas.List.Elements.{All-drop, All-take, All-from_recursion}
use Rattle.std.proofs.lemmas.List.Sorted.{All-permutation}
use Rattle.infinite_heap.specs.declared.program.Program.{Program}
use Rattle.infinite_heap.specs.ElfFields.{p_offset, p_filesz}
use Rattle.infinite_heap.specs.ElfHeaders.{program_headers}
use Rattle.infinite_heap.specs.ElfSegments.{gives_segment, segment_at, segments_of}
use Rattle.infinite_heap.specs.Overlap.{by_address}
use Rattle.infinite_heap.specs.Elf.{program_of}
use Rattle.elf_load.specs.Laws.{AllBytes, HoldsBytes}
use Rattle.elf_load.proofs.LawfulPrograms.{accepted_is_program}
use Rattle.elf_load.proofs.Ordered.{by_address_moves}

module _ (file : List ℕ) (bytes : AllBytes file) where
  each_holds : (rows : List ℕ) → AllByRecursion HoldsBytes (map (segment_at file) rows)
  unfolding segment_at
  each_holds [] = tt
  each_holds (at ∷ rows) = (All-take (λ b. b < 256) (p_filesz file at) (drop (p_offset file at) file) (All-drop (λ b. b < 256) (p_offset file at) file bytes), each_holds rows)

  segments_hold : All HoldsBytes (segments_of file)
  unfolding segments_of
  segments_hold = All-from_recursion HoldsBytes (map (segment_at file) (filter (gives_segment file) (program_headers file))) (each_holds (filter (gives_segment file) (program_headers file)))

  pub program_holds : (p : Program) → program_of file ≡ Ok p → All HoldsBytes p.segments
  program_holds p e =
      subst (λ (p : Program). All HoldsBytes p.segments) (accepted_is_program file p e)
      (All-permutation HoldsBytes (segments_of file) (by_address (segments_of file)) (by_address_moves (segments_of file)) segments_hold)
