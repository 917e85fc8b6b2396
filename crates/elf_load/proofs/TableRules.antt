-- Where a file has no table of headers.
use Rattle.std.proofs.Common.{◌≡◌, ℕ, Bool, true, false, ◌&&◌, List, refl, arith}
use Rattle.infinite_heap.specs.ElfFields.{rows, e_phnum, e_shoff, e_shnum}
use Rattle.infinite_heap.specs.ElfHeaders.{program_headers, section_headers, breaks_program_table, breaks_section_table}
use Rattle.elf_load.specs.Tables.{Finds}
use Rattle.std.specs.Prelude.{Some}

pub no_programs : (file : List ℕ) → e_phnum file ≡ 0 → Finds file 32 (program_headers file) (breaks_program_table file) (Some (record { from = 0; count = 0 }))
unfolding program_headers breaks_program_table rows
no_programs file none = (rw none refl, record { few = omega arith; inside = omega arith; same = rw none refl })

pub sections_nowhere : (file : List ℕ) → e_shoff file ≡ 0 → Finds file 40 (section_headers file) (breaks_section_table file) (Some (record { from = 0; count = 0 }))
unfolding section_headers breaks_section_table rows
sections_nowhere file none = (rw none refl, record { few = omega arith; inside = omega arith; same = rw none refl })

nor : (b : Bool) → (b && false) ≡ false
nor true = refl
nor false = refl

pub no_sections : (file : List ℕ) → e_shnum file ≡ 0 → Finds file 40 (section_headers file) (breaks_section_table file) (Some (record { from = 0; count = 0 }))
unfolding section_headers breaks_section_table rows
no_sections file none = (rw (none, nor) refl, record { few = omega arith; inside = omega arith; same = rw (none, nor) refl })
