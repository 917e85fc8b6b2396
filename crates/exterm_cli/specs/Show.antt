-- The command `show`: docs/program.md, "Show".
use Rattle.std.specs.Prelude.{◌≡◌, Bool, true, false, ℕ, List, Result, Ok, Err, None}
use Rattle.ex_io.specs.Files.{FileMap}
use Rattle.heap_image.specs.Listing.{text_of}
use Rattle.heap_image.specs.Snapshot.{Snapshot}
use Rattle.infinite_heap.specs.Elf.{program_of}
use Rattle.infinite_heap.specs.ElfHeaders.{has_magic}
use Rattle.infinite_heap.specs.Loaded.{Loaded}
use Rattle.exterm_cli.specs.Listing.{listing}
use Rattle.exterm_cli.specs.Plan.{Plan, Stage, Settles, gives}
use Rattle.exterm_cli.specs.Taking.{ReadsImage, loaded, taken_word}

abbrev pub listed : List (List ℕ) → Result Loaded Plan → Plan
listed words (Ok program) = gives words None (listing program.segments)
listed words (Err plan) = plan

abbrev pub imaged : List (List ℕ) → Result Snapshot Plan → Plan
imaged words (Ok image) = gives words None (text_of image)
imaged words (Err plan) = plan

-- a file that begins as an ELF file, or else an image
abbrev pub ShowsAs : (elf : Bool) → List (List ℕ) → List ℕ → Plan → Type 0
ShowsAs true words file plan = plan ≡ listed words (loaded (program_of file))
ShowsAs false words file plan = (read : Result Snapshot Plan) × ReadsImage 1 file read × (plan ≡ imaged words read)

abbrev pub ShowsFile : List (List ℕ) → Result (List ℕ) Plan → Plan → Type 0
ShowsFile words (Ok file) plan = ShowsAs (has_magic file) words file plan
ShowsFile words (Err refused) plan = plan ≡ refused

abbrev pub LeadsShow : List (List ℕ) → FileMap → (at : ℕ) → Stage → Type 0
LeadsShow words files at stage = (plan : Plan) × ShowsFile words (taken_word words files at) plan × (stage ≡ Settles plan)
