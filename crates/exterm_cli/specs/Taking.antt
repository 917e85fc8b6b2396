-- Files that words name, as they are taken and read: docs/program.md, "Order".
use Rattle.std.specs.Prelude.{◌≡◌, ℕ, zero, suc, ◌+◌, nat_lt, List, [], ◌∷◌, length, Result, Ok, Err, Option, None, Some, if◌then◌else◌}
use Rattle.ex_io.specs.Files.{FileMap, most_taken}
use Rattle.heap_image.specs.Reading.{IsAnswered}
use Rattle.heap_image.specs.Snapshot.{Snapshot}
use Rattle.heap_image.specs.declared.refusal.ImageRefusal.{ImageRefusal}
use Rattle.infinite_heap.specs.Elf.{program_of}
use Rattle.infinite_heap.specs.Loaded.{Loaded}
use Rattle.infinite_heap.specs.declared.program.ElfRefusal.{ElfRefusal}
use Rattle.patch_table.specs.Grammar.{IsPatchText, IsRefused}
use Rattle.patch_table.specs.Table.{Table, no_patches}
use Rattle.patch_table.specs.declared.reading.PatchRefusal.{PatchRefusal}
use Rattle.exterm_cli.specs.Counted.{word}
use Rattle.exterm_cli.specs.Plan.{Plan}
use Rattle.exterm_cli.specs.Refusals.{absent, too_long, no_image_in, no_program, no_patches_in}

-- ---- one file

-- the file of word `place`, as the folder has it, or what is told where it can't be taken
abbrev pub taken : (place : ℕ) → Option (List ℕ) → Result (List ℕ) Plan
taken place None = Err (absent place)
taken place (Some file) = if nat_lt most_taken (length file) then Err (too_long place) else Ok file

-- the same of the word at an index
abbrev pub taken_word : List (List ℕ) → FileMap → (at : ℕ) → Result (List ℕ) Plan
taken_word words files at = taken (at + 1) (files (word words at))

abbrev pub loaded : Result Loaded ElfRefusal → Result Loaded Plan
loaded (Ok program) = Ok program
loaded (Err refused) = Err (no_program refused)

-- a file as a program
abbrev pub program_in : Result (List ℕ) Plan → Result Loaded Plan
program_in (Ok file) = loaded (program_of file)
program_in (Err plan) = Err plan

-- a text as the table of patch file k of the command
abbrev pub ReadsTable : (k : ℕ) → List ℕ → Result Table Plan → Type 0
ReadsTable k text (Ok table) = IsPatchText text table
ReadsTable k text (Err plan) = (refused : PatchRefusal) × IsRefused text refused × (plan ≡ no_patches_in k refused)

-- bytes as the image that file k of the command is
abbrev pub ReadsImage : (k : ℕ) → List ℕ → Result Snapshot Plan → Type 0
ReadsImage k bytes (Ok image) = IsAnswered bytes (Ok image)
ReadsImage k bytes (Err plan) = (refused : ImageRefusal) × IsAnswered bytes (Err refused) × (plan ≡ no_image_in k refused)

-- What a file is read as where it could be taken, file k of the command; `Reads` is a grammar.
abbrev pub ReadsTaken : {T : Type 0} → (Reads : ℕ → List ℕ → Result T Plan → Type 0) → (k : ℕ) → Result (List ℕ) Plan → Result T Plan → Type 0
ReadsTaken Reads k (Ok file) read = Reads k file read
ReadsTaken Reads k (Err plan) read = read ≡ Err plan

-- the table of the one patch file of a command, the word at an index, where there is one
abbrev pub ReadsPatches : List (List ℕ) → FileMap → Option ℕ → Result Table Plan → Type 0
ReadsPatches words files None read = read ≡ Ok no_patches
ReadsPatches words files (Some at) read = ReadsTaken ReadsTable 1 (taken_word words files at) read

-- ---- several files

-- the first that was read stands before the others, or it was refused and ends it
abbrev pub Follows : {T : Type 0} → (Rest : Result (List T) Plan → Type 0) → Result T Plan → Result (List T) Plan → Type 0
Follows Rest (Err plan) read = read ≡ Err plan
Follows Rest (Ok first) (Ok (next ∷ others)) = (next ≡ first) × Rest (Ok others)
Follows Rest (Ok first) (Ok []) = ⊥
Follows Rest (Ok first) (Err plan) = Rest (Err plan)

-- What the files of `count` words are read as, from the word at an index on, which names file k of the command. They are
-- taken and read one after the other, and the first that can't be taken or is refused ends it.
abbrev pub ReadsFiles : {T : Type 0} → (Reads : ℕ → List ℕ → Result T Plan → Type 0) → List (List ℕ) → FileMap → (count at k : ℕ) → Result (List T) Plan → Type 0
ReadsFiles Reads words files zero at k read = read ≡ Ok []
ReadsFiles Reads words files (suc count) at k read =
    (first : Result _ Plan) × ReadsTaken Reads k (taken_word words files at) first × Follows (ReadsFiles Reads words files count (at + 1) (k + 1)) first read
