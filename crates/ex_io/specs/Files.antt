-- A folder as a map from names to bytes, where it tells it (docs/outside.md, "Folders").
use Rattle.std.specs.Prelude.{◌≡◌, ◌≢◌, ℕ, ◌<◌, List, [], ◌∷◌, length, Result, Ok, Err, Option, None, Some, if◌then◌else◌, string_bytes, IsTrue, false, zero, suc}
use Rattle.std.specs.Str.{bytes_eq}
use Rattle.std.specs.declared.vec.Vec.{Vec}
use Rattle.std.specs.declared.string.String.{String}
use Rattle.std.specs.declared.alloc.Global.{Global}
use Rattle.ex_io.specs.declared.outside.OutsideFault.{OutsideFault}
use Rattle.ex_io.specs.declared.outside.OutsideFault.TheVariants as fault
use Rattle.ex_io.specs.declared.outside.TakeFault.{TakeFault}
use Rattle.ex_io.specs.declared.outside.TakeFault.TheVariants as take_fault

-- the bytes of the file of each name, None where there is none
abbrev pub FileMap : Type 0
FileMap = List ℕ → Option (List ℕ)

-- the most bytes that a file may have that is taken
abbrev pub most_taken : ℕ
most_taken = 268435456

-- what taking a file of a told map answers
abbrev pub TakesFrom : FileMap → List ℕ → Result (Vec ℕ Global) TakeFault → Type 0
TakesFrom files name (Ok taken) = files name ≡ Some taken.items
TakesFrom files name (Err take_fault.Absent) = files name ≡ None
TakesFrom files name (Err take_fault.Long) = (bytes : List ℕ) × (files name ≡ Some bytes) × (most_taken < length bytes)
TakesFrom files name (Err take_fault.Failed) = Unit {0}
TakesFrom files name (Err take_fault.Memory) = Unit {0}

abbrev pub Takes : Option FileMap → List ℕ → Result (Vec ℕ Global) TakeFault → Type 0
Takes None name result = Unit {0}
Takes (Some files) name result = TakesFrom files name result

-- the map in which the file of this name has these bytes, and every other file is as it was
abbrev pub with_file : FileMap → List ℕ → List ℕ → FileMap
with_file files name bytes other = if bytes_eq name other then Some bytes else files other

-- every file but that of the name is as it was
abbrev pub OthersStay : FileMap → FileMap → List ℕ → Type 0
OthersStay old new name = (other : List ℕ) → other ≢ name → new other ≡ old other

-- what keeping a file does to a told map
abbrev pub KeepsIn : {T : Type 0} → FileMap → FileMap → List ℕ → List ℕ → Result T OutsideFault → Type 0
KeepsIn old new name bytes (Ok _) = new ≡ with_file old name bytes
KeepsIn old new name bytes (Err fault.Failed) = OthersStay old new name
KeepsIn old new name bytes (Err fault.Memory) = new ≡ old

abbrev pub KeepsFile : {T : Type 0} → Option FileMap → Option FileMap → List ℕ → List ℕ → Result T OutsideFault → Type 0
KeepsFile None new name bytes result = Unit {0}
KeepsFile (Some old) None name bytes result = ⊥
KeepsFile (Some old) (Some new) name bytes result = KeepsIn old new name bytes result

-- names and bytes of files
abbrev pub entry_of : String Global × Vec ℕ Global → List ℕ × List ℕ
entry_of file = (string_bytes file.0, file.1.items)

abbrev pub entries_of : List (String Global × Vec ℕ Global) → List (List ℕ × List ℕ)
entries_of [] = []
entries_of (file ∷ files) = entry_of file ∷ entries_of files

-- the bytes of the first of these files that has the name
abbrev pub find_file : List (List ℕ × List ℕ) → FileMap
find_file [] name = None
find_file (entry ∷ entries) name = if bytes_eq entry.0 name then Some entry.1 else find_file entries name

-- the first of these files that has the name stands here
abbrev pub IsPlace : List (List ℕ × List ℕ) → List ℕ → ℕ → Type 0
IsPlace [] name place = ⊥
IsPlace (entry ∷ entries) name zero = IsTrue (bytes_eq entry.0 name)
IsPlace (entry ∷ entries) name (suc place) = (bytes_eq entry.0 name ≡ false) × IsPlace entries name place
