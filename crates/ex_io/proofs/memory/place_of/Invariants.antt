use Rattle.std.proofs.Common.{◌≡◌, ◌+◌, ℕ, drop}
use Rattle.ex_io.specs.Files.{IsPlace, entries_of, find_file}
use Rattle.ex_io.proofs.memory.place_of.Given as goal

abbrev pub invariant-loop-index : goal.invariant-loop-index
invariant-loop-index l = (find_file (entries_of l.files) l.name ≡ find_file (entries_of (drop l.index l.files)) l.name) × ((k : ℕ) → IsPlace (entries_of (drop l.index l.files)) l.name k → IsPlace (entries_of l.files) l.name (l.index + k))
