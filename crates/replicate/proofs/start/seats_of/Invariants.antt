use Rattle.std.proofs.Common.{◌≡◌, Ok, length, map, string_bytes}
use Rattle.std.specs.List.{AllByRecursion, range_with_len}
use Rattle.infinite_heap.specs.Elf.{program_of}
use Rattle.infinite_heap.specs.Loaded.{Loaded}
use Rattle.replicate.specs.GroupStands.{HaveTag}
use Rattle.replicate.specs.Rounds.{replica_at}
use Rattle.replicate.specs.Runs.{HasReadNothing}
use Rattle.replicate.specs.Standings.{SeatsAre}
use Rattle.replicate.proofs.start.seats_of.Given as goal

abbrev pub invariant-loop-i : goal.invariant-loop-i
invariant-loop-i l = record {
  are : (program : Loaded) → program_of l.file ≡ Ok program → SeatsAre l.budget (map (replica_at program (map string_bytes l.args) l.settings) (range_with_len 0 l.i)) l.seats.items;
  tags : (program : Loaded) → program_of l.file ≡ Ok program → HaveTag program.tag l.seats.items;
  unread : AllByRecursion HasReadNothing l.seats.items;
  count : length l.seats.items ≡ l.i;
}
