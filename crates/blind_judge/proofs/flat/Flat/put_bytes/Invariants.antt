use Rattle.std.proofs.Common.{◌≡◌, drop}
use Rattle.infinite_heap.specs.InfiniteSystem.{as_cells}
use Rattle.infinite_heap.specs.Memory.{put_all}
use Rattle.blind_judge.specs.Flat.{flat_of, mapping_in}
use Rattle.blind_judge.proofs.flat.Flat.put_bytes.Given as goal

abbrev pub invariant-loop-b : goal.invariant-loop-b
invariant-loop-b l = record {
  put : put_all (flat_of l.self) l.at (as_cells (drop l.b-index l.bytes)) ≡ put_all (flat_of l.initial.self) l.x (as_cells l.bytes);
  mapping : mapping_in l.self ≡ mapping_in l.initial.self;
}
