-- The image that its fields stand for.
use Rattle.heap_image.specs.Snapshot.{Snapshot}
use Rattle.heap_image.specs.declared.image.Image.TheInside.{Inside}

abbrev pub snapshot_of : Inside → Snapshot
snapshot_of a = record {
  tag = a.tag;
  seed = a.seed;
  place = a.place;
  clock = a.clock;
  patches = a.patches;
  miniheaps = a.miniheaps.items;
  rows = a.rows.items;
  contents = a.contents.items;
  broken = a.broken.items;
}
