-- What a list of areas maps.
use Rattle.infinite_heap.specs.Mapped.{Mapping}
use Rattle.blind_judge.specs.declared.areas.Areas.{Areas}
use Rattle.blind_judge.specs.Areas.{mapping_by}

abbrev pub mapping_in : Areas → Mapping
mapping_in areas = mapping_by areas.items.items
