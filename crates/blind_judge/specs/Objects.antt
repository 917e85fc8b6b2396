-- Which objects of the infinite heap the judge's objects are.
use Rattle.std.specs.Prelude.{List, map, if◌then◌else◌}
use Rattle.std.specs.Option.{option_map}
use Rattle.infinite_heap.specs.declared.value.Cell.TheVariants.{Byte, Unset}
use Rattle.infinite_heap.specs.Objects.{Object, Freed}
use Rattle.blind_judge.specs.declared.objects.Freed.{Freed as KeptFreed}
use Rattle.blind_judge.specs.declared.objects.Object.{Object as KeptObject}

abbrev pub freed_of : KeptFreed → Freed
freed_of f = record { clock = f.clock; site = f.site }

abbrev pub object_of : KeptObject → Object
object_of o = record { size = o.size; alignment = o.alignment; site = o.site; begins = if o.zeroed then Byte 0 else Unset; freed = option_map freed_of o.freed }

abbrev pub objects_of : List KeptObject → List Object
objects_of objects = map object_of objects
