-- The fields of an image, in the order of its bytes (docs/images.md, "Bytes").
use Rattle.std.specs.Prelude.{ℕ, ◌==◌, Bool, true, List, if◌then◌else◌}
use Rattle.exact_heap.specs.declared.signal.Place.{Place}
use Rattle.exact_heap.specs.declared.signal.Place.TheVariants.{Call, End}
use Rattle.exact_heap.specs.declared.row.SlotRow.{SlotRow}
use Rattle.heap_image.specs.declared.reading.Owner.{Owner}
use Rattle.heap_image.specs.declared.image.Broken.{Broken}
use Rattle.heap_image.specs.declared.image.Head.{Head}
use Rattle.heap_image.specs.declared.version.Version.{Version}
use Rattle.heap_image.specs.declared.version.Version.TheVariants.{One, Two}
use Rattle.heap_image.specs.Fields.{Byte, Word, Long}
use Rattle.heap_image.specs.Versions.{greatest_class}
use Rattle.heap_image.specs.Rules.{class_fits, slot_bytes, addr_fits, state_fits, object_fits, size_fits, front_fits, site_fits, free_site_fits, freed_fits, broken_addr_fits, broken_byte_fits}
use Rattle.heap_image.specs.Steps.{Format, gives, number}

abbrev pub anything : ℕ → Bool
anything n = true

abbrev pub place_of : ℕ → Place
place_of n = if n == 18446744073709551615 then End else Call n

abbrev pub head_format : Format Head
head_format =
    number Long anything (λ tag. number Long anything (λ seed. number Long anything (λ place. number Long anything (λ clock.
    gives (record { tag = tag; seed = seed; place = place_of place; clock = clock })))))

abbrev pub class_format : Version → (earlier : List ℕ) → Format ℕ
class_format version earlier = number Word (class_fits (greatest_class version) earlier) (λ class. gives class)

-- ---- rows

-- the fields from the site on
abbrev pub freed_format : (clock : ℕ) → Owner → (size front : ℕ) → Format SlotRow
freed_format clock o size front =
    number Word (site_fits o.state) (λ site. number Word (free_site_fits o.state) (λ free_site. number Long (freed_fits clock o.state o.object) (λ freed.
    gives (record { addr = o.addr; state = o.state; object = o.object; size = size; front = front; site = site; free_site = free_site; freed = freed }))))

abbrev pub front_format : Version → (slot clock : ℕ) → Owner → (size : ℕ) → Format SlotRow
front_format One slot clock o size = freed_format clock o size 0
front_format Two slot clock o size = number Word (front_fits slot o.state size) (λ front. freed_format clock o size front)

-- the fields from the size on
abbrev pub sized_format : Version → (slot clock : ℕ) → Owner → Format SlotRow
sized_format version slot clock o = number Word (size_fits slot o.state) (λ size. front_format version slot clock o size)

abbrev pub row_format : Version → (classes : List ℕ) → (clock : ℕ) → (earlier : List SlotRow) → Format SlotRow
row_format version classes clock earlier =
    number Word (addr_fits classes earlier) (λ addr. number Byte state_fits (λ state. number Long (object_fits clock earlier state) (λ object.
    sized_format version (slot_bytes classes addr) clock (record { addr = addr; state = state; object = object }))))

-- ---- broken bytes

abbrev pub broken_format : (seed : ℕ) → (classes : List ℕ) → (rows : List SlotRow) → (earlier : List Broken) → Format Broken
broken_format seed classes rows earlier =
    number Word (broken_addr_fits classes rows earlier) (λ addr. number Byte (broken_byte_fits seed addr) (λ byte.
    gives (record { addr = addr; byte = byte })))
