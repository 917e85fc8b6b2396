-- The rules of an image's fields, each behind the fields before it (docs/images.md, "Rules").
use Rattle.std.specs.Prelude.{ℕ, ◌+◌, ◌%◌, ◌^◌, ◌==◌, ◌&&◌, ◌||◌, not, max, Bool, false, nat_lt, nat_le, List, sum_by, if◌then◌else◌, Option, Some, None}
use Rattle.std.specs.List.{list_all}
use Rattle.diefast_canary.specs.Canary.{canary_byte}
use Rattle.miniheap.specs.Layout.{heap_limit}
use Rattle.miniheap.specs.Places.{bytes_used, bytes_wanted, place_at}
use Rattle.miniheap.specs.WordList.{canary_of}
use Rattle.miniheap.specs.declared.place.SlotPlace.{SlotPlace}
use Rattle.exact_heap.specs.declared.row.SlotRow.{SlotRow}
use Rattle.heap_image.specs.declared.image.Broken.{Broken}

-- ---- miniheaps

-- a class, and the miniheaps so far end where the heap region's last miniheap may end
abbrev pub class_fits : (greatest : ℕ) → (earlier : List ℕ) → (class : ℕ) → Bool
class_fits greatest earlier c = nat_le 4 c && nat_le c greatest && nat_le (bytes_used earlier + bytes_wanted earlier c) heap_limit

-- ---- slots

abbrev pub bytes_from : (address : ℕ) → Option SlotPlace → ℕ
bytes_from address None = 0
bytes_from address (Some p) = if p.addr == address then 2 ^ p.class else 0

-- the bytes of the slot that begins at an address, and 0 where none begins there
unfoldable pub slot_bytes : (classes : List ℕ) → (address : ℕ) → ℕ
slot_bytes classes address = bytes_from address (place_at classes address)

-- ---- rows

-- each field's rule; `slot` are the bytes of the row's slot, and `earlier` the rows before it
abbrev pub addr_fits : (classes : List ℕ) → (earlier : List SlotRow) → (addr : ℕ) → Bool
addr_fits classes earlier addr = nat_lt 0 (slot_bytes classes addr) && list_all (λ r. nat_lt r.addr addr) earlier

abbrev pub state_fits : (state : ℕ) → Bool
state_fits state = nat_le state 4

-- no earlier row is of the object; those of state 4 are of none
abbrev pub is_fresh : (earlier : List SlotRow) → (object : ℕ) → Bool
is_fresh earlier object = list_all (λ r. (r.state == 4) || not (r.object == object)) earlier

abbrev pub object_fits : (clock : ℕ) → (earlier : List SlotRow) → (state object : ℕ) → Bool
object_fits clock earlier state object = if state == 4 then object == 0 else nat_lt object clock && is_fresh earlier object

abbrev pub size_fits : (slot state size : ℕ) → Bool
size_fits slot state size = if state == 4 then size == 0 else nat_le size (2 ^ 20) && nat_le size slot

abbrev pub front_fits : (slot state size front : ℕ) → Bool
front_fits slot state size front =
    if state == 4 then front == 0 else (front % 16 == 0) && nat_le front 65536 && nat_le (front + max size 1) slot

abbrev pub site_fits : (state site : ℕ) → Bool
site_fits state site = not (state == 4) || (site == 0)

-- a slot that nobody freed: its object has it, or it never had one
abbrev pub is_unfreed : (state : ℕ) → Bool
is_unfreed state = (state == 0) || (state == 4)

abbrev pub free_site_fits : (state free_site : ℕ) → Bool
free_site_fits state free_site = not (is_unfreed state) || (free_site == 0)

abbrev pub freed_fits : (clock state object freed : ℕ) → Bool
freed_fits clock state object freed = if is_unfreed state then freed == 0 else nat_lt object freed && nat_le freed clock

-- ---- contents

-- an object has the slot, or keeps it until it is due
abbrev pub is_owned : SlotRow → Bool
is_owned r = nat_le r.state 1

abbrev pub content_bytes : (classes : List ℕ) → SlotRow → ℕ
content_bytes classes r = if is_owned r then slot_bytes classes r.addr else 0

-- how many bytes all owned slots have
abbrev pub contents_len : (classes : List ℕ) → List SlotRow → ℕ
contents_len classes rows = sum_by (content_bytes classes) rows

-- ---- broken bytes

abbrev pub is_unowned_at : List SlotRow → Option SlotPlace → Bool
is_unowned_at rows None = false
is_unowned_at rows (Some p) = list_all (λ r. not (is_owned r) || not (r.addr == p.addr)) rows

-- an address lies in a slot that no object has
unfoldable pub is_unowned : (classes : List ℕ) → (rows : List SlotRow) → (address : ℕ) → Bool
is_unowned classes rows address = is_unowned_at rows (place_at classes address)

abbrev pub broken_addr_fits : (classes : List ℕ) → (rows : List SlotRow) → (earlier : List Broken) → (addr : ℕ) → Bool
broken_addr_fits classes rows earlier addr = is_unowned classes rows addr && list_all (λ b. nat_lt b.addr addr) earlier

-- the canary's byte at an address, of a heap with that seed
abbrev pub canary_at : (seed address : ℕ) → ℕ
canary_at seed address = canary_byte (canary_of seed) address

abbrev pub broken_byte_fits : (seed addr byte : ℕ) → Bool
broken_byte_fits seed addr byte = not (byte == canary_at seed addr)
