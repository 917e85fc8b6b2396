-- An image as text (docs/images.md, "Text").
use Rattle.std.specs.Prelude.{ℕ, suc, ◌==◌, List, [], ◌∷◌, ◌++◌, length, codes, decimal, if◌then◌else◌}
use Rattle.std.specs.List.{flat_map}
use Rattle.hex_text.specs.Hex.{hex_of}
use Rattle.miniheap.specs.Layout.{Mini, minis}
use Rattle.exact_heap.specs.declared.signal.Place.{Place}
use Rattle.exact_heap.specs.declared.signal.Place.TheVariants.{Call, End}
use Rattle.exact_heap.specs.declared.row.SlotRow.{SlotRow}
use Rattle.heap_image.specs.declared.image.Broken.{Broken}
use Rattle.heap_image.specs.Snapshot.{Snapshot}

abbrev pub place_text : Place → List ℕ
place_text (Call n) = decimal n
place_text End = codes "end"

-- how many miniheaps, rows and broken bytes there are
abbrev pub counts_text : Snapshot → List ℕ
counts_text s = codes " miniheaps " ++ (decimal (length s.miniheaps) ++ (codes " rows " ++ (decimal (length s.rows) ++ (codes " broken " ++ decimal (length s.broken)))))

unfoldable pub head_line : Snapshot → List ℕ
head_line s = codes "image seed " ++ (decimal s.seed ++ (codes " place " ++ (place_text s.place ++ (codes " clock " ++ (decimal s.clock ++ (counts_text s ++ 10 ∷ []))))))

unfoldable pub mini_line : (number : ℕ) → Mini → List ℕ
mini_line number m = codes "mini " ++ (decimal number ++ (codes " class " ++ (decimal m.class ++ (codes " base 0x" ++ (hex_of 8 m.base ++ (codes " slots " ++ (decimal m.slots ++ 10 ∷ [])))))))

-- miniheaps, numbered from a number on
abbrev pub mini_lines : (number : ℕ) → List Mini → List ℕ
mini_lines number [] = []
mini_lines number (m ∷ ms) = mini_line number m ++ mini_lines (suc number) ms

abbrev pub state_word : (state : ℕ) → List ℕ
state_word state = if state == 0 then codes "owned" else (if state == 1 then codes "deferred" else (if state == 2 then codes "released" else codes "spoiled"))

abbrev pub object_text : SlotRow → List ℕ
object_text r = codes " object " ++ (decimal r.object ++ (codes " size " ++ (decimal r.size ++ (codes " front " ++ decimal r.front))))

abbrev pub sites_text : SlotRow → List ℕ
sites_text r = codes " site " ++ (hex_of 8 r.site ++ (codes " free " ++ (hex_of 8 r.free_site ++ (codes " freed " ++ decimal r.freed))))

-- the line of a slot that had an owner
unfoldable pub owner_line : SlotRow → List ℕ
owner_line r = codes "slot 0x" ++ (hex_of 8 r.addr ++ (codes " " ++ (state_word r.state ++ (object_text r ++ (sites_text r ++ 10 ∷ [])))))

unfoldable pub bad_line : (addr : ℕ) → List ℕ
bad_line addr = codes "slot 0x" ++ (hex_of 8 addr ++ codes " bad\n")

abbrev pub row_line : SlotRow → List ℕ
row_line r = if r.state == 4 then bad_line r.addr else owner_line r

unfoldable pub break_line : Broken → List ℕ
break_line b = codes "break 0x" ++ (hex_of 8 b.addr ++ (codes " " ++ (hex_of 2 b.byte ++ 10 ∷ [])))

abbrev pub text_of : Snapshot → List ℕ
text_of s = head_line s ++ mini_lines 0 (minis s.miniheaps) ++ flat_map row_line s.rows ++ flat_map break_line s.broken
