use Rattle.std.proofs.Common.{◌≡◌, ℕ, ◌+◌, ◌-◌, ◌*◌, ◌/◌, ◌^◌, length, take, replicate, ◌<◌, ◌≤◌, sym, ap, subst, ◌∙◌, refl, Bool, true, false, cond, arith, inl, inr, ◌⊎◌, List, [], ◌∷◌, ◌++◌, slice_index_or, Ok, Err, None}
use Rattle.std.proofs.lemmas.Bool.{cases_lt, le-ltb}
use Rattle.std.proofs.Math.Nat.{mul-div_cancel}
use Rattle.std.proofs.lemmas.Nat.{pow_pos}
use Rattle.std.proofs.lemmas.List.{length-append}
use Rattle.size_class.specs.Classes.{nth_slots, nth_bytes}
use mathlib.Core.Path.{fun_ext}
use Rattle.diefast_canary.specs.Canary.{canary_byte}
use Rattle.rv_memory.specs.Memory.{Memory, with_range, is_unmapped}
use Rattle.rv_memory.specs.Access.{new_byte}
use Rattle.rv_memory.specs.Spaces.{memory_of, taken_of}
use Rattle.rv_memory.specs.declared.access.Rest.TheVariants.{Canary}
use Rattle.miniheap.specs.Layout.{heap_limit, count_of}
use Rattle.miniheap.specs.Slots.{Slots, used_of, wanted_of, end_of}
use Rattle.miniheap.specs.Slots as slots
use Rattle.exact_heap.specs.declared.parts.Parts.{Parts}
use Rattle.exact_heap.specs.History.{History, slots_of}
use Rattle.exact_heap.specs.Home.{IsHome}
use Rattle.exact_heap.specs.Placing.{HeapState, Turn, grown, growth, no_room, room_left}
use Rattle.exact_heap.specs.RowStore.{RowChunk, no_rows}
use Rattle.exact_heap.specs.Stands.{PartsStandFor, IsSound, IsAt, state_at}
use Rattle.miniheap.specs.Laws.{SlotLaws}
use Rattle.exact_heap.proofs.Sound.{sound_order, sound_then}
use Rattle.exact_heap.proofs.Standing.{grown_stands}
use Rattle.exact_heap.proofs.States.{room_grown}
use Rattle.exact_heap.proofs.Homes.{home_keeps, home_grown, next_unmapped}
use Rattle.exact_heap.proofs.parts.Parts.grow.Goals as goal

-- the rows of a miniheap that wasn't added are gone
take_length : (rows more : List (List RowChunk)) → take (length rows) (rows ++ more) ≡ rows
take_length [] more = refl
take_length (r ∷ rows) more = ap (λ (rs : List (List RowChunk)). r ∷ rs) (take_length rows more)

undone : (rows added left : List (List RowChunk)) (line : List RowChunk) → added ≡ rows ++ line ∷ [] → left ≡ take (length added - 1) added → left ≡ rows
undone rows added left line e f =
    let one : length added - 1 ≡ length rows = omega (arith, ap length e, length-append rows (line ∷ [])) in
    f ∙ ap (λ (n : ℕ). take n added) one ∙ ap (take (length rows)) e ∙ take_length rows (line ∷ [])

-- there are chunks for all slots
enough : (c n bytes slots : ℕ) → bytes ≡ nth_bytes c n → slots ≡ bytes / 2 ^ c → nth_slots c n ≤ (slots / 64 + 1) * 64
enough c n bytes slots e f =
    let same : slots ≡ nth_slots c n = f ∙ ap (λ (x : ℕ). x / 2 ^ c) e ∙ mul-div_cancel (nth_slots c n) (pow_pos c) in
    omega (arith, same)

pub returns-in-Err-clause-sound : goal.returns-in-Err-clause-sound
returns-in-Err-clause-sound c = subst (λ (rows : List (List RowChunk)). IsSound (record c.args.self.now { slots = record c.args.self.now.slots { rows = rows } })) (sym c.in-Err.ensures.err) c.requires.sound

pub returns-in-Err-grow-clause-sound : goal.returns-in-Err-grow-clause-sound
returns-in-Err-grow-clause-sound c =
    subst (λ (g : Slots). IsSound (record c.args.self.now { slots = record { grid = g; rows = c.undo.new.self } })) (sym c.in-Err-grow.ensures.unchanged)
    (subst (λ (rows : List (List RowChunk)). IsSound (record c.args.self.now { slots = record c.args.self.now.slots { rows = rows } })) (sym (undone c.args.self.now.slots.rows c.add.new.self c.undo.new.self _ c.in-Ok.ensures.ok c.undo.ensures)) c.requires.sound)

at_most : (a b : ℕ) → (a < b → ⊥) → b ≤ a
at_most a b n = at (cases_lt a b)
  where
    at : (a < b) ⊎ (b ≤ a) → b ≤ a
    at (inl h) = absurd (n h)
    at (inr h) = h

pub map-requires-clause-unmapped : goal.map-requires-clause-unmapped
map-requires-clause-unmapped c =
    let room : used_of c.args.self.now.slots.grid + wanted_of c.args.self.now.slots.grid c.args.class ≤ heap_limit =
    at_most heap_limit (used_of c.args.self.now.slots.grid + wanted_of c.args.self.now.slots.grid c.args.class) (λ h. let q = c.in-Ok-grow.ensures.room.1 h in cc) in
    subst (λ (from : ℕ). is_unmapped (memory_of c.args.space.now) from c.wanted-bytes.result ≡ true) (sym c.in-Ok-grow.ensures.address)
    (subst (λ (len : ℕ). is_unmapped (memory_of c.args.space.now) (end_of c.args.self.now.slots.grid) len ≡ true) (sym c.wanted-bytes.ensures)
    (next_unmapped c.args.self.now.slots.grid (memory_of c.args.space.now) (taken_of c.args.space.now) (wanted_of c.args.self.now.slots.grid c.args.class) c.requires.home room))

canary_range : (word from : ℕ) → new_byte [] (Canary word) from ≡ canary_byte word
canary_range word from = fun_ext (λ (a : ℕ). ap (λ (b : Bool). cond b (slice_index_or [] (a - from) 0) (canary_byte word a)) (le-ltb (a - from) 0 (omega arith)))

stands_grown : SlotLaws → (p : Parts) (h : History) (class bytes number : ℕ) (g : Slots) (rows : List (List RowChunk)) → PartsStandFor p h → g ≡ slots.grown p.slots.grid class → bytes ≡ wanted_of p.slots.grid class → number ≡ bytes / 2 ^ class
    → rows ≡ p.slots.rows ++ replicate (number / 64 + 1) no_rows ∷ [] → 4 ≤ class → class ≤ 22 → used_of p.slots.grid + wanted_of p.slots.grid class ≤ heap_limit
    → PartsStandFor (record p { slots = record { grid = g; rows = rows } }) (record h { classes = h.classes ++ class ∷ [] })
stands_grown laws p h class bytes number g rows st e wanted count more low high room =
    subst (λ (x : Slots). PartsStandFor (record p { slots = record { grid = x; rows = rows } }) (record h { classes = h.classes ++ class ∷ [] })) (sym e)
    (subst (λ (x : List (List RowChunk)). PartsStandFor (record p { slots = record { grid = slots.grown p.slots.grid class; rows = x } }) (record h { classes = h.classes ++ class ∷ [] })) (sym more)
    (grown_stands laws p h class (number / 64 + 1) st (enough class (count_of class h.classes) bytes number (wanted ∙ ap (λ (x : Slots). wanted_of x class) st.slots.grid) count) low high room))

pub returns-in-Ok-map-clause-gives : goal.returns-in-Ok-map-clause-gives
returns-in-Ok-map-clause-gives c h st =
    let p : Parts = c.args.self.now in
    let s : HeapState = state_at h c.args.space.now in
    let room : used_of p.slots.grid + wanted_of p.slots.grid c.args.class ≤ heap_limit = at_most heap_limit (used_of p.slots.grid + wanted_of p.slots.grid c.args.class) (λ h. let q = c.in-Ok-grow.ensures.room.1 h in cc) in
    let room' : used_of (slots_of h) + wanted_of (slots_of h) c.args.class ≤ heap_limit = subst (λ (x : Slots). used_of x + wanted_of x c.args.class ≤ heap_limit) st.slots.grid room in
    let e : growth c.args.class s ≡ record { state = grown c.args.class s; answer = Ok None } =
    ap (λ (b : Bool). cond b (record { state = s; answer = Err (no_room c.args.class s) }) (record { state = grown c.args.class s; answer = Ok None })) (le-ltb heap_limit (used_of (slots_of h) + wanted_of (slots_of h) c.args.class) room') in
    let bytes : memory_of c.map.new.self ≡ (grown c.args.class s).memory =
    c.in-Ok-map.ensures.mapped
    ∙ ap (λ (from : ℕ). with_range (memory_of c.args.space.now) from c.wanted-bytes.result (new_byte [] (Canary c.canary.result) from) true false) (c.in-Ok-grow.ensures.address ∙ ap end_of st.slots.grid)
    ∙ ap (λ (len : ℕ). with_range (memory_of c.args.space.now) (end_of (slots_of h)) len (new_byte [] (Canary c.canary.result) (end_of (slots_of h))) true false) (c.wanted-bytes.ensures ∙ ap (λ (x : Slots). wanted_of x c.args.class) st.slots.grid)
    ∙ ap (λ (byte : ℕ → ℕ). with_range (memory_of c.args.space.now) (end_of (slots_of h)) (wanted_of (slots_of h) c.args.class) byte true false)
    (canary_range c.canary.result (end_of (slots_of h)) ∙ ap canary_byte (c.canary.ensures h.seed h.spent st.words)) in
    subst (λ (t : Turn). (t.answer ≡ Ok None) × IsAt t.state (record p { slots = record { grid = c.grow.new.self; rows = c.add.new.self } }) (memory_of c.map.new.self)) (sym e) (
      refl,
      record {
        stands = stands_grown c.slot_laws.ensures p h c.args.class c.wanted-bytes.result _ c.grow.new.self c.add.new.self st c.in-Ok-grow.ensures.grows c.wanted-bytes.ensures refl c.in-Ok.ensures.ok c.requires.low c.requires.high room;
        bytes = bytes;
      },
    )

pub returns-in-Ok-map-clause-nearer : goal.returns-in-Ok-map-clause-nearer
returns-in-Ok-map-clause-nearer c =
    let p : Parts = c.args.self.now in
    let room : used_of p.slots.grid + wanted_of p.slots.grid c.args.class ≤ heap_limit = at_most heap_limit (used_of p.slots.grid + wanted_of p.slots.grid c.args.class) (λ h. let q = c.in-Ok-grow.ensures.room.1 h in cc) in
    subst (λ (g : Slots). room_left c.args.class g < room_left c.args.class p.slots.grid) (sym c.in-Ok-grow.ensures.grows) (room_grown c.slot_laws.ensures p.slots.grid c.args.class (sound_order p c.requires.sound) c.requires.low room)

sound_grown : SlotLaws → (p : Parts) (class bytes number : ℕ) (g : Slots) (rows : List (List RowChunk)) → IsSound p → g ≡ slots.grown p.slots.grid class → bytes ≡ wanted_of p.slots.grid class → number ≡ bytes / 2 ^ class
    → rows ≡ p.slots.rows ++ replicate (number / 64 + 1) no_rows ∷ [] → 4 ≤ class → class ≤ 22 → used_of p.slots.grid + wanted_of p.slots.grid class ≤ heap_limit → IsSound (record p { slots = record { grid = g; rows = rows } })
sound_grown laws p class bytes number g rows sound e wanted count more low high room =
    sound_then p (record p { slots = record { grid = g; rows = rows } }) (λ (h : History). record h { classes = h.classes ++ class ∷ [] }) (λ h st. stands_grown laws p h class bytes number g rows st e wanted count more low high room) sound

pub returns-in-Ok-map-clause-sound : goal.returns-in-Ok-map-clause-sound
returns-in-Ok-map-clause-sound c =
    sound_grown c.slot_laws.ensures c.args.self.now c.args.class c.wanted-bytes.result _ c.grow.new.self c.add.new.self c.requires.sound c.in-Ok-grow.ensures.grows c.wanted-bytes.ensures refl c.in-Ok.ensures.ok c.requires.low c.requires.high
    (at_most heap_limit (used_of c.args.self.now.slots.grid + wanted_of c.args.self.now.slots.grid c.args.class) (λ h. let q = c.in-Ok-grow.ensures.room.1 h in cc))

pub returns-in-Err-map-clause-sound : goal.returns-in-Err-map-clause-sound
returns-in-Err-map-clause-sound c =
    sound_grown c.slot_laws.ensures c.args.self.now c.args.class c.wanted-bytes.result _ c.grow.new.self c.add.new.self c.requires.sound c.in-Ok-grow.ensures.grows c.wanted-bytes.ensures refl c.in-Ok.ensures.ok c.requires.low c.requires.high
    (at_most heap_limit (used_of c.args.self.now.slots.grid + wanted_of c.args.self.now.slots.grid c.args.class) (λ h. let q = c.in-Ok-grow.ensures.room.1 h in cc))

pub returns-in-Ok-map-clause-home : goal.returns-in-Ok-map-clause-home
returns-in-Ok-map-clause-home c =
    let p : Parts = c.args.self.now in
    let room : used_of p.slots.grid + wanted_of p.slots.grid c.args.class ≤ heap_limit = at_most heap_limit (used_of p.slots.grid + wanted_of p.slots.grid c.args.class) (λ h. let q = c.in-Ok-grow.ensures.room.1 h in cc) in
    let byte : ℕ → ℕ = new_byte [] (Canary c.canary.result) c.in-Ok-grow.base in
    let m : memory_of c.map.new.self ≡ with_range (memory_of c.args.space.now) (end_of p.slots.grid) (wanted_of p.slots.grid c.args.class) byte true false =
    c.in-Ok-map.ensures.mapped ∙ ap (λ (from : ℕ). with_range (memory_of c.args.space.now) from c.wanted-bytes.result byte true false) c.in-Ok-grow.ensures.address
    ∙ ap (λ (len : ℕ). with_range (memory_of c.args.space.now) (end_of p.slots.grid) len byte true false) c.wanted-bytes.ensures in
    subst (λ (g : Slots). IsHome g (memory_of c.map.new.self) (taken_of c.map.new.self)) (sym c.in-Ok-grow.ensures.grows)
    (subst (λ (x : Memory). IsHome (slots.grown p.slots.grid c.args.class) x (taken_of c.map.new.self)) (sym m)
    (home_keeps (slots.grown p.slots.grid c.args.class) (with_range (memory_of c.args.space.now) (end_of p.slots.grid) (wanted_of p.slots.grid c.args.class) byte true false) (taken_of c.args.space.now) (taken_of c.map.new.self) c.in-Ok-map.ensures.taken
    (home_grown c.slot_laws.ensures p.slots.grid (memory_of c.args.space.now) (taken_of c.args.space.now) c.args.class byte (sound_order p c.requires.sound) room c.requires.home)))
