-- What holds of every image (docs/images.md, "Rules").
use Rattle.std.specs.Prelude.{◌≡◌, ℕ, ◌<◌, ◌-◌, ◌^◌, true, List, [], ◌∷◌, ◌++◌, length}
use Rattle.exact_heap.specs.declared.signal.Place.{Place}
use Rattle.exact_heap.specs.declared.signal.Place.TheVariants.{Call, End}
use Rattle.exact_heap.specs.declared.row.SlotRow.{SlotRow}
use Rattle.heap_image.specs.declared.image.Broken.{Broken}
use Rattle.heap_image.specs.Snapshot.{Snapshot}
use Rattle.heap_image.specs.Rules.{class_fits, slot_bytes, addr_fits, state_fits, object_fits, size_fits, front_fits, site_fits, free_site_fits, freed_fits, contents_len, broken_addr_fits, broken_byte_fits}

-- each item keeps a rule behind those before it
abbrev pub Each : {X : Type 0} → (List X → X → Type 0) → List X → List X → Type 0
Each Rule earlier [] = Unit {0}
Each Rule earlier (x ∷ xs) = Rule earlier x × Each Rule (earlier ++ x ∷ []) xs

-- the end of a run has a number of its own in an image's bytes
abbrev pub IsPlace : Place → Type 0
IsPlace (Call n) = n < 2 ^ 64 - 1
IsPlace End = Unit {0}

pub record IsClass (greatest : ℕ) (earlier : List ℕ) (class : ℕ) : Type 0 where
  pub word : class < 2 ^ 32
  pub fits : class_fits greatest earlier class ≡ true

pub record IsRow (classes : List ℕ) (clock : ℕ) (earlier : List SlotRow) (r : SlotRow) : Type 0 where
  pub addr_word : r.addr < 2 ^ 32
  pub state_byte : r.state < 2 ^ 8
  pub object_long : r.object < 2 ^ 64
  pub size_word : r.size < 2 ^ 32
  pub front_word : r.front < 2 ^ 32
  pub site_word : r.site < 2 ^ 32
  pub free_site_word : r.free_site < 2 ^ 32
  pub freed_long : r.freed < 2 ^ 64
  pub addr : addr_fits classes earlier r.addr ≡ true
  pub state : state_fits r.state ≡ true
  pub object : object_fits clock earlier r.state r.object ≡ true
  pub size : size_fits (slot_bytes classes r.addr) r.state r.size ≡ true
  pub front : front_fits (slot_bytes classes r.addr) r.state r.size r.front ≡ true
  pub site : site_fits r.state r.site ≡ true
  pub free_site : free_site_fits r.state r.free_site ≡ true
  pub freed : freed_fits clock r.state r.object r.freed ≡ true

pub record IsBroken (seed : ℕ) (classes : List ℕ) (rows : List SlotRow) (earlier : List Broken) (b : Broken) : Type 0 where
  pub addr_word : b.addr < 2 ^ 32
  pub byte_byte : b.byte < 2 ^ 8
  pub addr : broken_addr_fits classes rows earlier b.addr ≡ true
  pub byte : broken_byte_fits seed b.addr b.byte ≡ true

-- each miniheap of a class of 4 to 22, and all of them within the limit
abbrev pub AreMiniheaps : List ℕ → Type 0
AreMiniheaps classes = Each (IsClass 22) [] classes

pub record IsLawful (s : Snapshot) : Type 0 where
  pub tag : s.tag < 2 ^ 64
  pub seed : s.seed < 2 ^ 64
  pub place : IsPlace s.place
  pub clock : s.clock < 2 ^ 64
  pub miniheaps : AreMiniheaps s.miniheaps
  pub rows : Each (IsRow s.miniheaps s.clock) [] s.rows
  pub contents : length s.contents ≡ contents_len s.miniheaps s.rows
  pub broken : Each (IsBroken s.seed s.miniheaps s.rows) [] s.broken
  -- what the numbers of an image's bytes can count
  pub miniheap_count : length s.miniheaps < 2 ^ 32
  pub row_count : length s.rows < 2 ^ 32
  pub broken_count : length s.broken < 2 ^ 32
