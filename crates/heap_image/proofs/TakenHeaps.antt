-- The image of a heap that a machine keeps.
use Rattle.std.proofs.Common.{◌≡◌, ℕ, ◌^◌, ◌<◌, refl, ap, sym, ◌∙◌, true, List, Option, Some, None, is_some, Result, Ok, Err, IfOk}
use Rattle.std.specs.Prelude.{IsErrAnd}
use Rattle.std.specs.List.{AllByRecursion}
use Rattle.std.proofs.lemmas.Bool.{true≢false}
use Rattle.patch_table.specs.Table.{Table}
use Rattle.rv_memory.specs.declared.space.Space.{Space}
use Rattle.rv_memory.specs.Laws.{TestsHoldAtEach}
use Rattle.rv_memory.specs.Memory.{Memory, IsBounded}
use Rattle.rv_memory.specs.Spaces.{memory_of}
use Rattle.miniheap.specs.Laws.{SlotsHoldTheirAddresses}
use Rattle.miniheap.specs.Slots.{Slots, slot_at}
use Rattle.miniheap.specs.WordList.{canary_of}
use Rattle.miniheap.specs.declared.place.Slot.{Slot}
use Rattle.exact_heap.specs.declared.heap.Heap.{Heap}
use Rattle.exact_heap.specs.declared.row.SlotRow.{SlotRow}
use Rattle.exact_heap.specs.declared.signal.Place.{Place}
use Rattle.exact_heap.specs.Heaps.{StandsFor, IsSpent, HasHome, slots_in}
use Rattle.exact_heap.specs.History.{History, slots_of, clock_of, canary_in}
use Rattle.exact_heap.specs.Laws.{HeapsAreLawful}
use Rattle.exact_heap.specs.Mapped.{SlotsAreMapped}
use Rattle.exact_heap.specs.Rows.{rows_of}
use Rattle.exact_heap.specs.Stands.{state_at}
use Rattle.heap_image.specs.declared.image.Broken.{Broken}
use Rattle.heap_image.specs.Laws.{IsTyped, IsHeapState}
use Rattle.heap_image.specs.Snapshot.{Snapshot}
use Rattle.heap_image.specs.Taken.{is_unheld, contents_of, broken_of, image_of_heap}
use Rattle.heap_image.specs.Taking.{AreMapped}

pub slots_mapped : SlotsAreMapped → (heap : Heap) (space : Space) (slots : Slots) → ¬ (IsSpent heap) → HasHome heap space → slots ≡ slots_in heap → AreMapped slots (memory_of space)
slots_mapped law heap space slots lives home same address t e = (law heap space address t lives home (ap (λ (s : Slots). slot_at s address) (sym same) ∙ e)).0

pub heap_state : HeapsAreLawful → SlotsHoldTheirAddresses → TestsHoldAtEach → (heap : Heap) (space : Space) (slots : Slots) (h : History) → StandsFor heap h → AreMapped slots (memory_of space) → slots ≡ slots_of h → IsBounded (memory_of space) → h.seed < 2 ^ 64
    → clock_of h < 2 ^ 64 → AllByRecursion IsTyped (rows_of h) → IsHeapState (state_at h space)
heap_state lawful hold each heap space slots h stands mapped same bounded seed clock typed = record {
  lawful = lawful heap h stands;
  seed = seed;
  clock = clock;
  rows = typed;
  bounded = bounded;
  mapped = λ address e. at address (slot_at (slots_of h) address) refl e;
}
  where
    at : (address : ℕ) → (o : Option Slot) → slot_at (slots_of h) address ≡ o → is_unheld o ≡ true → is_some ((memory_of space).bytes address) ≡ true
    at address None e f = absurd (true≢false (sym f))
    at address (Some t) e f =
        let here = hold (slots_of h) address t e in
        each (λ a. is_some ((memory_of space).bytes a)) t.addr (2 ^ t.class) address (mapped address t (ap (λ (s : Slots). slot_at s address) same ∙ e)) here.0 here.1

-- an image by its parts
abbrev pub snapshot : (tag seed : ℕ) → Place → (clock : ℕ) → Table → (miniheaps : List ℕ) → List SlotRow → (contents : List ℕ) → List Broken → Snapshot
snapshot tag seed place clock patches miniheaps rows contents broken = record { tag = tag; seed = seed; place = place; clock = clock; patches = patches; miniheaps = miniheaps; rows = rows; contents = contents; broken = broken }

pub image_is : (tag seed : ℕ) (place : Place) (clock : ℕ) (patches table : Table) (minis : List ℕ) (rows : List SlotRow) (contents : List ℕ) (broken : List Broken) (slots : Slots) (h : History) (memory : Memory) → seed ≡ h.seed → clock ≡ clock_of h → patches ≡ table
    → minis ≡ slots.classes → rows ≡ rows_of h → contents ≡ contents_of memory slots.classes rows → broken ≡ broken_of slots memory (canary_of seed) → slots ≡ slots_of h
    → snapshot tag seed place clock patches minis rows contents broken ≡ image_of_heap tag table place (record { history = h; memory = memory })
image_is tag seed place clock patches table minis rows contents broken slots h memory s c p m r d b g =
    let minis_are : minis ≡ h.classes = m ∙ ap (λ (x : Slots). x.classes) g in
    let contents_are : contents ≡ contents_of memory h.classes (rows_of h) = d ∙ ap (λ (x : Slots). contents_of memory x.classes rows) g ∙ ap (contents_of memory h.classes) r in
    let broken_are : broken ≡ broken_of (slots_of h) memory (canary_in h) = b ∙ ap (λ (x : Slots). broken_of x memory (canary_of seed)) g ∙ ap (λ (n : ℕ). broken_of (slots_of h) memory (canary_of n)) s in
    ap (λ (x : ℕ). snapshot tag x place clock patches minis rows contents broken) s
    ∙ ap (λ (x : ℕ). snapshot tag h.seed place x patches minis rows contents broken) c
    ∙ ap (λ (x : Table). snapshot tag h.seed place (clock_of h) x minis rows contents broken) p
    ∙ ap (λ (x : List ℕ). snapshot tag h.seed place (clock_of h) table x rows contents broken) minis_are
    ∙ ap (λ (x : List SlotRow). snapshot tag h.seed place (clock_of h) table h.classes x contents broken) r
    ∙ ap (λ (x : List ℕ). snapshot tag h.seed place (clock_of h) table h.classes (rows_of h) x broken) contents_are
    ∙ ap (λ (x : List Broken). snapshot tag h.seed place (clock_of h) table h.classes (rows_of h) (contents_of memory h.classes (rows_of h)) x) broken_are

-- what is refused needn't be anything
pub refused : {T E : Type 0} (Q : E → Type 0) (r : Result T E) (P : T → Type 0) → IsErrAnd r Q → IfOk r P
refused Q (Ok x) P h = absurd h
refused Q (Err e) P h = tt
