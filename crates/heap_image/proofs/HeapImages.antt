-- The image of a heap keeps the rules of every image.
use Rattle.std.proofs.Common.{◌≡◌, ℕ, ◌≤◌, ap, ◌∙◌, arith, Bool, true, false, cond, List, [], ◌∷◌, length, filter, Option, Some, None}
use Rattle.std.specs.List.{filter_map, cons_option, range_with_len, sum_by}
use Rattle.std.proofs.lemmas.List.{length-map}
use Rattle.std.proofs.lemmas.List.Concat.{length-flat_map}
use Rattle.std.proofs.lemmas.List.FromFn.{length-map-range_with_len, length-range_with_len}
use mathlib.Core.Path.{fun_ext}
use Rattle.rv_memory.specs.Memory.{Memory}
use Rattle.miniheap.specs.Laws.{SlotsAreAtPlaces, SlotsFollow, SlotsAreFew}
use Rattle.miniheap.specs.Layout.{heap_from, minis, all_slots}
use Rattle.miniheap.specs.Slots.{Slots, used_of}
use Rattle.exact_heap.specs.declared.row.SlotRow.{SlotRow}
use Rattle.exact_heap.specs.History.{History, slots_of, canary_in}
use Rattle.exact_heap.specs.Laws.{ObjectsAreTimed}
use Rattle.exact_heap.specs.Placing.{byte_at}
use Rattle.exact_heap.specs.Rows.{row_at, rows_of}
use Rattle.heap_image.specs.Rules.{content_bytes, contents_len}
use Rattle.heap_image.specs.Laws.{HeapImagesAreLawful}
use Rattle.heap_image.specs.Taken.{row_contents, contents_of, is_broken_in, broken_at, broken_of}
use Rattle.heap_image.proofs.Classes.{are_miniheaps, few_miniheaps}
use Rattle.heap_image.proofs.HeapRows.{rows_fit}
use Rattle.heap_image.proofs.HeapBreaks.{broken_fit}

contents_length : (memory : Memory) (classes : List ℕ) (rows : List SlotRow) → length (contents_of memory classes rows) ≡ contents_len classes rows
unfolding contents_of
contents_length memory classes rows =
    length-flat_map (row_contents memory classes) rows ∙ ap (λ (f : SlotRow → ℕ). sum_by f rows) (fun_ext (λ (r : SlotRow). length-map-range_with_len (byte_at memory) r.addr (content_bytes classes r)))

few_chosen : {X Y : Type 0} (f : X → Option Y) (xs : List X) → length (filter_map f xs) ≤ length xs
few_chosen {Y = Y} f [] = omega arith
few_chosen {Y = Y} f (x ∷ xs) = at (f x) (few_chosen f xs)
  where
    at : (o : Option Y) → length (filter_map f xs) ≤ length xs → length (cons_option o (filter_map f xs)) ≤ length (x ∷ xs)
    at None k = omega (arith, k)
    at (Some y) k = omega (arith, k)

few_passed : (test : ℕ → Bool) (xs : List ℕ) → length (filter test xs) ≤ length xs
few_passed test [] = omega arith
few_passed test (x ∷ xs) = at (test x) (few_passed test xs)
  where
    at : (b : Bool) → length (filter test xs) ≤ length xs → length (cond b (x ∷ filter test xs) (filter test xs)) ≤ length (x ∷ xs)
    at true k = omega (arith, k)
    at false k = omega (arith, k)

few_rows : SlotsAreFew → (h : History) → length (rows_of h) ≤ used_of (slots_of h)
unfolding rows_of
few_rows few h = let k = few_chosen (row_at h) (all_slots (minis h.classes)) in let n = few (slots_of h) in omega (arith, k, n)

few_broken : (s : Slots) (memory : Memory) (word : ℕ) → length (broken_of s memory word) ≤ used_of s
unfolding broken_of
few_broken s memory word =
    let k = few_passed (is_broken_in s memory word) (range_with_len heap_from (used_of s)) in
    let n = length-range_with_len heap_from (used_of s) in
    let m = length-map (filter (is_broken_in s memory word) (range_with_len heap_from (used_of s))) (broken_at memory) in
    omega (arith, k, n, m)

pub heap_images_are_lawful : SlotsAreAtPlaces → SlotsFollow → SlotsAreFew → ObjectsAreTimed → HeapImagesAreLawful
heap_images_are_lawful places follow few timed tag patches place s small known k =
    let order = k.lawful.in_order in
    record {
      tag = small;
      seed = k.seed;
      place = known;
      clock = k.clock;
      miniheaps = are_miniheaps s.history.classes order.in_classes order.in_limit;
      rows = rows_fit places follow timed s.history k.lawful k.rows;
      contents = contents_length s.memory s.history.classes (rows_of s.history);
      broken = broken_fit places s.history s.memory k.bounded k.mapped order.in_limit;
      miniheap_count = omega (arith, few_miniheaps s.history.classes, order.in_limit);
      row_count = omega (arith, few_rows few s.history, order.in_limit);
      broken_count = let n = few_broken (slots_of s.history) s.memory (canary_in s.history) in omega (arith, n, order.in_limit);
    }
