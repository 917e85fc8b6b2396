-- The order of headers is that of their segments.
use Rattle.std.proofs.Common.{◌≡◌, ℕ, ◌+◌, ◌<◌, true, false, List, map, length, get_or, ap, arith}
use Rattle.std.specs.List.{All}
use Rattle.std.specs.List.Sorted.{IsPermutation, IsNonDecreasingBy}
use Rattle.std.proofs.lemmas.List.{get_or-map, length-map}
use Rattle.std.proofs.lemmas.List.Sorted.{IsPermutation-map, All-permutation}
use Rattle.infinite_heap.specs.declared.program.Segment.{Segment}
use Rattle.elf_load.specs.declared.header.ProgramHeader.{ProgramHeader}
use Rattle.elf_load.specs.Headers.{segment_of}
use Rattle.elf_load.specs.Order.{nowhere, Chained, Meets, InOrder}
use Rattle.elf_load.proofs.Pairs.{ChainedSegments, none_meet, meeting}
use Rattle.elf_load.proofs.Ordered.{is_by_address}

abbrev pub segs : List ℕ → List ProgramHeader → List Segment
segs file hs = map (segment_of file) hs

at : (file : List ℕ) (hs : List ProgramHeader) (k : ℕ) (d : Segment) → k < length hs → get_or (segs file hs) k d ≡ segment_of file (get_or hs k nowhere)
at file hs k d lt = get_or-map (segment_of file) hs k nowhere d lt

from_at : (file : List ℕ) (hs : List ProgramHeader) (k : ℕ) (d : Segment) → k < length hs → (get_or (segs file hs) k d).from ≡ (get_or hs k nowhere).from
from_at file hs k d lt = ap (λ (s : Segment). s.from) (at file hs k d lt)

len_at : (file : List ℕ) (hs : List ProgramHeader) (k : ℕ) (d : Segment) → k < length hs → (get_or (segs file hs) k d).len ≡ (get_or hs k nowhere).len
len_at file hs k d lt = ap (λ (s : Segment). s.len) (at file hs k d lt)

chained : (file : List ℕ) (hs : List ProgramHeader) → Chained hs (length hs) → ChainedSegments (segs file hs) (length (segs file hs))
chained file hs h = record {
  at = λ k d lt.
      let n = length-map hs (segment_of file) in
      let here : k < length hs = omega arith in
      let there : k + 1 < length hs = omega arith in
      let a = from_at file hs k d here in
      let b = len_at file hs k d here in
      let e = from_at file hs (k + 1) d there in
      omega (arith, h.at k there);
}

rises : (file : List ℕ) (hs : List ProgramHeader) → IsNonDecreasingBy (λ h. h.from) hs → IsNonDecreasingBy (λ s. s.from) (segs file hs)
rises file hs h = λ i j d le lt.
    let n = length-map hs (segment_of file) in
    let here : i < length hs = omega arith in
    let there : j < length hs = omega arith in
    let a = from_at file hs i d here in
    let b = from_at file hs j d there in
    omega (arith, h i j nowhere le there)

some : (file : List ℕ) (hs : List ProgramHeader) → All (λ h. 0 < h.len) hs → All (λ s. 0 < s.len) (segs file hs)
some file hs h = λ k d lt.
    let n = length-map hs (segment_of file) in
    let here : k < length hs = omega arith in
    let b = len_at file hs k d here in
    omega (arith, h k nowhere here)

pub in_order : (file : List ℕ) (xs ys : List ProgramHeader) → IsPermutation xs ys → IsNonDecreasingBy (λ h. h.from) ys → All (λ h. 0 < h.len) xs → Chained ys (length ys) → InOrder (segs file xs) (segs file ys) true
in_order file xs ys perm up pos h =
    let moved = IsPermutation-map (segment_of file) xs ys perm in
    let apart = none_meet (segs file xs) (segs file ys) moved (rises file ys up) (chained file ys h) in
    (apart, is_by_address (segs file xs) (segs file ys) moved (some file xs pos) (chained file ys h) apart)

pub out_of_order : (file : List ℕ) (xs ys : List ProgramHeader) → IsPermutation xs ys → IsNonDecreasingBy (λ h. h.from) ys → All (λ h. 0 < h.len) xs → Meets ys → InOrder (segs file xs) (segs file ys) false
out_of_order file xs ys perm up pos m =
    let n = length-map ys (segment_of file) in
    let d : Segment = segment_of file nowhere in
    let here : m.place < length ys = omega (arith, m.inside) in
    let a = from_at file ys m.place d here in
    let b = from_at file ys (m.place + 1) d m.inside in
    let c = len_at file ys m.place d here in
    let e = len_at file ys (m.place + 1) d m.inside in
    let rise = up m.place (m.place + 1) nowhere (omega arith) m.inside in
    let pos_ys = All-permutation (λ h. 0 < h.len) xs ys perm pos in
    let long = pos_ys (m.place + 1) nowhere m.inside in
    let over = m.meet in
    meeting (segs file xs) (segs file ys) m.place d (IsPermutation-map (segment_of file) xs ys perm) (omega (arith, m.inside)) (omega arith) (omega arith) (omega arith)
