-- The lines of miniheaps, one after the other, and what an image's classes are.
use Rattle.std.proofs.Common.{◌≡◌, ℕ, zero, suc, ◌+◌, ◌<◌, ◌≤◌, nat_le, Bool, true, ◌&&◌, List, [], ◌∷◌, ◌++◌, length, get_or, drop, refl, sym, ap, ◌∙◌, arith, append_assoc, append-nil, drop-cons}
use Rattle.std.proofs.lemmas.Bool.Decides.{nat_tests}
use Rattle.std.proofs.lemmas.List.{nil_from_length}
use Rattle.std.proofs.Common.{length-drop, add-one}
use Rattle.miniheap.specs.Layout.{Mini, minis, minis_from, mini_at, mini_end, nth_mini, count_of, heap_from, heap_limit}
use Rattle.miniheap.specs.Places.{bytes_used, bytes_wanted}
use Rattle.heap_image.specs.Lawful.{Each, IsClass}
use Rattle.heap_image.specs.Listing.{mini_line, mini_lines}

length-minis_from : (earlier : List ℕ) (base : ℕ) (cs : List ℕ) → length (minis_from earlier base cs) ≡ length cs
length-minis_from earlier base [] = refl
length-minis_from earlier base (c ∷ cs) = ap suc (length-minis_from (earlier ++ c ∷ []) (mini_end (nth_mini c base (count_of c earlier))) cs)

pub length-minis : (cs : List ℕ) → length (minis cs) ≡ length cs
length-minis cs = length-minis_from [] heap_from cs

pub lines_go_on : (ms : List Mini) (i : ℕ) (out all : List ℕ) → i < length ms → out ++ mini_lines i (drop i ms) ≡ all → (out ++ mini_line i (mini_at ms i)) ++ mini_lines (i + 1) (drop (i + 1) ms) ≡ all
lines_go_on ms i out all lt h =
    let next : drop i ms ≡ mini_at ms i ∷ drop (suc i) ms = drop-cons ms i (record { class = 0; base = 0; slots = 0 }) (omega arith) in
    rw add-one (append_assoc out (mini_line i (mini_at ms i)) (mini_lines (suc i) (drop (suc i) ms)) ∙ sym (ap (λ (rest : List Mini). out ++ mini_lines i rest) next) ∙ h)

pub lines_end : (ms : List Mini) (i : ℕ) (out all : List ℕ) → length ms ≤ i → out ++ mini_lines i (drop i ms) ≡ all → out ≡ all
lines_end ms i out all le h =
    let none : drop i ms ≡ [] = nil_from_length (drop i ms) (omega (arith, length-drop i ms)) in
    sym (ap (λ (rest : List Mini). out ++ mini_lines i rest) none ∙ append-nil out) ∙ h

class_range : (c : ℕ) (b : Bool) → (nat_le 4 c && nat_le c 22 && b) ≡ true → (4 ≤ c) × (c ≤ 22)
class_range c b h = (least c b h, most c b h)
  where
    least : (c : ℕ) (b : Bool) → (nat_le 4 c && nat_le c 22 && b) ≡ true → 4 ≤ c
    least c b h = grind (arith, nat_tests)

    most : (c : ℕ) (b : Bool) → (nat_le 4 c && nat_le c 22 && b) ≡ true → c ≤ 22
    most c b h = grind (arith, nat_tests)

pub class_at : (earlier cs : List ℕ) → Each (IsClass 22) earlier cs → (k : ℕ) → k < length cs → (4 ≤ get_or cs k 0) × (get_or cs k 0 ≤ 22)
class_at earlier [] h k lt = absurd (omega arith)
class_at earlier (c ∷ cs) h zero lt = class_range c (nat_le (bytes_used earlier + bytes_wanted earlier c) heap_limit) h.0.fits
class_at earlier (c ∷ cs) h (suc k) lt = class_at (earlier ++ c ∷ []) cs h.1 k (omega arith)
