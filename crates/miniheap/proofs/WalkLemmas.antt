-- From slot to slot through the whole heap.
use Rattle.std.proofs.Common.{◌≡◌, ℕ, zero, suc, ◌+◌, ◌*◌, ◌^◌, ◌<◌, refl, ap, sym, ◌∙◌, subst, arith, List, [], ◌∷◌, ◌++◌, length, get_or, append_assoc, Some}
use Rattle.std.proofs.lemmas.List.{length-append}
use Rattle.std.proofs.lemmas.List.Sums.{sum_by-cons}
use Rattle.miniheap.specs.Laws.{IsWalk, SlotsFollow}
use Rattle.miniheap.specs.Layout.{Mini, mini_bytes, mini_end, heap_from, minis, mini_at, bytes_of, slots_from, all_slots}
use Rattle.miniheap.specs.Slots.{Slots, slot_at, nth_slot, end_of}
use Rattle.miniheap.proofs.LayoutLemmas.{Chain, minis_chain}
use Rattle.miniheap.proofs.SlotsLemmas.{nth_slot_at}

-- through one miniheap
walk_mini : (s : Slots) (i : ℕ) (rest : List ℕ) → i < length (minis s.classes) → IsWalk s (mini_end (mini_at (minis s.classes) i)) rest
    → (left k a : ℕ) → k + left ≡ (mini_at (minis s.classes) i).slots → a ≡ (mini_at (minis s.classes) i).base + k * 2 ^ (mini_at (minis s.classes) i).class
    → IsWalk s a (slots_from a (2 ^ (mini_at (minis s.classes) i).class) left ++ rest)
unfolding slots_from
walk_mini s i rest hi w zero k a e f =
    let m : Mini = mini_at (minis s.classes) i in
    let q : k ≡ m.slots = omega (arith, e) in
    subst (λ (x : ℕ). IsWalk s x rest) (sym (f ∙ ap (λ (n : ℕ). m.base + n * 2 ^ m.class) q)) w
walk_mini s i rest hi w (suc left) k a e f =
    let m : Mini = mini_at (minis s.classes) i in
    let found : slot_at s a ≡ Some (nth_slot s i k) = ap (slot_at s) f ∙ nth_slot_at s i k hi (omega (arith, e)) in
    let next : a + 2 ^ m.class ≡ m.base + (k + 1) * 2 ^ m.class = omega (arith, f) in
    (nth_slot s i k, found, sym f, refl, walk_mini s i rest hi w left (k + 1) (a + 2 ^ m.class) (omega (arith, e)) next)

at_end : (before : List Mini) (m : Mini) (after : List Mini) (d : Mini) → get_or (before ++ m ∷ after) (length before) d ≡ m
at_end [] m after d = refl
at_end (b ∷ before) m after d = at_end before m after d

-- through the miniheaps that are left
walk_minis : (s : Slots) (base : ℕ) (before ms : List Mini) → minis s.classes ≡ before ++ ms → Chain base ms → base + bytes_of ms ≡ end_of s → IsWalk s base (all_slots ms)
walk_minis s base before [] e ch z = omega (arith, z)
walk_minis s base before (m ∷ ms) e ch z =
    let here : mini_at (minis s.classes) (length before) ≡ m = ap (λ (xs : List Mini). mini_at xs (length before)) e ∙ at_end before m ms _ in
    let known : length before < length (minis s.classes) = omega (arith, ap length e, length-append before (m ∷ ms)) in
    let rest : IsWalk s (mini_end m) (all_slots ms) = walk_minis s (mini_end m) (before ++ m ∷ []) ms (e ∙ sym (append_assoc before (m ∷ []) ms)) ch.1 (omega (arith, z, ch.0, sum_by-cons mini_bytes m ms)) in
    subst (λ (x : Mini). IsWalk s base (slots_from x.base (2 ^ x.class) x.slots ++ all_slots ms)) here
    (subst (λ (x : ℕ). IsWalk s base (slots_from x (2 ^ (mini_at (minis s.classes) (length before)).class) (mini_at (minis s.classes) (length before)).slots ++ all_slots ms)) (sym ch.0 ∙ sym (ap (λ (x : Mini). x.base) here))
    (walk_mini s (length before) (all_slots ms) known (subst (λ (x : Mini). IsWalk s (mini_end x) (all_slots ms)) (sym here) rest) (mini_at (minis s.classes) (length before)).slots 0 base (omega arith)
    (sym ch.0 ∙ ap (λ (x : Mini). x.base) (sym here) ∙ (let u : (mini_at (minis s.classes) (length before)).base ≡ (mini_at (minis s.classes) (length before)).base + 0 * 2 ^ (mini_at (minis s.classes) (length before)).class = omega arith in u))))

pub slots_follow : SlotsFollow
slots_follow s = walk_minis s heap_from [] (minis s.classes) refl (minis_chain s.classes) refl
