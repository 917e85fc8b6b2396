-- Heap functions by address rise.
use Rattle.std.proofs.Common.{◌≡◌, ℕ, zero, suc, ◌<◌, true, false, cond, ltb, eqb, List, [], ◌∷◌, length, get_or, refl, arith}
use Rattle.std.specs.List.{AllPairs, AllByRecursion}
use Rattle.std.proofs.lemmas.Bool.Decides.{nat_tests}
use Rattle.infinite_heap.specs.declared.program.HeapName.{HeapName}
use Rattle.infinite_heap.specs.ElfSymbols.{put, by_address}

abbrev Rising : List HeapName → Type 0
Rising [] = Unit {0}
Rising (n ∷ ns) = AllByRecursion (λ m. n.at < m.at) ns × Rising ns

all_put : (a : ℕ) (n : HeapName) (ns : List HeapName) → a < n.at → AllByRecursion (λ m. a < m.at) ns → AllByRecursion (λ m. a < m.at) (put n ns)
all_put a n [] p h = (p, tt)
all_put a n (m ∷ ms) p h =
    elim (ltb n.at m.at) as (λ b. AllByRecursion (λ m. a < m.at) (cond b (n ∷ m ∷ ms) (cond (eqb n.at m.at) (n ∷ ms) (m ∷ put n ms)))) [
      | true ↦ (p, h)
      | false ↦ elim (eqb n.at m.at) as (λ b. AllByRecursion (λ m. a < m.at) (cond b (n ∷ ms) (m ∷ put n ms))) [
        | true ↦ (p, h.1)
        | false ↦ (h.0, all_put a n ms p h.1)
      ]
    ]

further : (a b : ℕ) (ns : List HeapName) → a < b → AllByRecursion (λ m. b < m.at) ns → AllByRecursion (λ m. a < m.at) ns
further a b [] lt h = tt
further a b (n ∷ ns) lt h = (omega (arith, h.0), further a b ns lt h.1)

below : (a b : ℕ) → ltb a b ≡ true → a < b
below a b e = grind (arith, nat_tests)

above : (a b : ℕ) → ltb a b ≡ false → eqb a b ≡ false → b < a
above a b e q = grind (arith, nat_tests)

equal : (a b : ℕ) → eqb a b ≡ true → b ≡ a
equal a b e = grind (arith, nat_tests)

at_same : (a b : ℕ) (ns : List HeapName) → b ≡ a → AllByRecursion (λ m. b < m.at) ns → AllByRecursion (λ m. a < m.at) ns
at_same a b [] e h = tt
at_same a b (n ∷ ns) e h = (omega (arith, h.0), at_same a b ns e h.1)

rising_put : (n : HeapName) (ns : List HeapName) → Rising ns → Rising (put n ns)
rising_put n [] h = (tt, tt)
rising_put n (m ∷ ms) h =
    elim (ltb n.at m.at) as (λ b. ltb n.at m.at ≡ b → Rising (cond b (n ∷ m ∷ ms) (cond (eqb n.at m.at) (n ∷ ms) (m ∷ put n ms)))) [
      | true ↦ λ e. ((below n.at m.at e, further n.at m.at ms (below n.at m.at e) h.0), h)
      | false ↦ λ e. elim (eqb n.at m.at) as (λ b. eqb n.at m.at ≡ b → Rising (cond b (n ∷ ms) (m ∷ put n ms))) [
        | true ↦ λ q. (at_same n.at m.at ms (equal n.at m.at q) h.0, h.1)
        | false ↦ λ q. (all_put m.at n ms (above n.at m.at e q) h.0, rising_put n ms h.1)
      ] refl
    ] refl

rising : (ns : List HeapName) → Rising (by_address ns)
rising [] = tt
rising (n ∷ ns) = rising_put n (by_address ns) (rising ns)

first_below : (a : ℕ) (ns : List HeapName) (j : ℕ) (d : HeapName) → AllByRecursion (λ m. a < m.at) ns → j < length ns → a < (get_or ns j d).at
first_below a [] j d h lt = absurd (omega arith)
first_below a (n ∷ ns) zero d h lt = h.0
first_below a (n ∷ ns) (suc j) d h lt = first_below a ns j d h.1 (omega arith)

pair_at : (n : HeapName) (ns : List HeapName) → AllByRecursion (λ m. n.at < m.at) ns → AllPairs (λ m n. m.at < n.at) ns → (i j : ℕ) (d : HeapName) → i < j → j < length (n ∷ ns) → (get_or (n ∷ ns) i d).at < (get_or (n ∷ ns) j d).at
pair_at n ns first rest zero zero d lt bj = absurd (omega arith)
pair_at n ns first rest zero (suc j) d lt bj = first_below n.at ns j d first (omega arith)
pair_at n ns first rest (suc i) zero d lt bj = absurd (omega arith)
pair_at n ns first rest (suc i) (suc j) d lt bj = rest i j d (omega arith) (omega arith)

pairs : (ns : List HeapName) → Rising ns → AllPairs (λ m n. m.at < n.at) ns
pairs [] h = λ i j d lt bj. absurd (omega arith)
pairs (n ∷ ns) h = pair_at n ns h.0 (pairs ns h.1)

pub names_rise : (ns : List HeapName) → AllPairs (λ m n. m.at < n.at) (by_address ns)
names_rise ns = pairs (by_address ns) (rising ns)
