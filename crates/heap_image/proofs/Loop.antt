-- Items one after the other, as a loop reads them.
use Rattle.std.proofs.Common.{◌≡◌, ℕ, suc, ◌-◌, ◌+◌, ◌≤◌, ◌<◌, List, [], ◌∷◌, ◌++◌, Result, Ok, Err, refl, sym, ap, ◌∙◌, arith}
use Rattle.heap_image.specs.declared.refusal.ImageRefusal.{ImageRefusal}
use Rattle.heap_image.specs.declared.refusal.ImageRefusal.TheVariants as why
use Rattle.heap_image.specs.Steps.{Fails, Format, read_at, items_at}

pub goes_on : {X : Type 0} (whole : ℕ) (item : List X → Format X) (count i : ℕ) (earlier : List X) (bytes : List ℕ) (x : X) (after : List ℕ) (total : Result (List X × List ℕ) ImageRefusal) → i < count → read_at whole (item earlier) bytes ≡ Ok (x, after)
    → items_at whole item earlier (count - i) bytes ≡ total → items_at whole item (earlier ++ x ∷ []) (count - (i + 1)) after ≡ total
unfolding items_at
goes_on whole item count i earlier bytes x after total lt h so_far =
    let k : count - i ≡ suc (count - (i + 1)) = omega arith in
    let one : items_at whole item earlier (count - i) bytes ≡ items_at whole item (earlier ++ x ∷ []) (count - (i + 1)) after = rw (k, h) refl in
    sym one ∙ so_far

stops_at : {X : Type 0} (e : ImageRefusal) (whole : ℕ) (item : List X → Format X) (n : ℕ) (earlier : List X) (bytes : List ℕ) → read_at whole (item earlier) bytes ≡ Err e → items_at whole item earlier (suc n) bytes ≡ Err e
unfolding items_at
stops_at e whole item n earlier bytes h = rw h refl

one_left : (count i : ℕ) → i < count → count - i ≡ suc (count - (i + 1))
one_left count i lt = omega arith

fails_at : {X : Type 0} (e : ImageRefusal) (whole : ℕ) (item : List X → Format X) (count i : ℕ) (earlier : List X) (bytes : List ℕ) (total : Result (List X × List ℕ) ImageRefusal) → i < count → read_at whole (item earlier) bytes ≡ Err e
    → items_at whole item earlier (count - i) bytes ≡ total → total ≡ Err e
fails_at e whole item count i earlier bytes total lt h so_far = sym so_far ∙ ap (λ n. items_at whole item earlier n bytes) (one_left count i lt) ∙ stops_at e whole item (count - (i + 1)) earlier bytes h

pub ends : {X : Type 0} (e : ImageRefusal) (whole : ℕ) (item : List X → Format X) (count i : ℕ) (earlier : List X) (bytes : List ℕ) (total : Result (List X × List ℕ) ImageRefusal) → i < count → Fails e (read_at whole (item earlier) bytes)
    → items_at whole item earlier (count - i) bytes ≡ total → Fails e total
ends why.Memory whole item count i earlier bytes total lt h so_far = tt
ends why.Head whole item count i earlier bytes total lt h so_far = fails_at why.Head whole item count i earlier bytes total lt h so_far
ends why.Short whole item count i earlier bytes total lt h so_far = fails_at why.Short whole item count i earlier bytes total lt h so_far
ends (why.Bad at) whole item count i earlier bytes total lt h so_far = fails_at (why.Bad at) whole item count i earlier bytes total lt h so_far
ends why.Tail whole item count i earlier bytes total lt h so_far = fails_at why.Tail whole item count i earlier bytes total lt h so_far

pub is_done : {X : Type 0} (whole : ℕ) (item : List X → Format X) (count i : ℕ) (earlier : List X) (bytes : List ℕ) (total : Result (List X × List ℕ) ImageRefusal) → count ≤ i → items_at whole item earlier (count - i) bytes ≡ total → total ≡ Ok (earlier, bytes)
unfolding items_at
is_done whole item count i earlier bytes total le so_far =
    let k : count - i ≡ 0 = omega arith in
    let one : items_at whole item earlier (count - i) bytes ≡ Ok (earlier, bytes) = rw k refl in
    sym so_far ∙ one
