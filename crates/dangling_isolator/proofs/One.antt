-- What images show is one list.
use Rattle.std.proofs.Common.{◌≡◌, inl, inr, ℕ, zero, suc, ◌<◌, length, get_or, List, [], ◌∷◌, arith}
use Rattle.std.specs.List.{Contains}
use Rattle.culprits.specs.declared.found.Dangling.{Dangling}
use Rattle.culprits.specs.Laws.{RisingIsOne}
use Rattle.heap_image.specs.Items.{Has, of_all}
use Rattle.heap_image.specs.Snapshot.{Snapshot}
use Rattle.dangling_isolator.specs.Danglings.{AreDanglings, IsDangling}
use Rattle.dangling_isolator.specs.Laws.{ImagesHaveOneList}

contains_had : {X : Type 0} (xs : List X) (x : X) → Has xs x → Contains xs x
contains_had [] x h = absurd h
contains_had (y ∷ xs) x (inl same) = (0, omega arith, same)
contains_had (y ∷ xs) x (inr later) = let k = contains_had xs x later in (suc k.0, omega (arith, k.1), k.2)

has_at : {X : Type 0} (xs : List X) (at : ℕ) (x : X) → at < length xs → get_or xs at x ≡ x → Has xs x
has_at [] at x within is = absurd (omega arith)
has_at (y ∷ xs) zero x within is = inl is
has_at (y ∷ xs) (suc at) x within is = inr (has_at xs at x (omega arith) is)

there : (images : List Snapshot) (a b : List Dangling) → AreDanglings images a → AreDanglings images b → (d : Dangling) → Contains a d → Contains b d
there images a b p q d h = contains_had b d (q.all d (of_all (IsDangling images) a d p.each_is (has_at a h.0 d h.1 h.2)))

pub have_one : RisingIsOne (λ (d : Dangling). d.object) → ImagesHaveOneList
have_one one = λ images a b p q. one a b p.rising q.rising (λ d. (there images a b p q d, there images b a q p d))
