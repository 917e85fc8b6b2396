-- The reach of objects.
use Rattle.std.proofs.Common.{ℕ, zero, suc, ◌+◌, ◌*◌, ◌^◌, ◌<◌, ◌≤◌, ◌≡◌, ◌⊎◌, inl, inr, max, Bool, true, false, cond, nat_le, refl, subst, arith}
use Rattle.std.proofs.Math.Nat.{two-pow-succ}
use Rattle.std.proofs.Math.Pow.{pow_mono}
use Rattle.std.proofs.lemmas.Bool.Decides.{nat_tests}
use Rattle.infinite_heap.specs.Covered.{power_from}
use Rattle.value_laws.specs.PatchLaws.{ReachIsLeast}

-- as many doublings as are wanting are enough
enough-from : (power need n : ℕ) → 1 ≤ power → need ≤ power + n → need ≤ power_from power need n
unfolding power_from
enough-from power need zero one h = omega arith
enough-from power need (suc n) one h = go (nat_le need power) (λ e. grind (arith, nat_tests)) (enough-from (2 * power) need n (omega arith) (omega arith))
  where
    go : (b : Bool) → (b ≡ true → need ≤ power) → need ≤ power_from (2 * power) need n → need ≤ cond b power (power_from (2 * power) need n)
    go true f r = f refl
    go false f r = r

-- r is a power of two, from 2 ^ from on, and no lesser one is at least the need
record IsFrom (from need r : ℕ) : Type 0 where
  power : (c : ℕ) × (from ≤ c) × (r ≡ 2 ^ c)
  least : (c : ℕ) → from ≤ c → need ≤ 2 ^ c → r ≤ 2 ^ c

here : (from need : ℕ) → IsFrom from need (2 ^ from)
here from need = record { power = (from, omega arith, refl); least = λ c h k. pow_mono h }

later : (from need r : ℕ) → 2 ^ from < need → IsFrom (suc from) need r → IsFrom from need r
later from need r above f = record {
  power = (f.power.0, omega (arith, f.power.1), f.power.2);
  least = λ c h k. go c k (split c h);
}
  where
    split : (c : ℕ) → from ≤ c → (c ≡ from) ⊎ (suc from ≤ c)
    split c h = grind arith

    go : (c : ℕ) → need ≤ 2 ^ c → (c ≡ from) ⊎ (suc from ≤ c) → r ≤ 2 ^ c
    go c k (inl e) = let w : need ≤ 2 ^ from = subst (λ (x : ℕ). need ≤ 2 ^ x) e k in absurd (omega arith)
    go c k (inr h) = f.least c h k

is-from : (from need n : ℕ) → IsFrom from need (power_from (2 ^ from) need n)
unfolding power_from
is-from from need zero = here from need
is-from from need (suc n) = go (nat_le need (2 ^ from)) (λ e. grind (arith, nat_tests)) (subst (λ (x : ℕ). IsFrom (suc from) need (power_from x need n)) doubled (is-from (suc from) need n))
  where
    doubled : 2 ^ suc from ≡ 2 * 2 ^ from
    doubled = omega (arith, two-pow-succ from)

    go : (b : Bool) → (b ≡ false → 2 ^ from < need) → IsFrom (suc from) need (power_from (2 * 2 ^ from) need n) → IsFrom from need (cond b (2 ^ from) (power_from (2 * 2 ^ from) need n))
    go true f r = here from need
    go false f r = later from need (power_from (2 * 2 ^ from) need n) (f refl) r

pub reach_is_least : ReachIsLeast 4
reach_is_least cures object =
    let f = is-from 4 (max 1 (object.size + cures.pad object.site)) (object.size + cures.pad object.site) in
    record {
      power = f.power;
      enough = enough-from 16 (max 1 (object.size + cures.pad object.site)) (object.size + cures.pad object.site) (omega arith) (omega arith);
      least = f.least;
    }
