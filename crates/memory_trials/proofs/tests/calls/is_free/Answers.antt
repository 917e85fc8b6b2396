use Rattle.std.proofs.Common.{rules, arith, ◌≡◌, ◌≤◌, ◌<◌, ◌+◌, ◌^◌, ◌&&◌, ℕ, Bool, true, false, nat_le, Option, None, Some, is_some, is_none, refl, ◌∙◌, ap, subst, ◌⊎◌, ⊎_elim}
use Rattle.std.proofs.lemmas.Bool.Decides.{nat_tests}
use Rattle.rv_memory.specs.Memory.{Memory, is_lawful}
use Rattle.rv_memory.specs.Spaces.{memory_of}
use Rattle.rv_memory.specs.Laws.{from_each}
use Rattle.memory_trials.proofs.tests.calls.is_free.Goals as goal

free-by : (byte : Option ℕ) (b : Bool) → b ≡ true → b && (is_some byte && true) ≡ false → is_none byte ≡ true
free-by None b low is = refl
free-by (Some byte) b low is = absurd (let e : b && true ≡ false = is in let f : true && true ≡ false = subst (λ (c : Bool). c && true ≡ false) low e in cc)

free-byte : (memory : Memory) (a : ℕ) → a + 1 ≤ 2 ^ 32 → is_lawful memory a 1 false ≡ false → is_none (memory.bytes a) ≡ true
free-byte memory a low is = free-by (memory.bytes a) (nat_le (a + 1) (2 ^ 32)) (grind (arith, nat_tests)) is

below_or_here : (from i a : ℕ) → from ≤ a → a < from + (i + 1) → (a < from + i) ⊎ (a ≡ from + i)
below_or_here from i a low high = grind arith

pub loop-i-preserved : goal.loop-i-preserved
loop-i-preserved c = λ a low high.
    ⊎_elim (λ (below : a < c.args.from + c.loop-i.i). c.loop-i.invariant a low below)
    (λ (here : a ≡ c.args.from + c.loop-i.i). ap (λ b. is_none ((memory_of c.args.space.now).bytes b)) here ∙ free-byte (memory_of c.args.space.now) (c.args.from + c.loop-i.i) (omega arith) (search rules))
    (below_or_here c.args.from c.loop-i.i a low high)

pub returns : goal.returns
returns c = from_each (λ a. is_none ((memory_of c.args.space.now).bytes a)) c.args.from c.args.len (λ a low high. c.loop-i.invariant a low (omega arith))
