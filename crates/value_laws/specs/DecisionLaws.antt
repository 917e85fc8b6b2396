-- What holds of decided orders and equalities.
use Rattle.std.specs.Prelude.{ℕ, ◌≡◌, ◌<◌, ◌^◌, IfSome, Bool, nat_lt, nat_eq, int_lt}
use Rattle.std.specs.declared.option.Option.{Option}
use Rattle.infinite_heap.specs.declared.value.Value.{Value}
use Rattle.infinite_heap.specs.Alu.{signed}
use Rattle.infinite_heap.specs.Order.{below, below_signed}
use Rattle.infinite_heap.specs.Equality.{Decision, same, touches}
use Rattle.infinite_heap.specs.Layout.{Layout, IsAligned, IsLayout, Stands, AllHarmless}

-- Where the unsigned order of two values is decided, it is that of their words.
abbrev pub OrderHolds : Type 0
OrderHolds = (l : Layout) → IsAligned l → (x y : Value) (a b : ℕ) → a < 2 ^ 32 → b < 2 ^ 32 → Stands l x a → Stands l y b → IfSome (below x y) (λ t. t ≡ nat_lt a b)

-- Where the signed order of two values is decided, it is that of their words.
abbrev pub SignedOrderHolds : Type 0
SignedOrderHolds = (l : Layout) → IsAligned l → (x y : Value) (a b : ℕ) → a < 2 ^ 32 → b < 2 ^ 32 → Stands l x a → Stands l y b → IfSome (below_signed x y) (λ t. t ≡ int_lt (signed a) (signed b))

-- the answer is b, where what it records is harmless
abbrev pub DecisionHolds : Layout → ℕ → ℕ → Option Decision → Bool → Type 0
DecisionHolds l clock pc o b = IfSome o (λ d. AllHarmless l (touches clock pc d.looks) → d.answer ≡ b)

-- Where the equality of two values is decided and what it records is harmless, it is that of their words.
abbrev pub EqualityHolds : Type 0
EqualityHolds = (l : Layout) → IsLayout l → (sizes : ℕ → ℕ) (x y : Value) (a b clock pc : ℕ) → Stands l x a → Stands l y b → DecisionHolds l clock pc (same sizes x y) (nat_eq a b)
