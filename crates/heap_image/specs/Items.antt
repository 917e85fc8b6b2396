-- Items of lists.
use Rattle.std.specs.Prelude.{◌≡◌, ◌⊎◌, List, [], ◌∷◌, ◌++◌}
use Rattle.std.specs.List.{AllByRecursion}
use Rattle.std.proofs.Common.{inl, inr, refl, subst}

-- a list has an item
abbrev pub Has : {X : Type 0} → List X → X → Type 0
Has [] y = ⊥
Has (x ∷ xs) y = (x ≡ y) ⊎ Has xs y

pub in_front : {X : Type 0} (xs ys : List X) (y : X) → Has xs y → Has (xs ++ ys) y
in_front [] ys y h = absurd h
in_front (x ∷ xs) ys y (inl e) = inl e
in_front (x ∷ xs) ys y (inr h) = inr (in_front xs ys y h)

pub behind : {X : Type 0} (xs ys : List X) (y : X) → Has ys y → Has (xs ++ ys) y
behind [] ys y h = h
behind (x ∷ xs) ys y h = inr (behind xs ys y h)

pub in_either : {X : Type 0} (xs ys : List X) (y : X) → Has (xs ++ ys) y → Has xs y ⊎ Has ys y
in_either [] ys y h = inr h
in_either (x ∷ xs) ys y (inl e) = inl (inl e)
in_either (x ∷ xs) ys y (inr h) = either (in_either xs ys y h)
  where
    either : Has xs y ⊎ Has ys y → Has (x ∷ xs) y ⊎ Has ys y
    either (inl a) = inl (inr a)
    either (inr b) = inr b

pub of_all : {X : Type 0} (P : X → Type 0) (xs : List X) (x : X) → AllByRecursion P xs → Has xs x → P x
of_all P [] x all h = absurd h
of_all P (a ∷ xs) x all (inl e) = subst P e all.0
of_all P (a ∷ xs) x all (inr h) = of_all P xs x all.1 h

pub all_of : {X : Type 0} (P : X → Type 0) (xs : List X) → ((x : X) → Has xs x → P x) → AllByRecursion P xs
all_of P [] f = tt
all_of P (x ∷ xs) f = (f x (inl refl), all_of P xs (λ y h. f y (inr h)))
