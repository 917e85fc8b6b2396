-- Items of a list of lists.
use Rattle.std.proofs.Common.{inl, inr, ◌⊎◌, List, [], ◌∷◌, refl, sym, subst}
use Rattle.std.specs.List.{flat_map}
use Rattle.heap_image.specs.Items.{Has, in_front, behind, in_either}

pub in_flat_map : {X Y : Type 0} (f : X → List Y) (xs : List X) (x : X) (y : Y) → Has xs x → Has (f x) y → Has (flat_map f xs) y
in_flat_map f [] x y h k = absurd h
in_flat_map f (a ∷ xs) x y (inl e) k = in_front (f a) (flat_map f xs) y (subst (λ z. Has (f z) y) (sym e) k)
in_flat_map f (a ∷ xs) x y (inr h) k = behind (f a) (flat_map f xs) y (in_flat_map f xs x y h k)

pub of_flat_map : {X Y : Type 0} (f : X → List Y) (xs : List X) (y : Y) → Has (flat_map f xs) y → (x : X) × Has xs x × Has (f x) y
of_flat_map f [] y h = absurd h
of_flat_map {X} f (a ∷ xs) y h = split (of_flat_map f xs y) (in_either (f a) (flat_map f xs) y h)
  where
    split : (Has (flat_map f xs) y → (x : X) × Has xs x × Has (f x) y) → Has (f a) y ⊎ Has (flat_map f xs) y → (x : X) × Has (a ∷ xs) x × Has (f x) y
    split more (inl k) = (a, inl refl, k)
    split more (inr k) = let r = more k in (r.0, inr r.1, r.2)
