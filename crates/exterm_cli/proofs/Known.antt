-- Known bytes that grow.
use Rattle.std.proofs.Common.{ℕ, List, [], ◌++◌, Option, None, Some, IfSome, ◌≡◌, refl, sym, ◌∙◌, ap, append_assoc}
use Rattle.std.proofs.lemmas.List.{append-nil}
use Rattle.std.specs.Io.KnownBytes.{Appends}
use Rattle.ex_io.specs.Causes.{AppendsFront}

pub appends-none : (known : Option (List ℕ)) → Appends known known []
appends-none None = tt
appends-none (Some xs) = sym (append-nil xs)

pub front-none : (known : Option (List ℕ)) (bytes : List ℕ) → AppendsFront known known bytes
front-none known bytes = ([], (bytes, refl), appends-none known)

pub appends-appends : (old mid new : Option (List ℕ)) (xs ys : List ℕ) → Appends old mid xs → Appends mid new ys → Appends old new (xs ++ ys)
appends-appends None mid new xs ys one two = tt
appends-appends (Some old) None new xs ys one two = absurd one
appends-appends (Some old) (Some mid) None xs ys one two = absurd two
appends-appends (Some old) (Some mid) (Some new) xs ys one two = two ∙ ap (λ m. m ++ ys) one ∙ append_assoc old xs ys

-- all of them is a front of them
pub whole-front : (old new : Option (List ℕ)) (bytes : List ℕ) → Appends old new bytes → AppendsFront old new bytes
whole-front old new bytes grew = (bytes, ([], sym (append-nil bytes)), grew)

-- ---- for what may be told

pub mapped : {A : Type 0} (known : Option A) (P Q : A → Type 0) → ((a : A) → known ≡ Some a → P a → Q a) → IfSome known P → IfSome known Q
mapped None P Q each has = tt
mapped (Some a) P Q each has = each a refl has

pub each-some : {A : Type 0} (known : Option A) (Q : A → Type 0) → ((a : A) → known ≡ Some a → Q a) → IfSome known Q
each-some None Q each = tt
each-some (Some a) Q each = each a refl
