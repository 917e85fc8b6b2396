-- Known bytes that grow.
use Rattle.std.proofs.Common.{◌≡◌, ◌≢◌, ℕ, true, List, [], ◌∷◌, ◌++◌, Option, None, Some, Result, Ok, Err, OnOk, is_ok, refl, sym, ◌∙◌, ap, append_assoc}
use Rattle.std.proofs.lemmas.Bool.{true≢false}
use Rattle.std.proofs.lemmas.List.{append-nil}
use Rattle.std.specs.Io.KnownBytes.{Appends}
use Rattle.ex_io.specs.Causes.{IsPrefix, AppendsFront}

pub appends-none : (known : Option (List ℕ)) → Appends known known []
appends-none None = tt
appends-none (Some xs) = sym (append-nil xs)

pub front-none : (known : Option (List ℕ)) (bytes : List ℕ) → AppendsFront known known bytes
front-none known bytes = ([], (bytes, refl), appends-none known)

pub appends-appends : (old mid new : Option (List ℕ)) (xs ys : List ℕ) → Appends old mid xs → Appends mid new ys → Appends old new (xs ++ ys)
appends-appends None mid new xs ys one two = tt
appends-appends (Some old) None new xs ys one two = absurd one
appends-appends (Some old) (Some mid) None xs ys one two = absurd two
appends-appends (Some old) (Some mid) (Some new) xs ys one two = two ∙ ap (λ m. m ++ ys) one ∙ append_assoc old xs ys

-- known bytes that grew, and then grew by a front
pub appends-front : (old mid new : Option (List ℕ)) (xs ys : List ℕ) → Appends old mid xs → AppendsFront mid new ys → AppendsFront old new (xs ++ ys)
appends-front old mid new xs ys one (front, (rest, is), two) = (xs ++ front, (rest, ap (λ y. xs ++ y) is ∙ sym (append_assoc xs front rest)), appends-appends old mid new xs front one two)

pub front-trans : (xs ys zs : List ℕ) → IsPrefix xs ys → IsPrefix ys zs → IsPrefix xs zs
front-trans xs ys zs (r, is) (s, js) = (r ++ s, js ∙ ap (λ y. y ++ s) is ∙ append_assoc xs r s)

-- a front of a front
pub front-wider : (old new : Option (List ℕ)) (xs ys : List ℕ) → AppendsFront old new xs → IsPrefix xs ys → AppendsFront old new ys
front-wider old new xs ys (front, short, grew) wide = (front, front-trans front xs ys short wide, grew)

-- all of them is a front of them
pub whole-front : (old new : Option (List ℕ)) (bytes : List ℕ) → Appends old new bytes → AppendsFront old new bytes
whole-front old new bytes grew = (bytes, ([], sym (append-nil bytes)), grew)

-- ---- lists that aren't empty

front-empty : (xs ys : List ℕ) → xs ++ ys ≡ [] → xs ≡ []
front-empty [] ys is = refl
front-empty (x ∷ xs) ys is = cc

rest-empty : (xs ys : List ℕ) → xs ++ ys ≡ [] → ys ≡ []
rest-empty [] ys is = is
rest-empty (x ∷ xs) ys is = cc

pub prefix-some : (xs ys : List ℕ) → IsPrefix xs ys → xs ≢ [] → ys ≢ []
prefix-some xs ys (rest, is) some = λ none. some (front-empty xs rest (sym is ∙ none))

pub append-some : (xs ys : List ℕ) → ys ≢ [] → xs ++ ys ≢ []
append-some xs ys some = λ none. some (rest-empty xs ys none)

-- ---- results

pub on-ok : {T E : Type 0} (r : Result T E) (P : Type 0) → is_ok r ≡ true → OnOk r P → P
on-ok (Ok x) P is holds = holds
on-ok (Err e) P is holds = absurd (true≢false (sym is))
