-- Bytes that are written in several calls.
use Rattle.std.proofs.Common.{◌≡◌, ℕ, Bool, true, false, List, [], ◌++◌, take, drop, Option, refl, sym, ◌∙◌, ap, subst, append_assoc, append-nil}
use Rattle.std.proofs.KnownBytes.{Appends-kept, Appends-nil, Appends-trans}
use Rattle.std.proofs.lemmas.List.{take-append-drop}
use Rattle.std.specs.Io.KnownBytes.{Appends, Keeps}
use Rattle.std.specs.Bool.{MatchBool}
use Rattle.ex_io.specs.Causes.{AppendsFront}

-- a front of the bytes was appended, and the rest is left
pub record IsSoFar (old new : Option (List ℕ)) (bytes rest : List ℕ) : Type 0 where
  pub front : List ℕ
  pub whole : bytes ≡ front ++ rest
  pub grown : Appends old new front

pub so_far-none : (held : Option (List ℕ)) (bytes : List ℕ) → IsSoFar held held bytes bytes
so_far-none held bytes = record { front = []; whole = refl; grown = Appends-nil held }

pub so_far-more : (old mid new : Option (List ℕ)) (bytes rest : List ℕ) (n : ℕ) → IsSoFar old mid bytes rest → Appends mid new (take n rest) → IsSoFar old new bytes (drop n rest)
so_far-more old mid new bytes rest n far more = record {
  front = far.front ++ take n rest;
  whole = far.whole ∙ ap (λ (r : List ℕ). far.front ++ r) (sym (take-append-drop n rest)) ∙ sym (append_assoc far.front (take n rest) (drop n rest));
  grown = Appends-trans old mid new far.front (take n rest) far.grown more;
}

pub so_far-kept : (old mid new : Option (List ℕ)) (bytes rest : List ℕ) → IsSoFar old mid bytes rest → Keeps mid new → AppendsFront old new bytes
so_far-kept old mid new bytes rest far kept = (far.front, (rest, far.whole), Appends-kept old mid new far.front far.grown kept)

pub so_far-front : (old mid new : Option (List ℕ)) (bytes rest : List ℕ) (n : ℕ) → IsSoFar old mid bytes rest → Appends mid new (take n rest) → AppendsFront old new bytes
so_far-front old mid new bytes rest n far more = let next = so_far-more old mid new bytes rest n far more in (next.front, (drop n rest, next.whole), next.grown)

-- nothing is left
pub so_far-done : (old mid new : Option (List ℕ)) (bytes rest : List ℕ) (test : Bool) → IsSoFar old mid bytes rest → rest ≡ [] → Keeps mid new → MatchBool test (Appends old new bytes) (AppendsFront old new bytes)
so_far-done old mid new bytes rest true far none kept =
    let whole : far.front ≡ bytes = sym (far.whole ∙ ap (λ (r : List ℕ). far.front ++ r) none ∙ append-nil far.front) in
    subst (λ (b : List ℕ). Appends old new b) whole (Appends-kept old mid new far.front far.grown kept)
so_far-done old mid new bytes rest false far none kept = so_far-kept old mid new bytes rest far kept
