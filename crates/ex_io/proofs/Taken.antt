-- Bytes that a tape takes of its source.
use Rattle.std.proofs.Common.{arith, ◌≡◌, ◌≤◌, ◌<◌, ℕ, ◌+◌, ◌-◌, List, [], ◌++◌, length, Option, refl, sym, ◌∙◌, ap, append_assoc, append-nil, length-append}
use Rattle.std.proofs.KnownBytes.{Consumes-kept, Consumes-nil, Consumes-trans, Keeps-refl}
use Rattle.std.specs.Io.KnownBytes.{Consumes, Keeps}
use Rattle.ex_io.specs.Tape.{Fills, Grows, TakesAtMost}

pub fills-none : (bytes : List ℕ) (left : Option (List ℕ)) (wanted : ℕ) → Fills bytes bytes left left wanted
fills-none bytes left wanted = record { taken = []; grown = sym (append-nil bytes); moved = Consumes-nil left; enough = λ fits. fits; none = λ past. refl }

-- a piece more was taken
pub fills-more : (old mid piece : List ℕ) (left left' left'' : Option (List ℕ)) (wanted : ℕ) → Fills old mid left left' wanted → length mid < wanted → Consumes left' left'' piece → length piece ≤ wanted - length mid
    → Fills old (mid ++ piece) left left'' wanted
fills-more old mid piece left left' left'' wanted far room moved fits =
    let size : length mid ≡ length old + length far.taken = ap length far.grown ∙ length-append old far.taken in
    record {
      taken = far.taken ++ piece;
      grown = ap (λ (m : List ℕ). m ++ piece) far.grown ∙ append_assoc old far.taken piece;
      moved = Consumes-trans left left' left'' far.taken piece far.moved moved;
      enough = λ within. omega (arith, length-append mid piece);
      none = λ past. absurd (omega arith);
    }

at_most-of : (taken old new wanted : ℕ) → new ≡ old + taken → (wanted ≤ old → taken ≡ 0) → (old ≤ wanted → new ≤ wanted) → taken ≤ wanted - old
at_most-of taken old new wanted size past within = grind arith

-- a call that ends so took at most what was wanted
pub fills-at_most : (old new : List ℕ) (left left' left'' : Option (List ℕ)) (wanted : ℕ) → Fills old new left left' wanted → Keeps left' left'' → TakesAtMost left left'' (wanted - length old)
fills-at_most old new left left' left'' wanted far kept =
    let size : length new ≡ length old + length far.taken = ap length far.grown ∙ length-append old far.taken in
    (far.taken, Consumes-kept left left' left'' far.taken far.moved kept, at_most-of (length far.taken) (length old) (length new) wanted size (λ past. ap length (far.none past)) far.enough)

pub fills-grown : (old mid new : List ℕ) (left left' : Option (List ℕ)) (wanted : ℕ) → Fills old mid left left' wanted → new ≡ mid → Grows old new
fills-grown old mid new left left' wanted far is = (far.taken, is ∙ far.grown)

-- a piece was taken, and is lost
pub fills-lost : (old mid piece : List ℕ) (left left' left'' : Option (List ℕ)) (wanted : ℕ) → Fills old mid left left' wanted → length mid < wanted → Consumes left' left'' piece → length piece ≤ wanted - length mid
    → TakesAtMost left left'' (wanted - length old)
fills-lost old mid piece left left' left'' wanted far room moved fits =
    fills-at_most old (mid ++ piece) left left'' left'' wanted (fills-more old mid piece left left' left'' wanted far room moved fits) (Keeps-refl left'')
