-- What a read leaves of the input.
use Rattle.std.proofs.Common.{arith, ◌≡◌, ℕ, Bool, ◌+◌, ◌-◌, true, false, cond, List, [], ◌∷◌, length, drop, max, Option, None, Some, IfSome, refl, sym, ◌∙◌, ap, subst}
use Rattle.std.proofs.lemmas.Bool.{true≢false}
use Rattle.std.proofs.Math.Seq.{drop-append_seam}
use Rattle.std.specs.Io.KnownBytes.{Consumes, prepend_known}
use Rattle.ex_io.specs.Tape.{HasAnswered, Track, InputStays, begins, input}

begins-kept : (track : Track) → track.keep ≡ true → begins track ≡ 0
begins-kept track keep = ap (λ b. cond b 0 track.high) keep

begins-none : (track : Track) → track.keep ≡ false → begins track ≡ track.high
begins-none track keep = ap (λ b. cond b 0 track.high) keep

-- all is kept
pub stays-kept : (old new : Track) (left left' : Option (List ℕ)) → old.keep ≡ true → new.keep ≡ true → IfSome (prepend_known old.kept left) (λ all. prepend_known new.kept left' ≡ Some all) → InputStays old new left left'
stays-kept old new left left' keep keep' stays =
    let first = begins-kept old keep in
    let then = begins-kept new keep' in
    let none : 0 ≡ begins new - begins old = omega (arith, first, then) in
    subst (λ n. IfSome (input old left) (λ all. input new left' ≡ Some (drop n all))) none stays

empty : (bytes : List ℕ) → length bytes ≡ 0 → bytes ≡ []
empty [] none = refl
empty (b ∷ bytes) none = absurd (omega (arith, none))

moves : (left left' : Option (List ℕ)) (part : List ℕ) → Consumes left left' part → IfSome (prepend_known [] left) (λ all. prepend_known [] left' ≡ Some (drop (length part) all))
moves None left' part moved = tt
moves (Some bytes) None part moved = absurd moved
moves (Some bytes) (Some rest) part moved = ap (λ (r : List ℕ). Some r) (sym (drop-append_seam part rest) ∙ ap (drop (length part)) (sym moved))

-- nothing is kept, and the bytes that were read are behind
pub stays-none : (old new : Track) (left left' : Option (List ℕ)) (part : List ℕ) → old.keep ≡ false → new.keep ≡ false → length old.kept ≡ 0 → length new.kept ≡ 0 → new.high ≡ max old.high (old.high + length part) → Consumes left left' part → InputStays old new left left'
stays-none old new left left' part keep keep' none none' high moved =
    let first = begins-none old keep in
    let then = begins-none new keep' in
    let count : length part ≡ begins new - begins old = omega (arith, first, then, high) in
    subst (λ n. IfSome (prepend_known old.kept left) (λ all. prepend_known new.kept left' ≡ Some (drop n all))) count
    (subst (λ bytes. IfSome (prepend_known bytes left) (λ all. prepend_known new.kept left' ≡ Some (drop (length part) all))) (sym (empty old.kept none))
    (subst (λ bytes. IfSome (prepend_known [] left) (λ all. prepend_known bytes left' ≡ Some (drop (length part) all))) (sym (empty new.kept none')) (moves left left' part moved)))

pub none-is-kept : (count high : ℕ) (keep refused : Bool) → keep ≡ false → HasAnswered count high keep refused → count ≡ 0
none-is-kept count high true refused is held = absurd (true≢false is)
none-is-kept count high false refused is held = held
