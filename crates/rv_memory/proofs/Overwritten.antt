-- A list with a part of it written over, and a part that is read.
use Rattle.std.proofs.Common.{◌≡◌, ℕ, ◌+◌, ◌-◌, ◌<◌, ◌≤◌, Bool, true, false, cond, nat_lt, List, ◌++◌, length, get_or, take, drop, refl, sym, ap, ◌∙◌, arith}
use Rattle.std.proofs.lemmas.List.{get_or-take, get_or-drop, get_or-append_right, get_or_append_left, length-take-le}
use Rattle.std.proofs.lemmas.Bool.Decides.{nat_tests}
use borrow.Rule.Slice.PartMut.{put_mid, post_of}
use Rattle.rv_memory.specs.Memory.{within}

put-below : (a k place : ℕ) (xs ys : List ℕ) → a ≤ length xs → place < a → get_or (put_mid a k xs ys) place 0 ≡ get_or xs place 0
put-below a k place xs ys ends below =
    let front : length (take a xs) ≡ a = length-take-le a xs ends in
    get_or_append_left (take a xs) (ys ++ post_of a k xs) 0 place (omega arith) ∙ get_or-take a xs place 0 below

put-at : (a k place : ℕ) (xs ys : List ℕ) → a ≤ length xs → a ≤ place → place < a + length ys → get_or (put_mid a k xs ys) place 0 ≡ get_or ys (place - a) 0
put-at a k place xs ys ends from below =
    let front : length (take a xs) ≡ a = length-take-le a xs ends in
    get_or-append_right (take a xs) (ys ++ post_of a k xs) a place 0 front from ∙ get_or_append_left ys (post_of a k xs) 0 (place - a) (omega arith)

put-above : (a k place : ℕ) (xs ys : List ℕ) → a ≤ length xs → k ≡ length ys → a + k ≤ place → get_or (put_mid a k xs ys) place 0 ≡ get_or xs place 0
put-above a k place xs ys ends same above =
    let front : length (take a xs) ≡ a = length-take-le a xs ends in
    let spot : a + (k + (place - a - k)) ≡ place = omega arith in
    get_or-append_right (take a xs) (ys ++ post_of a k xs) a place 0 front (omega arith) ∙ get_or-append_right ys (post_of a k xs) k (place - a) 0 (sym same) (omega arith)
    ∙ get_or-drop k (drop a xs) (place - a - k) 0 ∙ get_or-drop a xs (k + (place - a - k)) 0 ∙ ap (λ p. get_or xs p 0) spot

put-by : (a k n place : ℕ) (xs ys : List ℕ) (f : ℕ → ℕ) → k ≡ n → length ys ≡ n → a + n ≤ length xs → ((j : ℕ) → j < n → get_or ys j 0 ≡ f j) → (b : Bool) → nat_lt place a ≡ b → (e : Bool) → nat_lt place (a + n) ≡ e → get_or (put_mid a k xs ys) place 0 ≡ cond (within a n place) (f (place - a)) (get_or xs place 0)
put-by a k n place xs ys f same len ends each true below e past =
    let out : within a n place ≡ false = grind (arith, nat_tests) in
    rw out (put-below a k place xs ys (omega arith) (grind (arith, nat_tests)))
put-by a k n place xs ys f same len ends each false above true inside =
    let here : within a n place ≡ true = grind (arith, nat_tests) in
    let start : a ≤ place = grind (arith, nat_tests) in
    let below : place < a + n = grind (arith, nat_tests) in
    rw here (put-at a k place xs ys (omega arith) start (omega arith) ∙ each (place - a) (omega arith))
put-by a k n place xs ys f same len ends each false above false past =
    let out : within a n place ≡ false = grind (arith, nat_tests) in
    rw out (put-above a k place xs ys (omega arith) (same ∙ sym len) (grind (arith, nat_tests)))

-- each item after a part was written over
pub get_or-put : (a k n place : ℕ) (xs ys : List ℕ) (f : ℕ → ℕ) → k ≡ n → length ys ≡ n → a + n ≤ length xs → ((j : ℕ) → j < n → get_or ys j 0 ≡ f j) → get_or (put_mid a k xs ys) place 0 ≡ cond (within a n place) (f (place - a)) (get_or xs place 0)
get_or-put a k n place xs ys f same len ends each = put-by a k n place xs ys f same len ends each (nat_lt place a) refl (nat_lt place (a + n)) refl

-- each item of a part that is read
pub get_or-part : (a n j : ℕ) (xs : List ℕ) → j < n → get_or (take n (drop a xs)) j 0 ≡ get_or xs (a + j) 0
get_or-part a n j xs low = get_or-take n (drop a xs) j 0 low ∙ get_or-drop a xs j 0
