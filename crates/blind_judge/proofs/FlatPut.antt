-- A cell that is put into flat memory.
use Rattle.std.proofs.Common.{◌≡◌, ℕ, ◌%◌, ◌^◌, ◌<◌, refl, sym, ap, ◌∙◌, arith, [], ◌∷◌, Some, None, Option, Result, Ok, Err, OnOk}
use mathlib.Core.Path.{fun_ext}
use Rattle.infinite_heap.specs.Memory.{next, put, put_all}
use Rattle.infinite_heap.specs.declared.value.Cell.{Cell}
use Rattle.infinite_heap.specs.declared.value.Cell.TheVariants.{Byte}
use Rattle.blind_judge.specs.Flat.{cell_or}
use Rattle.blind_judge.specs.PlainWords.{IsPlain}
use Rattle.blind_judge.proofs.Puts.{put_case}

abbrev pub flat_by : (ℕ → Option Cell) → (ℕ → ℕ) → ℕ → Cell
flat_by odd bytes = λ x. cell_or (odd x) (bytes x)

both_put : {A B : Type 0} (f : ℕ → A) (g : ℕ → B) (x : ℕ) (a : A) (b : B) (y : ℕ) (P : A → B → Type 0) → (x ≡ y → P a b) → ((x ≡ y → ⊥) → P (f y) (g y)) → P (put f x a y) (put g x b y)
both_put f g x a b y P here there = put_case f x a y (λ u. P u (put g x b y))
    (λ e. put_case g x b y (P a) (λ same. here e) (λ n. absurd (n e)))
    (λ n. put_case g x b y (P (f y)) (λ e. absurd (n e)) (λ same. there n))

-- a number
pub number_put : (odd : ℕ → Option Cell) (bytes : ℕ → ℕ) (x b : ℕ) → flat_by (put odd x None) (put bytes x b) ≡ put (flat_by odd bytes) x (Byte b)
number_put odd bytes x b = fun_ext (λ y. both_put odd bytes x None b y (λ u v. cell_or u v ≡ put (flat_by odd bytes) x (Byte b) y)
    (λ e. put_case (flat_by odd bytes) x (Byte b) y (λ c. Byte b ≡ c) (λ same. refl) (λ n. absurd (n e)))
    (λ n. put_case (flat_by odd bytes) x (Byte b) y (λ c. cell_or (odd y) (bytes y) ≡ c) (λ e. absurd (n e)) (λ same. refl)))

-- a cell that is no number
pub odd_put : (odd : ℕ → Option Cell) (bytes : ℕ → ℕ) (x : ℕ) (cell : Cell) → flat_by (put odd x (Some cell)) bytes ≡ put (flat_by odd bytes) x cell
odd_put odd bytes x cell = fun_ext (λ y. put_case odd x (Some cell) y (λ u. cell_or u (bytes y) ≡ put (flat_by odd bytes) x cell y)
    (λ e. put_case (flat_by odd bytes) x cell y (λ c. cell ≡ c) (λ same. refl) (λ n. absurd (n e)))
    (λ n. put_case (flat_by odd bytes) x cell y (λ c. cell_or (odd y) (bytes y) ≡ c) (λ e. absurd (n e)) (λ same. refl)))

-- what holds where a result is Ok follows from what else does
pub mapped_ok : {T E P Q : Type 0} (r : Result T E) → OnOk r P → (P → Q) → OnOk r Q
mapped_ok (Ok t) p f = f p
mapped_ok (Err e) p f = tt

-- a number where there was one
plain_put : (odd : ℕ → Option Cell) (bytes : ℕ → ℕ) (x b : ℕ) → odd x ≡ None → flat_by odd (put bytes x b) ≡ put (flat_by odd bytes) x (Byte b)
plain_put odd bytes x b plain = fun_ext (λ y. put_case bytes x b y (λ v. cell_or (odd y) v ≡ put (flat_by odd bytes) x (Byte b) y)
    (λ e. put_case (flat_by odd bytes) x (Byte b) y (λ c. cell_or (odd y) b ≡ c) (λ same. ap (λ o. cell_or o b) (ap odd (sym e) ∙ plain)) (λ n. absurd (n e)))
    (λ n. put_case (flat_by odd bytes) x (Byte b) y (λ c. cell_or (odd y) (bytes y) ≡ c) (λ e. absurd (n e)) (λ same. refl)))

-- four numbers where there were numbers
pub plain_word : (odd : ℕ → Option Cell) (bytes : ℕ → ℕ) (x a b c d : ℕ) → x < 2 ^ 32 → x % 4 ≡ 0 → IsPlain odd x
    → flat_by odd (put_all bytes x (a ∷ b ∷ c ∷ d ∷ [])) ≡ put_all (flat_by odd bytes) x (Byte a ∷ Byte b ∷ Byte c ∷ Byte d ∷ [])
plain_word odd bytes x a b c d fits whole plain =
    let f0 = put bytes x a in
    let f1 = put f0 (next x) b in
    let f2 = put f1 (next (next x)) c in
    plain_put odd f2 (next (next (next x))) d (plain (next (next (next x))) (omega arith))
    ∙ ap (λ f. put f (next (next (next x))) (Byte d)) (plain_put odd f1 (next (next x)) c (plain (next (next x)) (omega arith))
    ∙ ap (λ f. put f (next (next x)) (Byte c)) (plain_put odd f0 (next x) b (plain (next x) (omega arith))
    ∙ ap (λ f. put f (next x) (Byte b)) (plain_put odd bytes x a (plain x refl))))
