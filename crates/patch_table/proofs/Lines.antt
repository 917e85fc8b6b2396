-- Fields, numbers and ends of lines.
use Rattle.std.proofs.Common.{◌≡◌, ◌≢◌, ℕ, zero, suc, ◌+◌, ◌*◌, ◌-◌, ◌^◌, ◌/◌, ◌%◌, ◌<◌, ◌≤◌, Bool, true, false, cond, eqb, ltb, List, [], ◌∷◌, ◌++◌, length, take, drop, get_or, Some, refl, sym, ap, ◌∙◌, append_assoc, arith, min, length-append, nat_lt}
use Rattle.std.specs.Prelude.{position}
use Rattle.std.specs.List.{AllByRecursion, position_or_len}
use Rattle.std.specs.Char.{digit_value}
use Rattle.std.specs.Str.Parse.{AllDigits}
use Rattle.std.proofs.lemmas.Bool.{ne_eqb, lt-ltb}
use Rattle.std.proofs.lemmas.Bool.Decides.{nat_tests}
use Rattle.std.proofs.lemmas.List.{take_at, drop_at, drop_more}
use Rattle.std.proofs.lemmas.List.Quantifiers.{position-Some}
use Rattle.std.proofs.lemmas.Str.Parse.{digit_from_value, digit_at}
use Rattle.hex_text.specs.Hex.{hex_of, hex_digit}
use Rattle.patch_table.specs.Line.{field, words_of, line_of, IsNumber}
use Rattle.patch_table.specs.declared.line.Key.{Key}
use Rattle.patch_table.specs.declared.line.Key.TheVariants.{Pad, Front, Defer}
use Rattle.hex_text.specs.Laws.{length-hex_of}

pub rest_of_field : (m n : ℕ) (x y : List ℕ) → field m x ≡ field n y → x ≡ y
rest_of_field m n x y e =
    let a : drop 8 (field m x) ≡ 32 ∷ x = drop_at (hex_of 8 m) (32 ∷ x) 8 (length-hex_of 8 m) in
    let b : drop 8 (field n y) ≡ 32 ∷ y = drop_at (hex_of 8 n) (32 ∷ y) 8 (length-hex_of 8 n) in
    ap (drop 1) (sym a ∙ ap (drop 8) e ∙ b)

pub digits_of_field : (m n : ℕ) (x y : List ℕ) → field m x ≡ field n y → hex_of 8 m ≡ hex_of 8 n
digits_of_field m n x y e = sym (take_at (hex_of 8 m) (32 ∷ x) 8 (length-hex_of 8 m)) ∙ ap (take 8) e ∙ take_at (hex_of 8 n) (32 ∷ y) 8 (length-hex_of 8 n)

-- ---- numbers

pub kept_more : (value digit : ℕ) → digit < 10 → min (min (min value (2 ^ 64 - 1) * 10) (2 ^ 64 - 1) + digit) (2 ^ 64 - 1) ≡ min (value * 10 + digit) (2 ^ 64 - 1)
kept_more value digit small = omega arith

digit_below : (c : ℕ) → (48 ≤ c) × (c ≤ 57) → digit_value c < 10
digit_below c h = grind (arith, nat_tests)

pub each_below : (digits : List ℕ) (i : ℕ) → AllDigits 10 digits → i < length digits → digit_value (get_or digits i 0) < 10
each_below digits i all lt = digit_below (get_or digits i 0) (digit_at digits i all lt)

-- ---- ends of lines

abbrev pub Lacks : List ℕ → Type 0
Lacks xs = AllByRecursion (λ b. b ≢ 10) xs

pub lacks_both : (xs ys : List ℕ) → Lacks xs → Lacks ys → Lacks (xs ++ ys)
lacks_both [] ys p q = q
lacks_both (x ∷ xs) ys p q = (p.0, lacks_both xs ys p.1 q)

lacks_digit : (d : ℕ) → hex_digit d ≢ 10
lacks_digit d = split (nat_lt d 10)
  where
    split : (b : Bool) → cond b (48 + d) (87 + d) ≢ 10
    split true e = absurd (omega arith)
    split false e = absurd (omega arith)

lacks_hex : (k n : ℕ) → Lacks (hex_of k n)
unfolding hex_of
lacks_hex zero n = tt
lacks_hex (suc k) n = lacks_both (hex_of k (n / 16)) (hex_digit (n % 16) ∷ []) (lacks_hex k (n / 16)) (lacks_digit (n % 16), tt)

lacks_digits : (ds : List ℕ) → AllDigits 10 ds → Lacks ds
lacks_digits [] h = tt
lacks_digits (d ∷ ds) h = ((λ e. let r = digit_from_value d h.0 in absurd (omega (arith, r))), lacks_digits ds h.1)

lacks_field : (n : ℕ) (rest : List ℕ) → Lacks rest → Lacks (field n rest)
lacks_field n rest h = lacks_both (hex_of 8 n) (32 ∷ rest) (lacks_hex 8 n) ((λ e. absurd (omega arith)), h)

pub lacks_words : (key : Key) (digits : List ℕ) → IsNumber digits → Lacks (words_of key digits)
lacks_words (Pad site) digits h = let rest = lacks_field site digits (lacks_digits digits h.numeral.1) in ((λ e. absurd (omega arith)), ((λ e. absurd (omega arith)), ((λ e. absurd (omega arith)), ((λ e. absurd (omega arith)), rest))))
lacks_words (Front site) digits h = let rest = lacks_field site digits (lacks_digits digits h.numeral.1) in ((λ e. absurd (omega arith)), ((λ e. absurd (omega arith)), ((λ e. absurd (omega arith)), ((λ e. absurd (omega arith)), ((λ e. absurd (omega arith)), ((λ e. absurd (omega arith)), rest))))))
lacks_words (Defer a f) digits h = let rest = lacks_field a (field f digits) (lacks_field f digits (lacks_digits digits h.numeral.1)) in ((λ e. absurd (omega arith)), ((λ e. absurd (omega arith)), ((λ e. absurd (omega arith)), ((λ e. absurd (omega arith)), ((λ e. absurd (omega arith)), ((λ e. absurd (omega arith)), rest))))))

place_of_end : (xs ys : List ℕ) → Lacks xs → position_or_len (λ b. eqb b 10) (xs ++ 10 ∷ ys) ≡ length xs
place_of_end [] ys h = refl
place_of_end (x ∷ xs) ys h = rw (ne_eqb x 10 h.0) (omega (arith, place_of_end xs ys h.1))

pub end_is : (xs ys : List ℕ) → Lacks xs → position (λ b. eqb b 10) (xs ++ 10 ∷ ys) ≡ Some (length xs)
end_is xs ys h =
    let inside : ltb (length xs) (length (xs ++ 10 ∷ ys)) ≡ true = lt-ltb _ _ (omega (arith, length-append xs (10 ∷ ys))) in
    rw (place_of_end xs ys h, inside) refl

pub parts_at_end : (xs : List ℕ) (i : ℕ) → position (λ b. eqb b 10) xs ≡ Some i → (i < length xs) × (drop i xs ≡ 10 ∷ drop (i + 1) xs)
parts_at_end xs i e =
    let p = position-Some (λ b. eqb b 10) xs i 0 e in
    (p.0, drop_more xs i 0 p.0 ∙ ap (λ b. b ∷ drop (i + 1) xs) (same_eqb (get_or xs i 0) p.1))
  where
    same_eqb : (x : ℕ) → eqb x 10 ≡ true → x ≡ 10
    same_eqb x h = grind (arith, nat_tests)

pub text_of_line : (key : Key) (digits rest : List ℕ) → line_of key digits ++ rest ≡ words_of key digits ++ 10 ∷ rest
text_of_line key digits rest = append_assoc (words_of key digits) (10 ∷ []) rest
