-- A number that is read is the number that was written, and what was written is read again.
use Rattle.std.proofs.Common.{◌≡◌, ℕ, ◌+◌, ◌^◌, ◌<◌, ◌≤◌, Bool, true, false, cond, ltb, List, [], ◌∷◌, ◌++◌, length, get_or, take, drop, Result, Ok, Err, refl, sym, ap, subst, ◌∙◌, append_assoc, arith, inl, inr}
use Rattle.std.specs.Int.{w32, w64, from_le_bytes}
use Rattle.std.proofs.lemmas.Bool.{cases_lt, ltb-false, le-ltb}
use Rattle.std.proofs.lemmas.List.{take_at, drop_at, take-append-drop, length-append, length-take, get_or-drop, get_or-take, get_or_past}
use Rattle.std.proofs.lemmas.Nat.{le_bytes_4, le_bytes_8, from_le_bytes-to_le_bytes_4, from_le_bytes-to_le_bytes_8}
use Rattle.heap_image.specs.Fields.{Size, Byte, Word, Long, size_len, size_limit, number_bytes, number_in}
use Rattle.heap_image.specs.declared.refusal.ImageRefusal.{ImageRefusal}
use Rattle.heap_image.specs.declared.refusal.ImageRefusal.TheVariants as why
use Rattle.heap_image.specs.Steps.{◌>>=◌, number_at, part_at, rule}

abbrev pub IsBytes : List ℕ → Type 0
IsBytes bytes = (i : ℕ) → get_or bytes i 0 < 256

pub IsBytes-drop : (n : ℕ) (bytes : List ℕ) → IsBytes bytes → IsBytes (drop n bytes)
IsBytes-drop n bytes h i = rw get_or-drop (h (n + i))

pub IsBytes-take : (n : ℕ) (bytes : List ℕ) → IsBytes bytes → IsBytes (take n bytes)
IsBytes-take n bytes h i =
    elim (cases_lt i n) [
      | inl lt ↦ rw (get_or-take n bytes i 0 lt) (h i)
      | inr le ↦ rw (get_or_past (take n bytes) i 0 (omega (arith, length-take n bytes))) (omega arith)
    ]

-- the value of a step that did not fail
pub bind_ok : {A B : Type 0} (r : Result A ImageRefusal) (f : A → Result B ImageRefusal) (y : B) → (r >>= f) ≡ Ok y → (x : A) × (r ≡ Ok x) × (f x ≡ Ok y)
bind_ok (Ok x) f y e = (x, refl, e)
bind_ok (Err d) f y e = absurd cc

-- a test that did not fail
pub guard_ok : {A : Type 0} (b : Bool) (d : ImageRefusal) (x y : A) → cond b (Err d) (Ok x) ≡ Ok y → (b ≡ false) × (x ≡ y)
guard_ok true d x y e = absurd cc
guard_ok false d x y e = (refl, cc)

pub guard_ended : {A : Type 0} (b : Bool) (d : ImageRefusal) (x y : A) → cond b (Ok x) (Err d) ≡ Ok y → (b ≡ true) × (x ≡ y)
guard_ended true d x y e = (refl, cc)
guard_ended false d x y e = absurd cc

abbrev pub done : {A : Type 0} → A → Result A ImageRefusal
done x = Ok x

pub ok_is : {A : Type 0} (x y : A) → done x ≡ done y → x ≡ y
ok_is x y e = cc

pub rule_ok : (whole : ℕ) (bytes : List ℕ) (b : Bool) (x : Unit {0}) → rule whole bytes b ≡ Ok x → b ≡ true
unfolding rule
rule_ok whole bytes true x e = refl
rule_ok whole bytes false x e = absurd cc

pub rule_kept : (whole : ℕ) (bytes : List ℕ) (b : Bool) → b ≡ true → rule whole bytes b ≡ Ok tt
unfolding rule
rule_kept whole bytes b e = rw e refl

-- what a reader took from the front
pub record Takes (bytes text rest : List ℕ) : Type 0 where
  pub parts : bytes ≡ text ++ rest
  pub rest_fits : IsBytes rest

pub Takes-then : (a x b y c : List ℕ) → Takes a x b → Takes b y c → Takes a (x ++ y) c
Takes-then a x b y c p q = record { parts = p.parts ∙ ap (λ (t : List ℕ). x ++ t) q.parts ∙ sym (append_assoc x y c); rest_fits = q.rest_fits }

record IsSized (size : Size) : Type 0 where
  len : (n : ℕ) → length (number_bytes size n) ≡ size_len size
  back : (bytes : List ℕ) → length bytes ≡ size_len size → IsBytes bytes → number_bytes size (number_in size bytes) ≡ bytes
  again : (n : ℕ) → n < size_limit size → number_in size (number_bytes size n) ≡ n
  below : (bytes : List ℕ) → IsBytes bytes → number_in size bytes < size_limit size

back-byte : (bytes : List ℕ) → length bytes ≡ 1 → get_or bytes 0 0 ∷ [] ≡ bytes
back-byte [] len = absurd (omega arith)
back-byte (b ∷ []) len = refl
back-byte (b ∷ c ∷ bs) len = absurd (omega arith)

below-word : (bytes : List ℕ) → IsBytes bytes → from_le_bytes w32 bytes < 2 ^ 32
below-word bytes fits = omega (arith, fits 0, fits 1, fits 2, fits 3)

below-long : (bytes : List ℕ) → IsBytes bytes → from_le_bytes w64 bytes < 2 ^ 64
below-long bytes fits = omega (arith, fits 0, fits 1, fits 2, fits 3, fits 4, fits 5, fits 6, fits 7)

sized : (size : Size) → IsSized size
unfolding number_bytes number_in
sized Byte = record { len = λ n. refl; back = λ bytes len fits. back-byte bytes len; again = λ n lt. refl; below = λ bytes fits. fits 0 }
sized Word = record {
  len = λ n. refl;
  back = λ bytes len fits. le_bytes_4 bytes _ len fits refl;
  again = λ n lt. from_le_bytes-to_le_bytes_4 n lt;
  below = below-word;
}
sized Long = record {
  len = λ n. refl;
  back = λ bytes len fits. le_bytes_8 bytes _ len fits refl;
  again = λ n lt. from_le_bytes-to_le_bytes_8 n lt;
  below = below-long;
}

pub number_takes : (size : Size) (bytes : List ℕ) (x : ℕ × List ℕ) → IsBytes bytes → number_at size bytes ≡ Ok x → Takes bytes (number_bytes size x.0) x.1 × (x.0 < size_limit size)
unfolding number_at
number_takes size bytes x fits e =
    let front : List ℕ = take (size_len size) bytes in
    let made : ℕ × List ℕ = (number_in size front, drop (size_len size) bytes) in
    let g = guard_ok (ltb (length bytes) (size_len size)) why.Short made x e in
    let long : size_len size ≤ length bytes = ltb-false _ _ g.0 in
    let front_fits = IsBytes-take (size_len size) bytes fits in
    let front_is : number_bytes size made.0 ≡ front = (sized size).back front (omega (arith, length-take (size_len size) bytes)) front_fits in
    let takes : Takes bytes (number_bytes size made.0) made.1 = record {
      parts = rw front_is (sym (take-append-drop (size_len size) bytes));
      rest_fits = IsBytes-drop (size_len size) bytes fits;
    } in
    subst (λ (y : ℕ × List ℕ). Takes bytes (number_bytes size y.0) y.1 × (y.0 < size_limit size)) g.1 (takes, (sized size).below front front_fits)

pub number_again : (size : Size) (n : ℕ) (rest : List ℕ) → n < size_limit size → number_at size (number_bytes size n ++ rest) ≡ Ok (n, rest)
unfolding number_at
number_again size n rest lt =
    let len = (sized size).len n in
    let long : ltb (length (number_bytes size n ++ rest)) (size_len size) ≡ false = le-ltb _ _ (omega (arith, length-append (number_bytes size n) rest)) in
    rw (long, take_at (number_bytes size n) rest (size_len size) len, drop_at (number_bytes size n) rest (size_len size) len, (sized size).again n lt) refl

pub part_takes : (n : ℕ) (bytes : List ℕ) (x : List ℕ × List ℕ) → IsBytes bytes → part_at n bytes ≡ Ok x → Takes bytes x.0 x.1 × (length x.0 ≡ n)
unfolding part_at
part_takes n bytes x fits e =
    let made : List ℕ × List ℕ = (take n bytes, drop n bytes) in
    let g = guard_ok (ltb (length bytes) n) why.Short made x e in
    let long : n ≤ length bytes = ltb-false _ _ g.0 in
    let takes : Takes bytes made.0 made.1 = record { parts = sym (take-append-drop n bytes); rest_fits = IsBytes-drop n bytes fits } in
    let counted : length made.0 ≡ n = omega (arith, length-take n bytes) in
    subst (λ (y : List ℕ × List ℕ). Takes bytes y.0 y.1 × (length y.0 ≡ n)) g.1 (takes, counted)

pub part_again : (n : ℕ) (part rest : List ℕ) → length part ≡ n → part_at n (part ++ rest) ≡ Ok (part, rest)
unfolding part_at
part_again n part rest len =
    let long : ltb (length (part ++ rest)) n ≡ false = le-ltb _ _ (omega (arith, length-append part rest)) in
    rw (long, take_at part rest n len, drop_at part rest n len) refl
