-- The reader on lists: each part of a text stands at the front of a list of numbers, and what follows it is found, or it doesn't.
use Rattle.std.proofs.Common.{◌≡◌, ◌≢◌, ◌⊎◌, inl, inr, ℕ, zero, suc, ◌+◌, ◌*◌, ◌-◌, ◌^◌, ◌/◌, ◌%◌, ◌<◌, ◌≤◌, Bool, true, false, eqb, ltb, min, List, [], ◌∷◌, ◌++◌, length, get_or, drop, refl, sym, ap, subst, ◌∙◌, append_assoc, arith}
use Rattle.std.specs.Char.{digit_value}
use Rattle.std.specs.Str.Parse.{AllDigits, digits_value}
use Rattle.std.proofs.lemmas.Bool.Decides.{nat_tests}
use Rattle.std.proofs.lemmas.List.{drop_at}
use Rattle.hex_text.specs.Hex.{hex_of, hex_digit, IsHexDigit}
use Rattle.patch_table.specs.Line.{field, IsNumber, Allows, words_of, IsWords, NoWords, BeginsLine, NoLine, IsSiteLine, IsPairLine}
use Rattle.patch_table.specs.declared.line.Key.TheVariants.{Pad, Front, Defer}
use Rattle.patch_table.specs.declared.line.Line.{Line}
use Rattle.patch_table.specs.declared.line.Version.{Version}
use Rattle.patch_table.specs.declared.line.Version.TheVariants.{One, Two}
use Rattle.hex_text.specs.Laws.{hex-next, length-hex_of, digit-hex}
use Rattle.patch_table.proofs.Lines.{Lacks, lacks_words, rest_of_field, text_of_line}

-- ---- tests of numbers

pub same_or_not : (a b : ℕ) → (a ≡ b) ⊎ (a ≢ b)
same_or_not a b = by_test (eqb a b) refl
  where
    by_test : (t : Bool) → eqb a b ≡ t → (a ≡ b) ⊎ (a ≢ b)
    by_test true e = inl (grind (arith, nat_tests))
    by_test false e = inr (λ s. absurd (grind (arith, nat_tests)))

pub below_or_not : (a b : ℕ) → (a < b) ⊎ (b ≤ a)
below_or_not a b = by_test (ltb a b) refl
  where
    by_test : (t : Bool) → ltb a b ≡ t → (a < b) ⊎ (b ≤ a)
    by_test true e = inl (grind (arith, nat_tests))
    by_test false e = inr (grind (arith, nat_tests))

pub within_or_not : (low high n : ℕ) → ((low ≤ n) × (n ≤ high)) ⊎ ((low ≤ n) × (n ≤ high) → ⊥)
within_or_not low high n =
    elim (below_or_not n low) [
      | inl less ↦ inr (λ r. absurd (omega (arith, less, r.0)))
      | inr least ↦ elim (below_or_not high n) [ inl more ↦ inr (λ r. absurd (omega (arith, more, r.1))) | inr most ↦ inl (least, most) ]
    ]

-- ---- words

pub record Begun (word bytes : List ℕ) : Type 0 where
  pub rest : List ℕ
  pub is : bytes ≡ word ++ rest

pub begun_or_not : (word bytes : List ℕ) → Begun word bytes ⊎ ((rest : List ℕ) → bytes ≢ word ++ rest)
begun_or_not [] bytes = inl (record { rest = bytes; is = refl })
begun_or_not (w ∷ word) [] = inr (λ rest e. absurd (omega (arith, ap length e)))
begun_or_not (w ∷ word) (b ∷ bytes) =
    elim (same_or_not b w) [
      | inl e ↦ elim (begun_or_not word bytes) [
        | inl f ↦ inl (record { rest = f.rest; is = λ i. e i ∷ f.is i })
        | inr never ↦ inr (λ rest is. never rest (ap (drop 1) is))
      ]
      | inr other ↦ inr (λ rest is. other (ap (λ xs. get_or xs 0 0) is))
    ]

-- ---- sites

record Digit (byte : ℕ) : Type 0 where
  value : ℕ
  small : value < 16
  is : byte ≡ hex_digit value

digit_or_not : (byte : ℕ) → Digit byte ⊎ ((d : ℕ) → d < 16 → byte ≢ hex_digit d)
digit_or_not byte =
    elim (within_or_not 48 57 byte) [
      | inl r ↦ inl (record { value = byte - 48; small = omega (arith, r.0, r.1); is = low byte r.0 r.1 })
      | inr no_low ↦ elim (within_or_not 97 102 byte) [
        | inl r ↦ inl (record { value = byte - 87; small = omega (arith, r.0, r.1); is = high byte r.0 r.1 })
        | inr no_high ↦ inr (λ d small e. neither no_low no_high (subst IsHexDigit (sym e) (digit-hex d small)))
      ]
    ]
  where
    low : (b : ℕ) → 48 ≤ b → b ≤ 57 → b ≡ hex_digit (b - 48)
    low b p q = grind (arith, nat_tests)

    high : (b : ℕ) → 97 ≤ b → b ≤ 102 → b ≡ hex_digit (b - 87)
    high b p q = grind (arith, nat_tests)

    neither : ((48 ≤ byte) × (byte ≤ 57) → ⊥) → ((97 ≤ byte) × (byte ≤ 102) → ⊥) → IsHexDigit byte → ⊥
    neither p q (inl r) = p r
    neither p q (inr r) = q r

record Hex (k : ℕ) (bytes : List ℕ) : Type 0 where
  value : ℕ
  small : value < 16 ^ k
  rest : List ℕ
  is : bytes ≡ hex_of k value ++ rest

abbrev NoHex : ℕ → List ℕ → Type 0
NoHex k bytes = (n : ℕ) (rest : List ℕ) → bytes ≢ hex_of k n ++ rest

-- what stands behind k digits, however they are read
behind : (k m n : ℕ) (bytes x y : List ℕ) → bytes ≡ hex_of k m ++ x → bytes ≡ hex_of k n ++ y → x ≡ y
behind k m n bytes x y e h = sym (drop_at (hex_of k m) x k (length-hex_of k m)) ∙ ap (drop k) (sym e ∙ h) ∙ drop_at (hex_of k n) y k (length-hex_of k n)

one_more : (k v d : ℕ) → d < 16 → hex_of (suc k) (v * 16 + d) ≡ hex_of k v ++ hex_digit d ∷ []
one_more k v d small = let e : suc k ≡ k + 1 = omega arith in ap (λ j. hex_of j (v * 16 + d)) e ∙ hex-next k v d small

one_digit_more : (k : ℕ) (bytes : List ℕ) (h : Hex k bytes) (rest : List ℕ) → h.rest ≡ rest → Hex (suc k) bytes ⊎ NoHex (suc k) bytes
unfolding hex_of
one_digit_more k bytes h [] e =
    inr (λ n more is.
    let ends : h.rest ≡ hex_digit (n % 16) ∷ more = behind k h.value (n / 16) bytes h.rest (hex_digit (n % 16) ∷ more) h.is (is ∙ append_assoc (hex_of k (n / 16)) (hex_digit (n % 16) ∷ []) more) in
    absurd (omega (arith, ap length (sym e ∙ ends))))
one_digit_more k bytes h (b ∷ rest) e =
    elim (digit_or_not b) [
      | inl d ↦ inl (record {
        value = h.value * 16 + d.value;
        small = omega (arith, h.small, d.small);
        rest = rest;
        is = h.is ∙ ap (λ r. hex_of k h.value ++ r) e ∙ ap (λ x. hex_of k h.value ++ x ∷ rest) d.is ∙ sym (append_assoc (hex_of k h.value) (hex_digit d.value ∷ []) rest) ∙ ap (λ x. x ++ rest) (sym (one_more k h.value d.value d.small));
      })
      | inr never ↦ inr (λ n more is.
          let ends : h.rest ≡ hex_digit (n % 16) ∷ more = behind k h.value (n / 16) bytes h.rest (hex_digit (n % 16) ∷ more) h.is (is ∙ append_assoc (hex_of k (n / 16)) (hex_digit (n % 16) ∷ []) more) in
          never (n % 16) (omega arith) (ap (λ xs. get_or xs 0 0) (sym e ∙ ends)))
    ]

hex_or_not : (k : ℕ) (bytes : List ℕ) → Hex k bytes ⊎ NoHex k bytes
unfolding hex_of
hex_or_not zero bytes = inl (record { value = 0; small = omega arith; rest = bytes; is = refl })
hex_or_not (suc k) bytes =
    elim (hex_or_not k bytes) [
      | inl h ↦ one_digit_more k bytes h h.rest refl
      | inr never ↦ inr (λ n rest e. never (n / 16) (hex_digit (n % 16) ∷ rest) (e ∙ append_assoc (hex_of k (n / 16)) (hex_digit (n % 16) ∷ []) rest))
    ]

record Field (bytes : List ℕ) : Type 0 where
  site : ℕ
  small : site < 2 ^ 32
  rest : List ℕ
  is : bytes ≡ field site rest

abbrev NoField : List ℕ → Type 0
NoField bytes = (site : ℕ) (rest : List ℕ) → bytes ≢ field site rest

space_or_not : (bytes : List ℕ) (h : Hex 8 bytes) (rest : List ℕ) → h.rest ≡ rest → Field bytes ⊎ NoField bytes
space_or_not bytes h [] e = inr (λ site more is. absurd (omega (arith, ap length (sym e ∙ behind 8 h.value site bytes h.rest (32 ∷ more) h.is is))))
space_or_not bytes h (b ∷ rest) e =
    elim (same_or_not b 32) [
      | inl space ↦ inl (record { site = h.value; small = h.small; rest = rest; is = h.is ∙ ap (λ r. hex_of 8 h.value ++ r) (e ∙ ap (λ x. x ∷ rest) space) })
      | inr other ↦ inr (λ site more is. other (ap (λ xs. get_or xs 0 0) (sym e ∙ behind 8 h.value site bytes h.rest (32 ∷ more) h.is is)))
    ]

field_or_not : (bytes : List ℕ) → Field bytes ⊎ NoField bytes
field_or_not bytes = elim (hex_or_not 8 bytes) [ inl h ↦ space_or_not bytes h h.rest refl | inr never ↦ inr (λ site rest e. never site (32 ∷ rest) e) ]

-- ---- numbers of lines

digits_or_not : (ds : List ℕ) → AllDigits 10 ds ⊎ (AllDigits 10 ds → ⊥)
digits_or_not [] = inl tt
digits_or_not (d ∷ ds) =
    elim (below_or_not (digit_value d) 10) [
      | inl small ↦ elim (digits_or_not ds) [ inl all ↦ inl (small, all) | inr never ↦ inr (λ h. never h.1) ]
      | inr big ↦ inr (λ h. absurd (omega (arith, big, h.0)))
    ]

number_or_not : (ds : List ℕ) → IsNumber ds ⊎ (IsNumber ds → ⊥)
number_or_not [] = inr (λ h. absurd (omega (arith, h.numeral.0)))
number_or_not (d ∷ []) =
    elim (digits_or_not (d ∷ [])) [
      | inl all ↦ inl (record { numeral = (omega arith, all); shortest = λ e. refl })
      | inr never ↦ inr (λ h. never h.numeral.1)
    ]
number_or_not (d ∷ e ∷ ds) =
    elim (digits_or_not (d ∷ e ∷ ds)) [
      | inl all ↦ elim (same_or_not d 48) [
        | inl leads ↦ inr (λ h. absurd (omega (arith, h.shortest leads)))
        | inr other ↦ inl (record { numeral = (omega arith, all); shortest = λ leads. absurd (other leads) })
      ]
      | inr never ↦ inr (λ h. never h.numeral.1)
    ]

-- ---- the words of a line

abbrev kept : List ℕ → ℕ
kept digits = min (digits_value 10 digits) (2 ^ 64 - 1)

record SiteLine (bytes : List ℕ) : Type 0 where
  site : ℕ
  number : ℕ
  is : IsSiteLine bytes site number

site_line_or_not : (bytes : List ℕ) → SiteLine bytes ⊎ ((site : ℕ) (digits : List ℕ) → IsNumber digits → bytes ≢ field site digits)
site_line_or_not bytes =
    elim (field_or_not bytes) [
      | inl f ↦ elim (number_or_not f.rest) [
        | inl number ↦ inl (record { site = f.site; number = kept f.rest; is = record { digits = f.rest; numeral = number; kept = refl; small = f.small; are = f.is } })
        | inr never ↦ inr (λ site digits number e. never (subst IsNumber (rest_of_field site f.site digits f.rest (sym e ∙ f.is)) number))
      ]
      | inr never ↦ inr (λ site digits number e. never site digits e)
    ]

record PairLine (bytes : List ℕ) : Type 0 where
  alloc_site : ℕ
  free_site : ℕ
  number : ℕ
  is : IsPairLine bytes alloc_site free_site number

pair_line_or_not : (bytes : List ℕ) → PairLine bytes ⊎ ((alloc_site free_site : ℕ) (digits : List ℕ) → IsNumber digits → bytes ≢ field alloc_site (field free_site digits))
pair_line_or_not bytes =
    elim (field_or_not bytes) [
      | inl f ↦ elim (site_line_or_not f.rest) [
        | inl l ↦ inl (record {
          alloc_site = f.site;
          free_site = l.site;
          number = l.number;
          is = record { digits = l.is.digits; numeral = l.is.numeral; kept = l.is.kept; small = (f.small, l.is.small); are = f.is ∙ ap (field f.site) l.is.are };
        })
        | inr never ↦ inr (λ a b digits number e. never b digits number (rest_of_field f.site a f.rest (field b digits) (sym f.is ∙ e)))
      ]
      | inr never ↦ inr (λ a b digits number e. never a (field b digits) e)
    ]

record Words (version : Version) (words : List ℕ) : Type 0 where
  line : Line
  are : IsWords version words line

allows_pad : (version : Version) (site : ℕ) → Allows version (Pad site)
allows_pad One site = tt
allows_pad Two site = tt

allows_defer : (version : Version) (a b : ℕ) → Allows version (Defer a b)
allows_defer One a b = tt
allows_defer Two a b = tt

abbrev NoPad : List ℕ → Type 0
NoPad words = (site : ℕ) (digits : List ℕ) → IsNumber digits → words ≢ words_of (Pad site) digits

abbrev NoFront : List ℕ → Type 0
NoFront words = (site : ℕ) (digits : List ℕ) → IsNumber digits → words ≢ words_of (Front site) digits

abbrev NoDefer : List ℕ → Type 0
NoDefer words = (alloc_site free_site : ℕ) (digits : List ℕ) → IsNumber digits → words ≢ words_of (Defer alloc_site free_site) digits

pad_or_not : (version : Version) (words : List ℕ) → Words version words ⊎ NoPad words
pad_or_not version words =
    elim (begun_or_not (112 ∷ 97 ∷ 100 ∷ 32 ∷ []) words) [
      | inl f ↦ elim (site_line_or_not f.rest) [
        | inl l ↦ inl (record {
          line = record { key = Pad l.site; number = l.number };
          are = record { digits = l.is.digits; number = l.is.numeral; kept = l.is.kept; key = l.is.small; allowed = allows_pad version l.site; are = f.is ∙ ap (λ r. 112 ∷ 97 ∷ 100 ∷ 32 ∷ r) l.is.are };
        })
        | inr never ↦ inr (λ site digits number e. never site digits number (ap (drop 4) (sym f.is ∙ e)))
      ]
      | inr never ↦ inr (λ site digits number e. never (field site digits) e)
    ]

front_or_not : (words : List ℕ) → Words Two words ⊎ NoFront words
front_or_not words =
    elim (begun_or_not (102 ∷ 114 ∷ 111 ∷ 110 ∷ 116 ∷ 32 ∷ []) words) [
      | inl f ↦ elim (site_line_or_not f.rest) [
        | inl l ↦ inl (record {
          line = record { key = Front l.site; number = l.number };
          are = record { digits = l.is.digits; number = l.is.numeral; kept = l.is.kept; key = l.is.small; allowed = tt; are = f.is ∙ ap (λ r. 102 ∷ 114 ∷ 111 ∷ 110 ∷ 116 ∷ 32 ∷ r) l.is.are };
        })
        | inr never ↦ inr (λ site digits number e. never site digits number (ap (drop 6) (sym f.is ∙ e)))
      ]
      | inr never ↦ inr (λ site digits number e. never (field site digits) e)
    ]

defer_or_not : (version : Version) (words : List ℕ) → Words version words ⊎ NoDefer words
defer_or_not version words =
    elim (begun_or_not (100 ∷ 101 ∷ 102 ∷ 101 ∷ 114 ∷ 32 ∷ []) words) [
      | inl f ↦ elim (pair_line_or_not f.rest) [
        | inl l ↦ inl (record {
          line = record { key = Defer l.alloc_site l.free_site; number = l.number };
          are = record { digits = l.is.digits; number = l.is.numeral; kept = l.is.kept; key = l.is.small; allowed = allows_defer version l.alloc_site l.free_site; are = f.is ∙ ap (λ r. 100 ∷ 101 ∷ 102 ∷ 101 ∷ 114 ∷ 32 ∷ r) l.is.are };
        })
        | inr never ↦ inr (λ a b digits number e. never a b digits number (ap (drop 6) (sym f.is ∙ e)))
      ]
      | inr never ↦ inr (λ a b digits number e. never (field a (field b digits)) e)
    ]

none_of_one : (words : List ℕ) → NoPad words → NoDefer words → NoWords One words
none_of_one words p q (Pad site) digits allowed number e = p site digits number e
none_of_one words p q (Front site) digits allowed number e = absurd allowed
none_of_one words p q (Defer a b) digits allowed number e = q a b digits number e

none_of_two : (words : List ℕ) → NoPad words → NoFront words → NoDefer words → NoWords Two words
none_of_two words p f q (Pad site) digits allowed number e = p site digits number e
none_of_two words p f q (Front site) digits allowed number e = f site digits number e
none_of_two words p f q (Defer a b) digits allowed number e = q a b digits number e

besides : (version : Version) (words : List ℕ) → NoPad words → NoDefer words → Words version words ⊎ NoWords version words
besides One words p q = inr (none_of_one words p q)
besides Two words p q = elim (front_or_not words) [ inl w ↦ inl w | inr f ↦ inr (none_of_two words p f q) ]

words_or_not : (version : Version) (words : List ℕ) → Words version words ⊎ NoWords version words
words_or_not version words =
    elim (pad_or_not version words) [
      | inl w ↦ inl w
      | inr no_pad ↦ elim (defer_or_not version words) [ inl w ↦ inl w | inr no_defer ↦ besides version words no_pad no_defer ]
    ]

-- ---- lines

record End (text : List ℕ) : Type 0 where
  words : List ℕ
  more : List ℕ
  lacks : Lacks words
  is : text ≡ words ++ 10 ∷ more

end_or_not : (text : List ℕ) → End text ⊎ Lacks text
end_or_not [] = inr tt
end_or_not (b ∷ text) =
    elim (same_or_not b 10) [
      | inl feed ↦ inl (record { words = []; more = text; lacks = tt; is = ap (λ x. x ∷ text) feed })
      | inr other ↦ elim (end_or_not text) [
        | inl e ↦ inl (record { words = b ∷ e.words; more = e.more; lacks = (other, e.lacks); is = ap (λ xs. b ∷ xs) e.is })
        | inr none ↦ inr (other, none)
      ]
    ]

no_end : (xs ys : List ℕ) → Lacks (xs ++ 10 ∷ ys) → ⊥
no_end [] ys h = h.0 refl
no_end (x ∷ xs) ys h = no_end xs ys h.1

same_words : (xs ys a b : List ℕ) → Lacks xs → Lacks ys → xs ++ 10 ∷ a ≡ ys ++ 10 ∷ b → xs ≡ ys
same_words [] [] a b p q e = refl
same_words [] (y ∷ ys) a b p q e = absurd (q.0 (sym (ap (λ l. get_or l 0 0) e)))
same_words (x ∷ xs) [] a b p q e = absurd (p.0 (ap (λ l. get_or l 0 0) e))
same_words (x ∷ xs) (y ∷ ys) a b p q e =
    let top : x ≡ y = ap (λ l. get_or l 0 0) e in
    let rest = same_words xs ys a b p.1 q.1 (ap (drop 1) e) in
    λ i. top i ∷ rest i

pub record Begins (version : Version) (text : List ℕ) : Type 0 where
  pub line : Line
  pub next : List ℕ
  pub begins : BeginsLine version text line next

pub line_or_not : (version : Version) (text : List ℕ) → Begins version text ⊎ NoLine version text
line_or_not version text =
    elim (end_or_not text) [
      | inl end ↦ elim (words_or_not version end.words) [
        | inl w ↦ inl (record {
          line = w.line;
          next = end.more;
          begins = record {
            digits = w.are.digits;
            number = w.are.number;
            kept = w.are.kept;
            key = w.are.key;
            allowed = w.are.allowed;
            is = end.is ∙ ap (λ xs. xs ++ 10 ∷ end.more) w.are.are ∙ sym (text_of_line w.line.key w.are.digits end.more);
          };
        })
        | inr never ↦ inr (λ key digits rest allowed number e. never key digits allowed number (same_words end.words (words_of key digits) end.more rest end.lacks (lacks_words key digits number) (sym end.is ∙ e ∙ text_of_line key digits rest)))
      ]
      | inr none ↦ inr (λ key digits rest allowed number e. no_end (words_of key digits) rest (subst Lacks (e ∙ text_of_line key digits rest) none))
    ]
