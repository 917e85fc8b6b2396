-- A text of the grammar is the spelling of its table, and the spelling is a text of the grammar.
use Rattle.std.proofs.Common.{◌≡◌, ℕ, zero, suc, ◌+◌, ◌-◌, ◌<◌, ◌^◌, ◌%◌, min, cond, eqb, List, [], ◌∷◌, ◌++◌, length, get_or, refl, sym, ap, subst, ◌∙◌, append_assoc, zero-add, arith, ◌↔◌, rules}
use Rattle.std.specs.Prelude.{count_by}
use Rattle.std.specs.Ordering.{nat_cmp}
use Rattle.std.specs.declared.cmp.Ordering.{Ordering}
use Rattle.std.specs.Cmp.{nat_cmp_total}
use Rattle.std.specs.List.{flat_map, AllByRecursion}
use Rattle.std.specs.Fmt.{decimal}
use Rattle.std.specs.FinMap.{entries, empty, len-entries, len-empty}
use Rattle.std.specs.Str.Parse.{AllDigits, digits_value}
use Rattle.std.proofs.lemmas.Bool.{ne_eqb}
use Rattle.std.proofs.lemmas.List.Sums.{sum_by-append, sum_by-cons}
use Rattle.std.proofs.lemmas.Str.Parse.{IsNumeralModel, numerals_by_value}
use Rattle.std.proofs.lemmas.Fmt.{decimal-digits_value, decimal_is_IsNumeral, first_decimal, decimal_digit}
use Rattle.std.proofs.lemmas.List.{append-nil, nil_from_length}
use Rattle.patch_table.specs.Table.{Table, no_patches, pair_cmp}
use Rattle.patch_table.specs.Limits.{IsPad, IsFront, IsDefer, InLimits}
use Rattle.patch_table.specs.Line.{IsNumber, IsKey, Allows, IsLine, InLimit, words_of, line_of}
use Rattle.patch_table.specs.Grammar.{Rises, with_line, IsText, next_line}
use Rattle.patch_table.specs.Spelling.{pad_line, front_line, defer_line, body_of, head_of, spelling, IsSpelled}
use Rattle.patch_table.specs.declared.line.Key.{Key}
use Rattle.patch_table.specs.declared.line.Key.TheVariants.{Pad, Front, Defer}
use Rattle.patch_table.specs.declared.line.Version.{Version}
use Rattle.patch_table.specs.declared.line.Version.TheVariants.{One, Two}
use Rattle.patch_table.proofs.Trees.{pairs_total}
use Rattle.patch_table.proofs.Lines.{Lacks, lacks_words}
use Rattle.patch_table.proofs.Fits.{raised_at_end}

-- ---- a table with one line more

flat_at_end : {X : Type 0} (f : X → List ℕ) (xs : List X) (x : X) → flat_map f (xs ++ x ∷ []) ≡ flat_map f xs ++ f x
flat_at_end f [] x = append-nil (f x)
flat_at_end f (y ∷ xs) x = ap (λ t. f y ++ t) (flat_at_end f xs x) ∙ sym (append_assoc (f y) (flat_map f xs) (f x))

pub all_at_end : {X : Type 0} (P : X → Type 0) (xs : List X) (x : X) → AllByRecursion P xs → P x → AllByRecursion P (xs ++ x ∷ [])
all_at_end P [] x h p = (p, tt)
all_at_end P (y ∷ xs) x h p = (h.0, all_at_end P xs x h.1 p)

body_grows : (t : Table) (key : Key) (n : ℕ) → Rises t key → body_of (with_line t key n) ≡ body_of t ++ line_of key (decimal n)
body_grows t (Pad site) n h =
    let pads = raised_at_end nat_cmp nat_cmp_total t.pads site n h.2 in
    rw (h.0, h.1, pads, flat_at_end pad_line (entries t.pads) (site, n)) (simp (append-nil {A = ℕ}))
body_grows t (Front site) n h =
    let fronts = raised_at_end nat_cmp nat_cmp_total t.fronts site n h.1 in
    rw (h.0, fronts, flat_at_end front_line (entries t.fronts) (site, n)) (simp (append-nil {A = ℕ}, append_assoc {A = ℕ}))
body_grows t (Defer a f) n h =
    let defers = raised_at_end pair_cmp pairs_total t.defers (a, f) n h in
    rw (defers, flat_at_end defer_line (entries t.defers) ((a, f), n)) (simp (append_assoc {A = ℕ}))

fits_grow : (t : Table) (key : Key) (n : ℕ) → Rises t key → InLimits t → InLimit key n → IsKey key → InLimits (with_line t key n)
fits_grow t (Pad site) n h fits limit key =
    let P : List (ℕ × ℕ) → Type 0 = AllByRecursion IsPad in
    record {
      pads = subst P (sym (raised_at_end nat_cmp nat_cmp_total t.pads site n h.2)) (all_at_end IsPad (entries t.pads) (site, n) fits.pads (key, limit.0, limit.1));
      fronts = fits.fronts;
      defers = fits.defers;
    }
fits_grow t (Front site) n h fits limit key =
    let P : List (ℕ × ℕ) → Type 0 = AllByRecursion IsFront in
    record {
      pads = fits.pads;
      fronts = subst P (sym (raised_at_end nat_cmp nat_cmp_total t.fronts site n h.1)) (all_at_end IsFront (entries t.fronts) (site, n) fits.fronts (key, limit.0, limit.1, limit.2));
      defers = fits.defers;
    }
fits_grow t (Defer a f) n h fits limit key =
    let P : List ((ℕ × ℕ) × ℕ) → Type 0 = AllByRecursion IsDefer in
    record {
      pads = fits.pads;
      fronts = fits.fronts;
      defers = subst P (sym (raised_at_end pair_cmp pairs_total t.defers (a, f) n h)) (all_at_end IsDefer (entries t.defers) ((a, f), n) fits.defers (key.0, key.1, limit.0, limit.1));
    }

-- ---- numbers

pub limit_small : (key : Key) (value : ℕ) → InLimit key value → value < 2 ^ 32
limit_small (Pad site) value h = omega arith
limit_small (Front site) value h = omega arith
limit_small (Defer a f) value h = h.1

pub limit_same : (key : Key) (value number : ℕ) → number ≡ min value (2 ^ 64 - 1) → InLimit key number ↔ InLimit key value
limit_same (Pad site) value number e = (λ h. (omega arith, omega arith), λ h. (omega arith, omega arith))
limit_same (Front site) value number e = (
  λ h. let same : number ≡ value = omega (arith, e, h.1) in (omega (arith, same, h.0), omega (arith, same, h.1), subst (λ n. n % 16 ≡ 0) same h.2),
  λ h. let same : number ≡ value = omega (arith, e, h.1) in (omega (arith, same, h.0), omega (arith, same, h.1), subst (λ n. n % 16 ≡ 0) (sym same) h.2),
)
limit_same (Defer a f) value number e = (λ h. (omega arith, omega arith), λ h. (omega arith, omega arith))

numerals : IsNumeralModel (AllDigits 10) (digits_value 10)
numerals = numerals_by_value (AllDigits 10) (search rules)

number_text : (digits : List ℕ) → IsNumber digits → digits_value 10 digits < 2 ^ 64 → decimal (digits_value 10 digits) ≡ digits
number_text digits h small = decimal-digits_value numerals digits h.numeral.1 h.numeral.0 h.shortest small

-- a number in its range is spelled in one way
pub line_text : (version : Version) (line : List ℕ) (key : Key) (n : ℕ) → IsLine version line key n → InLimit key n → line ≡ line_of key (decimal n)
line_text version line key n is limit =
    let small = limit_small key n limit in
    is.spelled ∙ ap (line_of key) (sym (ap decimal is.value ∙ number_text is.digits is.number (omega (arith, is.value, small))))

pub number_of : (n : ℕ) → n < 2 ^ 32 → IsNumber (decimal n)
number_of n small = record { numeral = (decimal_is_IsNumeral n (omega arith)).0; shortest = λ e. short n small e }
  where
    short : (n : ℕ) → n < 2 ^ 32 → get_or (decimal n) 0 0 ≡ 48 → length (decimal n) ≡ 1
    short zero small e = ap length (decimal_digit 0 (omega arith))
    short (suc n) small e = absurd (omega (arith, first_decimal (suc n) (omega arith) (omega arith), e))

pub value_of : (n : ℕ) → n < 2 ^ 32 → digits_value 10 (decimal n) ≡ n
value_of n small = (decimal_is_IsNumeral n (omega arith)).1

pub is_line_of : (version : Version) (key : Key) (n : ℕ) → IsKey key → Allows version key → n < 2 ^ 32 → IsLine version (line_of key (decimal n)) key n
is_line_of version key n named allowed small = record { digits = decimal n; number = number_of n small; value = sym (value_of n small); named = named; allowed = allowed; spelled = refl }

-- ---- lines

-- a line takes a place at least
pub line_some : (key : Key) (digits : List ℕ) → 0 < length (line_of key digits)
line_some (Pad site) digits = omega arith
line_some (Front site) digits = omega arith
line_some (Defer a f) digits = omega arith

abbrev feeds : List ℕ → ℕ
feeds xs = count_by (λ b. eqb b 10) xs

no_feed : (xs : List ℕ) → Lacks xs → feeds xs ≡ 0
no_feed [] h = refl
no_feed (x ∷ xs) h =
    let f : ℕ → ℕ = λ b. cond (eqb b 10) 1 0 in
    let none : f x ≡ 0 = ap (λ b. cond b 1 0) (ne_eqb x 10 h.0) in
    sum_by-cons f x xs ∙ ap (λ n. n + feeds xs) none ∙ zero-add (feeds xs) ∙ no_feed xs h.1

-- the next line has the next number
pub next_number : (version : Version) (text line : List ℕ) (key : Key) (n : ℕ) → IsLine version line key n → next_line (text ++ line) ≡ next_line text + 1
next_number version text line key n is =
    let words = words_of key is.digits in
    let f : ℕ → ℕ = λ b. cond (eqb b 10) 1 0 in
    let one : feeds line ≡ 1 = ap feeds is.spelled ∙ sum_by-append f words (10 ∷ []) ∙ ap (λ x. x + 1) (no_feed words (lacks_words key is.digits is.number)) in
    omega (arith, sum_by-append f text line, one)

-- ---- the grammar and the spelling

pub nothing : {K : Type 0} (R : K → K → Ordering) (X : Type 0) → entries (empty {X = X} {R = R}) ≡ []
nothing R X = nil_from_length (entries (empty {X = X} {R = R})) (sym (len-entries (empty {X = X} {R = R})) ∙ len-empty R X)

empty_spelling : (version : Version) → spelling version no_patches ≡ head_of version
empty_spelling version = rw (nothing nat_cmp ℕ, nothing pair_cmp ℕ) (append-nil (head_of version))

empty_spelled : (version : Version) → IsSpelled version no_patches
empty_spelled One = refl
empty_spelled Two = tt

pub empty_fits : InLimits no_patches
empty_fits = record { pads = subst (AllByRecursion IsPad) (sym (nothing nat_cmp ℕ)) tt; fronts = subst (AllByRecursion IsFront) (sym (nothing nat_cmp ℕ)) tt; defers = subst (AllByRecursion IsDefer) (sym (nothing pair_cmp ℕ)) tt }

spelling_grows : (version : Version) (t : Table) (key : Key) (n : ℕ) → Rises t key → spelling version (with_line t key n) ≡ spelling version t ++ line_of key (decimal n)
spelling_grows version t key n h = ap (λ b. head_of version ++ b) (body_grows t key n h) ∙ sym (append_assoc (head_of version) (body_of t) (line_of key (decimal n)))

spelled_grows : (version : Version) (t : Table) (key : Key) (n : ℕ) → Allows version key → IsSpelled version t → IsSpelled version (with_line t key n)
spelled_grows One t (Pad site) n allowed h = h
spelled_grows One t (Front site) n allowed h = absurd allowed
spelled_grows One t (Defer a f) n allowed h = h
spelled_grows Two t key n allowed h = tt

pub text_is_spelling : {version : Version} {text : List ℕ} {table : Table} → IsText version text table → IsSpelled version table × InLimits table × (text ≡ spelling version table)
text_is_spelling (IsText.head {version}) = (empty_spelled version, empty_fits, sym (empty_spelling version))
text_is_spelling (IsText.next {version} {text} {table} line key n t is limit rises) =
    let so_far = text_is_spelling t in (
      spelled_grows version table key n is.allowed so_far.0,
      fits_grow table key n rises so_far.1 limit is.named,
      ap (λ x. x ++ line) so_far.2 ∙ ap (λ l. spelling version table ++ l) (line_text version line key n is limit) ∙ sym (spelling_grows version table key n rises),
    )

-- ---- the first line

pub head_long : (version : Version) → length (head_of version) ≡ 17
head_long One = refl
head_long Two = refl

-- the versions differ in the digit
pub one_head : (version other : Version) (x y : List ℕ) → head_of version ++ x ≡ head_of other ++ y → version ≡ other
one_head One One x y e = refl
one_head One Two x y e = absurd (omega (arith, ap (λ xs. get_or xs 15 0) e))
one_head Two One x y e = absurd (omega (arith, ap (λ xs. get_or xs 15 0) e))
one_head Two Two x y e = refl

pub one_version : (version other : Version) (text : List ℕ) (a b : Table) → IsText version text a → IsText other text b → version ≡ other
one_version version other text a b is also = one_head version other (body_of a) (body_of b) (sym (text_is_spelling is).2 ∙ (text_is_spelling also).2)
