-- No text has two answers.
use Rattle.std.proofs.Common.{◌≡◌, ◌≢◌, ◌⊎◌, inl, inr, ℕ, zero, suc, ◌+◌, ◌*◌, ◌/◌, ◌%◌, ◌^◌, ◌<◌, ◌≤◌, Bool, true, false, cond, ◌&&◌, nat_lt, List, [], ◌∷◌, ◌++◌, length, get_or, take, drop, map, Option, Some, None, Result, Ok, Err, refl, sym, ap, subst, ◌∙◌, append_assoc, arith, length-append}
use Rattle.std.specs.Prelude.{T, position}
use Rattle.std.specs.Ordering.{nat_cmp}
use Rattle.std.specs.declared.cmp.Ordering.{Ordering}
use Rattle.std.specs.declared.cmp.Ordering.TheVariants.{Less}
use Rattle.std.specs.List.{flat_map, AllByRecursion}
use Rattle.std.specs.Fmt.{decimal}
use Rattle.std.specs.FinMap.{FinMap, entries, entries_sorted, same_entries_map, is_sorted}
use Rattle.std.specs.FinMap.Entries.{below_all}
use Rattle.std.specs.Str.Parse.{digits_value}
use Rattle.std.proofs.lemmas.List.{append-nil, append_cancel_left, take_at, drop_at}
use Rattle.std.proofs.lemmas.Fmt.{decimal_injective}
use Rattle.hex_text.specs.Laws.{hex_same}
use Rattle.patch_table.specs.Table.{Table, pair_cmp}
use Rattle.patch_table.specs.Limits.{IsPad, IsFront, IsDefer, InLimits}
use Rattle.patch_table.specs.Line.{field, IsNumber, IsKey, Allows, IsLine, InLimit, words_of, line_of}
use Rattle.patch_table.specs.Grammar.{AllBelow, Rises, next_line, BreaksAt, IsNoLine, IsBeyond, IsOutOfOrder, Answers, WantsMemory}
use Rattle.patch_table.specs.Spelling.{pad_line, front_line, defer_line, body_of, head_of, spelling, IsSpelled}
use Rattle.patch_table.specs.declared.line.Key.{Key}
use Rattle.patch_table.specs.declared.line.Key.TheVariants.{Pad, Front, Defer}
use Rattle.patch_table.specs.declared.reading.PatchRefusal.{PatchRefusal}
use Rattle.patch_table.specs.declared.reading.PatchRefusal.TheVariants as why
use Rattle.patch_table.specs.declared.line.Version.{Version}
use Rattle.patch_table.specs.declared.line.Version.TheVariants.{One, Two}
use Rattle.patch_table.proofs.Lines.{rest_of_field, digits_of_field, lacks_words, end_is, text_of_line}
use Rattle.patch_table.proofs.Order.{first, second, less}
use Rattle.patch_table.proofs.Texts.{nothing, limit_small, line_some, number_of, is_line_of, one_head, text_is_spelling}

-- ---- one form of each line

site_same : (a b : ℕ) (x y : List ℕ) → a < 2 ^ 32 → b < 2 ^ 32 → field a x ≡ field b y → a ≡ b
site_same a b x y p q e = hex_same 8 a b p q (digits_of_field a b x y e)

words_same : (k l : Key) (d f : List ℕ) → IsKey k → IsKey l → words_of k d ≡ words_of l f → (k ≡ l) × (d ≡ f)
words_same (Pad a) (Pad b) d f p q e =
    let t : field a d ≡ field b f = ap (drop 4) e in
    (ap Pad (site_same a b d f p q t), rest_of_field a b d f t)
words_same (Pad a) (Front b) d f p q e = absurd (omega (arith, ap (λ xs. get_or xs 0 0) e))
words_same (Pad a) (Defer b c) d f p q e = absurd (omega (arith, ap (λ xs. get_or xs 0 0) e))
words_same (Front a) (Pad b) d f p q e = absurd (omega (arith, ap (λ xs. get_or xs 0 0) e))
words_same (Front a) (Front b) d f p q e =
    let t : field a d ≡ field b f = ap (drop 6) e in
    (ap Front (site_same a b d f p q t), rest_of_field a b d f t)
words_same (Front a) (Defer b c) d f p q e = absurd (omega (arith, ap (λ xs. get_or xs 0 0) e))
words_same (Defer a b) (Pad c) d f p q e = absurd (omega (arith, ap (λ xs. get_or xs 0 0) e))
words_same (Defer a b) (Front c) d f p q e = absurd (omega (arith, ap (λ xs. get_or xs 0 0) e))
words_same (Defer a b) (Defer c g) d f p q e =
    let t : field a (field b d) ≡ field c (field g f) = ap (drop 6) e in
    let u : field b d ≡ field g f = rest_of_field a c (field b d) (field g f) t in
    let first = site_same a c (field b d) (field g f) p.0 q.0 t in
    let second = site_same b g d f p.1 q.1 u in
    (ap (λ x. Defer x b) first ∙ ap (Defer c) second, rest_of_field b g d f u)

one_form : (k l : Key) (d f x y : List ℕ) → IsNumber d → IsNumber f → IsKey k → IsKey l → line_of k d ++ x ≡ line_of l f ++ y → (k ≡ l) × (d ≡ f) × (x ≡ y)
one_form k l d f x y nd nf p q e =
    let both : words_of k d ++ 10 ∷ x ≡ words_of l f ++ 10 ∷ y = sym (text_of_line k d x) ∙ e ∙ text_of_line l f y in
    let ends : Some (length (words_of k d)) ≡ Some (length (words_of l f)) = sym (end_is (words_of k d) x (lacks_words k d nd)) ∙ ap (position (λ b. Rattle.std.proofs.Common.eqb b 10)) both ∙ end_is (words_of l f) y (lacks_words l f nf) in
    let long : length (words_of l f) ≡ length (words_of k d) = cc in
    let words : words_of k d ≡ words_of l f = sym (take_at (words_of k d) (10 ∷ x) (length (words_of k d)) refl) ∙ ap (take (length (words_of k d))) both ∙ take_at (words_of l f) (10 ∷ y) (length (words_of k d)) long in
    let rest : 10 ∷ x ≡ 10 ∷ y = sym (drop_at (words_of k d) (10 ∷ x) (length (words_of k d)) refl) ∙ ap (drop (length (words_of k d))) both ∙ drop_at (words_of l f) (10 ∷ y) (length (words_of k d)) long in
    let w = words_same k l d f p q words in
    (w.0, w.1, ap (drop 1) rest)

-- two lines at the front of one text are the same
same_line : (version : Version) (k l : Key) (m n : ℕ) (a b x y : List ℕ) → IsLine version a k m → IsLine version b l n → a ++ x ≡ b ++ y → (k ≡ l) × (m ≡ n) × (x ≡ y)
same_line version k l m n a b x y is it e =
    let o = one_form k l is.digits it.digits x y is.number it.number is.named it.named (sym (ap (λ t. t ++ x) is.spelled) ∙ e ∙ ap (λ t. t ++ y) it.spelled) in
    (o.0, is.value ∙ ap (digits_value 10) o.1 ∙ sym it.value, o.2)

-- ---- tables as lists of lines

abbrev line : Key × ℕ → List ℕ
line i = line_of i.0 (decimal i.1)

abbrev IsItem : Key × ℕ → Type 0
IsItem i = IsKey i.0 × InLimit i.0 i.1

small_item : (i : Key × ℕ) → IsItem i → i.1 < 2 ^ 32
small_item i h = limit_small i.0 i.1 h.1

abbrev site_item : (ℕ → Key) → ℕ × ℕ → Key × ℕ
site_item kind e = (kind e.0, e.1)

abbrev defer_item : (ℕ × ℕ) × ℕ → Key × ℕ
defer_item e = (Defer e.0.0 e.0.1, e.1)

-- the items of sites, and others behind them
abbrev sites_then : (ℕ → Key) → List (ℕ × ℕ) → List (Key × ℕ) → List (Key × ℕ)
sites_then kind [] rest = rest
sites_then kind (e ∷ es) rest = site_item kind e ∷ sites_then kind es rest

abbrev items_of : List (ℕ × ℕ) → List (ℕ × ℕ) → List ((ℕ × ℕ) × ℕ) → List (Key × ℕ)
items_of p f d = sites_then Pad p (sites_then Front f (map defer_item d))

abbrev items : Table → List (Key × ℕ)
items t = items_of (entries t.pads) (entries t.fronts) (entries t.defers)

sites_text : (kind : ℕ → Key) (es : List (ℕ × ℕ)) (rest : List (Key × ℕ)) → flat_map (λ e. line (site_item kind e)) es ++ flat_map line rest ≡ flat_map line (sites_then kind es rest)
sites_text kind [] rest = refl
sites_text kind (e ∷ es) rest = append_assoc (line (site_item kind e)) (flat_map (λ x. line (site_item kind x)) es) (flat_map line rest) ∙ ap (λ t. line (site_item kind e) ++ t) (sites_text kind es rest)

defers_text : (d : List ((ℕ × ℕ) × ℕ)) → flat_map defer_line d ≡ flat_map line (map defer_item d)
defers_text [] = refl
defers_text (e ∷ d) = ap (λ t. defer_line e ++ t) (defers_text d)

items_text : (p f : List (ℕ × ℕ)) (d : List ((ℕ × ℕ) × ℕ)) → flat_map pad_line p ++ (flat_map front_line f ++ flat_map defer_line d) ≡ flat_map line (items_of p f d)
items_text p f d =
    ap (λ t. flat_map pad_line p ++ (flat_map front_line f ++ t)) (defers_text d) ∙ ap (λ t. flat_map pad_line p ++ t) (sites_text Front f (map defer_item d))
    ∙ sites_text Pad p (sites_then Front f (map defer_item d))

sites_fit : (kind : ℕ → Key) (P : ℕ × ℕ → Type 0) → ((e : ℕ × ℕ) → P e → IsItem (site_item kind e)) → (es : List (ℕ × ℕ)) (rest : List (Key × ℕ)) → AllByRecursion P es → AllByRecursion IsItem rest
    → AllByRecursion IsItem (sites_then kind es rest)
sites_fit kind P each [] rest h g = g
sites_fit kind P each (e ∷ es) rest h g = (each e h.0, sites_fit kind P each es rest h.1 g)

defers_fit : (d : List ((ℕ × ℕ) × ℕ)) → AllByRecursion IsDefer d → AllByRecursion IsItem (map defer_item d)
defers_fit [] h = tt
defers_fit (e ∷ d) h = (((h.0.0, h.0.1), (h.0.2, h.0.3)), defers_fit d h.1)

all_items : (t : Table) → InLimits t → AllByRecursion IsItem (items t)
all_items t h =
    sites_fit Pad IsPad (λ e p. (p.0, (p.1, p.2))) (entries t.pads) (sites_then Front (entries t.fronts) (map defer_item (entries t.defers))) h.pads
    (sites_fit Front IsFront (λ e p. (p.0, (p.1, p.2, p.3))) (entries t.fronts) (map defer_item (entries t.defers)) h.fronts (defers_fit (entries t.defers) h.defers))

-- ---- the entries of each kind among the items

abbrev pads_in : List (Key × ℕ) → List (ℕ × ℕ)
pads_in [] = []
pads_in ((Pad a, n) ∷ is) = (a, n) ∷ pads_in is
pads_in ((Front a, n) ∷ is) = pads_in is
pads_in ((Defer a b, n) ∷ is) = pads_in is

abbrev fronts_in : List (Key × ℕ) → List (ℕ × ℕ)
fronts_in [] = []
fronts_in ((Pad a, n) ∷ is) = fronts_in is
fronts_in ((Front a, n) ∷ is) = (a, n) ∷ fronts_in is
fronts_in ((Defer a b, n) ∷ is) = fronts_in is

abbrev defers_in : List (Key × ℕ) → List ((ℕ × ℕ) × ℕ)
defers_in [] = []
defers_in ((Pad a, n) ∷ is) = defers_in is
defers_in ((Front a, n) ∷ is) = defers_in is
defers_in ((Defer a b, n) ∷ is) = ((a, b), n) ∷ defers_in is

pads_back : (p f : List (ℕ × ℕ)) (d : List ((ℕ × ℕ) × ℕ)) → pads_in (items_of p f d) ≡ p
pads_back [] [] [] = refl
pads_back [] [] (x ∷ d) = pads_back [] [] d
pads_back [] (x ∷ f) d = pads_back [] f d
pads_back (x ∷ p) f d = ap (λ (t : List (ℕ × ℕ)). x ∷ t) (pads_back p f d)

fronts_back : (p f : List (ℕ × ℕ)) (d : List ((ℕ × ℕ) × ℕ)) → fronts_in (items_of p f d) ≡ f
fronts_back [] [] [] = refl
fronts_back [] [] (x ∷ d) = fronts_back [] [] d
fronts_back [] (x ∷ f) d = ap (λ (t : List (ℕ × ℕ)). x ∷ t) (fronts_back [] f d)
fronts_back (x ∷ p) f d = fronts_back p f d

defers_back : (p f : List (ℕ × ℕ)) (d : List ((ℕ × ℕ) × ℕ)) → defers_in (items_of p f d) ≡ d
defers_back [] [] [] = refl
defers_back [] [] (x ∷ d) = ap (λ (t : List ((ℕ × ℕ) × ℕ)). x ∷ t) (defers_back [] [] d)
defers_back [] (x ∷ f) d = defers_back [] f d
defers_back (x ∷ p) f d = defers_back p f d

tables_same : (t u : Table) → items t ≡ items u → t ≡ u
tables_same t u e =
    let p = same_entries_map t.pads u.pads (sym (pads_back (entries t.pads) (entries t.fronts) (entries t.defers)) ∙ ap pads_in e ∙ pads_back (entries u.pads) (entries u.fronts) (entries u.defers)) in
    let f = same_entries_map t.fronts u.fronts (sym (fronts_back (entries t.pads) (entries t.fronts) (entries t.defers)) ∙ ap fronts_in e ∙ fronts_back (entries u.pads) (entries u.fronts) (entries u.defers)) in
    let d = same_entries_map t.defers u.defers (sym (defers_back (entries t.pads) (entries t.fronts) (entries t.defers)) ∙ ap defers_in e ∙ defers_back (entries u.pads) (entries u.fronts) (entries u.defers)) in
    λ i. record { pads = p i; fronts = f i; defers = d i }

-- ---- in order

abbrev KeyLess : Key → Key → Type 0
KeyLess (Pad a) (Pad b) = nat_cmp a b ≡ Less
KeyLess (Pad a) (Front b) = Unit {0}
KeyLess (Pad a) (Defer b c) = Unit {0}
KeyLess (Front a) (Pad b) = ⊥
KeyLess (Front a) (Front b) = nat_cmp a b ≡ Less
KeyLess (Front a) (Defer b c) = Unit {0}
KeyLess (Defer a b) (Pad c) = ⊥
KeyLess (Defer a b) (Front c) = ⊥
KeyLess (Defer a b) (Defer c d) = pair_cmp (a, b) (c, d) ≡ Less

abbrev IsRising : List (Key × ℕ) → Type 0
IsRising [] = Unit {0}
IsRising (i ∷ is) = AllByRecursion (λ j. KeyLess i.0 j.0) is × IsRising is

-- sites that are above a key, and others that are
sites_above : (key : Key) (kind : ℕ → Key) (P : ℕ × ℕ → Type 0) → ((e : ℕ × ℕ) → P e → KeyLess key (kind e.0)) → (es : List (ℕ × ℕ)) (rest : List (Key × ℕ)) → AllByRecursion P es
    → AllByRecursion (λ (j : Key × ℕ). KeyLess key j.0) rest → AllByRecursion (λ (j : Key × ℕ). KeyLess key j.0) (sites_then kind es rest)
sites_above key kind P each [] rest h g = g
sites_above key kind P each (e ∷ es) rest h g = (each e h.0, sites_above key kind P each es rest h.1 g)

defers_above : (key : Key) → ((a b : ℕ) → KeyLess key (Defer a b)) → (d : List ((ℕ × ℕ) × ℕ)) → AllByRecursion (λ (j : Key × ℕ). KeyLess key j.0) (map defer_item d)
defers_above key each [] = tt
defers_above key each (e ∷ d) = (each e.0.0 e.0.1, defers_above key each d)

any : {X : Type 0} (es : List X) → AllByRecursion (λ (e : X). Unit {0}) es
any [] = tt
any (e ∷ es) = (tt, any es)

above_of : {K : Type 0} (R : K → K → Ordering) (k : K) (es : List (K × ℕ)) → T (below_all R k es) → AllByRecursion (λ e. R k e.0 ≡ Less) es
above_of R k [] h = tt
above_of R k (e ∷ es) h = (less (R k e.0) (first _ _ h), above_of R k es (second _ _ h))

defers_mapped : (x : ℕ × ℕ) (d : List ((ℕ × ℕ) × ℕ)) → AllByRecursion (λ (e : (ℕ × ℕ) × ℕ). pair_cmp x e.0 ≡ Less) d → AllByRecursion (λ (j : Key × ℕ). KeyLess (Defer x.0 x.1) j.0) (map defer_item d)
defers_mapped x [] h = tt
defers_mapped x (e ∷ d) h = (h.0, defers_mapped x d h.1)

items_rise : (p f : List (ℕ × ℕ)) (d : List ((ℕ × ℕ) × ℕ)) → T (is_sorted nat_cmp p) → T (is_sorted nat_cmp f) → T (is_sorted pair_cmp d) → IsRising (items_of p f d)
items_rise [] [] [] hp hf hd = tt
items_rise [] [] (e ∷ d) hp hf hd = (defers_mapped e.0 d (above_of pair_cmp e.0 d (first _ _ hd)), items_rise [] [] d hp hf (second _ _ hd))
items_rise [] (e ∷ f) d hp hf hd = (
  sites_above (Front e.0) Front (λ x. nat_cmp e.0 x.0 ≡ Less) (λ x l. l) f (map defer_item d) (above_of nat_cmp e.0 f (first _ _ hf)) (defers_above (Front e.0) (λ a b. tt) d),
  items_rise [] f d hp (second _ _ hf) hd,
)
items_rise (e ∷ p) f d hp hf hd = (
  sites_above (Pad e.0) Pad (λ x. nat_cmp e.0 x.0 ≡ Less) (λ x l. l) p (sites_then Front f (map defer_item d)) (above_of nat_cmp e.0 p (first _ _ hp))
      (sites_above (Pad e.0) Front (λ x. Unit {0}) (λ x l. tt) f (map defer_item d) (any f) (defers_above (Pad e.0) (λ a b. tt) d)),
  items_rise p f d (second _ _ hp) hf hd,
)

all_back : (P : Key × ℕ → Type 0) (xs : List (Key × ℕ)) (c : Key × ℕ) (cs : List (Key × ℕ)) → AllByRecursion P (xs ++ c ∷ cs) → P c
all_back P [] c cs h = h.0
all_back P (x ∷ xs) c cs h = all_back P xs c cs h.1

split_rises : (bs : List (Key × ℕ)) (c : Key × ℕ) (cs : List (Key × ℕ)) → IsRising (bs ++ c ∷ cs) → AllByRecursion (λ (i : Key × ℕ). KeyLess i.0 c.0) bs
split_rises [] c cs h = tt
split_rises (b ∷ bs) c cs h = (all_back (λ j. KeyLess b.0 j.0) bs c cs h.0, split_rises bs c cs h.1)

-- ---- what items below a key say of each kind

below_pad : (s : ℕ) (is : List (Key × ℕ)) → AllByRecursion (λ (i : Key × ℕ). KeyLess i.0 (Pad s)) is → (fronts_in is ≡ []) × (defers_in is ≡ []) × AllBelow nat_cmp (pads_in is) s
below_pad s [] h = (refl, refl, tt)
below_pad s ((Pad a, n) ∷ is) h = let t = below_pad s is h.1 in (t.0, t.1, (h.0, t.2))
below_pad s ((Front a, n) ∷ is) h = absurd h.0
below_pad s ((Defer a b, n) ∷ is) h = absurd h.0

below_front : (s : ℕ) (is : List (Key × ℕ)) → AllByRecursion (λ (i : Key × ℕ). KeyLess i.0 (Front s)) is → (defers_in is ≡ []) × AllBelow nat_cmp (fronts_in is) s
below_front s [] h = (refl, tt)
below_front s ((Pad a, n) ∷ is) h = below_front s is h.1
below_front s ((Front a, n) ∷ is) h = let t = below_front s is h.1 in (t.0, (h.0, t.1))
below_front s ((Defer a b, n) ∷ is) h = absurd h.0

below_defer : (a b : ℕ) (is : List (Key × ℕ)) → AllByRecursion (λ (i : Key × ℕ). KeyLess i.0 (Defer a b)) is → AllBelow pair_cmp (defers_in is) (a, b)
below_defer a b [] h = tt
below_defer a b ((Pad s, n) ∷ is) h = below_defer a b is h.1
below_defer a b ((Front s, n) ∷ is) h = below_defer a b is h.1
below_defer a b ((Defer c d, n) ∷ is) h = (h.0, below_defer a b is h.1)

rises_from : (t : Table) (key : Key) → AllByRecursion (λ (i : Key × ℕ). KeyLess i.0 key) (items t) → Rises t key
rises_from t (Pad s) h =
    let below = below_pad s (items t) h in (
      sym (fronts_back (entries t.pads) (entries t.fronts) (entries t.defers)) ∙ below.0,
      sym (defers_back (entries t.pads) (entries t.fronts) (entries t.defers)) ∙ below.1,
      subst (λ es. AllBelow nat_cmp es s) (pads_back (entries t.pads) (entries t.fronts) (entries t.defers)) below.2,
    )
rises_from t (Front s) h =
    let below = below_front s (items t) h in (
      sym (defers_back (entries t.pads) (entries t.fronts) (entries t.defers)) ∙ below.0,
      subst (λ es. AllBelow nat_cmp es s) (fronts_back (entries t.pads) (entries t.fronts) (entries t.defers)) below.1,
    )
rises_from t (Defer a b) h = subst (λ es. AllBelow pair_cmp es (a, b)) (defers_back (entries t.pads) (entries t.fronts) (entries t.defers)) (below_defer a b (items t) h)

-- ---- two tables at the front of one text

record Longer (xs ys : List (Key × ℕ)) (x y : List ℕ) : Type 0 where
  next : Key × ℕ
  others : List (Key × ℕ)
  is : xs ≡ ys ++ next ∷ others
  fits : IsItem next
  begins : y ≡ line next ++ (flat_map line others ++ x)

Compared : List (Key × ℕ) → List (Key × ℕ) → List ℕ → List ℕ → Type 0
Compared xs ys x y = ((xs ≡ ys) × (x ≡ y)) ⊎ (Longer xs ys x y ⊎ Longer ys xs y x)

one_more : (a b : Key × ℕ) (xs ys : List (Key × ℕ)) (x y : List ℕ) → a ≡ b → Compared xs ys x y → Compared (a ∷ xs) (b ∷ ys) x y
unfolding Compared
one_more a b xs ys x y e (inl s) = inl ((λ i. e i ∷ s.0 i), s.1)
one_more a b xs ys x y e (inr (inl l)) = inr (inl (record { next = l.next; others = l.others; is = λ i. e i ∷ l.is i; fits = l.fits; begins = l.begins }))
one_more a b xs ys x y e (inr (inr l)) = inr (inr (record { next = l.next; others = l.others; is = λ i. sym e i ∷ l.is i; fits = l.fits; begins = l.begins }))

compare : (xs ys : List (Key × ℕ)) (x y : List ℕ) → AllByRecursion IsItem xs → AllByRecursion IsItem ys → flat_map line xs ++ x ≡ flat_map line ys ++ y → Compared xs ys x y
unfolding Compared
compare [] [] x y h g e = inl (refl, e)
compare [] (b ∷ ys) x y h g e = inr (inr (record { next = b; others = ys; is = refl; fits = g.0; begins = e ∙ append_assoc (line b) (flat_map line ys) y }))
compare (a ∷ xs) [] x y h g e = inr (inl (record { next = a; others = xs; is = refl; fits = h.0; begins = sym e ∙ append_assoc (line a) (flat_map line xs) x }))
compare (a ∷ xs) (b ∷ ys) x y h g e =
    let sa = small_item a h.0 in
    let sb = small_item b g.0 in
    let o = one_form a.0 b.0 (decimal a.1) (decimal b.1) (flat_map line xs ++ x) (flat_map line ys ++ y) (number_of a.1 sa) (number_of b.1 sb) h.0.0 g.0.0 (sym (append_assoc (line a) (flat_map line xs) x) ∙ e ∙ append_assoc (line b) (flat_map line ys) y) in
    let n : a.1 ≡ b.1 = decimal_injective a.1 b.1 (omega arith) (omega arith) o.1 in
    let same : a ≡ b = λ i. (o.0 i, n i) in
    one_more a b xs ys x y same (compare xs ys x y h.1 g.1 o.2)

-- ---- what stops a reading

Stops : Version → Table → List ℕ → Type 0
Stops v t rest = (c : Key × ℕ) (more : List ℕ) → IsItem c → Allows v c.0 → Rises t c.0 → rest ≢ line c ++ more

item_line : (v : Version) (c : Key × ℕ) → IsItem c → Allows v c.0 → IsLine v (line c) c.0 c.1
item_line v c fits allowed = is_line_of v c.0 c.1 fits.0 allowed (small_item c fits)

some_left : (v : Version) (text : List ℕ) (k : Key) (n : ℕ) (more rest : List ℕ) → IsLine v text k n → rest ≡ [] → rest ≡ text ++ more → ⊥
some_left v text k n more rest is e parts = omega (arith, ap length e, ap length parts, length-append text more, ap length is.spelled, line_some k is.digits)

end_stops : (v : Version) (t : Table) (rest : List ℕ) → rest ≡ [] → Stops v t rest
unfolding Stops
end_stops v t rest e c more fits allowed rises is = absurd (some_left v (line c) c.0 c.1 more rest (item_line v c fits allowed) e is)

line_stops : (v : Version) (t : Table) (rest : List ℕ) → IsNoLine v t rest → Stops v t rest
unfolding Stops
line_stops v t rest h c more fits allowed rises is = h.none (line c) c.0 c.1 more (item_line v c fits allowed) is

limit_stops : (v : Version) (t : Table) (rest : List ℕ) → IsBeyond v t rest → Stops v t rest
unfolding Stops
limit_stops v t rest h c more fits allowed rises is =
    let s = same_line v h.key c.0 h.value c.1 h.line (line c) h.more more h.is_line (item_line v c fits allowed) (sym h.parts ∙ is) in
    h.beyond (subst (λ k. InLimit k h.value) (sym s.0) (subst (InLimit c.0) (sym s.1) fits.1))

order_stops : (v : Version) (t : Table) (rest : List ℕ) → IsOutOfOrder v t rest → Stops v t rest
unfolding Stops
order_stops v t rest h c more fits allowed rises is =
    let s = same_line v h.key c.0 h.value c.1 h.line (line c) h.more more h.is_line (item_line v c fits allowed) (sym h.parts ∙ is) in
    h.falls (subst (Rises t) (sym s.0) rises)

-- what is spelled in a version is allowed there
any_allowed : (is : List (Key × ℕ)) → AllByRecursion (λ (i : Key × ℕ). Allows Two i.0) is
any_allowed [] = tt
any_allowed (i ∷ is) = (tt, any_allowed is)

old_defers : (d : List ((ℕ × ℕ) × ℕ)) → AllByRecursion (λ (i : Key × ℕ). Allows One i.0) (map defer_item d)
old_defers [] = tt
old_defers (e ∷ d) = (tt, old_defers d)

old_allowed : (p : List (ℕ × ℕ)) (d : List ((ℕ × ℕ) × ℕ)) → AllByRecursion (λ (i : Key × ℕ). Allows One i.0) (items_of p [] d)
old_allowed [] d = old_defers d
old_allowed (e ∷ p) d = (tt, old_allowed p d)

items_allowed : (v : Version) (t : Table) → IsSpelled v t → AllByRecursion (λ (i : Key × ℕ). Allows v i.0) (items t)
items_allowed One t none =
    subst (λ f. AllByRecursion (λ (i : Key × ℕ). Allows One i.0) (items_of (entries t.pads) f (entries t.defers))) (sym (ap (λ (m : FinMap nat_cmp ℕ). entries m) none ∙ nothing nat_cmp ℕ)) (old_allowed (entries t.pads) (entries t.defers))
items_allowed Two t some = any_allowed (items t)

-- a longer table goes on with a line that does not stop
no_longer : (v : Version) (t u : Table) (x y : List ℕ) → IsSpelled v t → Stops v u y → Longer (items t) (items u) x y → ⊥
unfolding Stops
no_longer v t u x y spelled stops l =
    let rising = subst IsRising l.is (items_rise (entries t.pads) (entries t.fronts) (entries t.defers) (entries_sorted t.pads) (entries_sorted t.fronts) (entries_sorted t.defers)) in
    let allowed = all_back (λ i. Allows v i.0) (items u) l.next l.others (subst (AllByRecursion (λ (i : Key × ℕ). Allows v i.0)) l.is (items_allowed v t spelled)) in
    stops l.next (flat_map line l.others ++ x) l.fits allowed (rises_from u l.next.0 (split_rises (items u) l.next l.others rising)) l.begins

same_beginning : (v : Version) (text : List ℕ) (t u : Table) (x y : List ℕ) → IsSpelled v t → IsSpelled v u → InLimits t → InLimits u → text ≡ spelling v t ++ x → text ≡ spelling v u ++ y → Stops v t x → Stops v u y → (t ≡ u) × (x ≡ y)
unfolding Compared
same_beginning v text t u x y pt pu ft fu et eu st su =
    let body : body_of t ++ x ≡ body_of u ++ y = append_cancel_left (head_of v) (body_of t ++ x) (body_of u ++ y) (sym (append_assoc (head_of v) (body_of t) x) ∙ sym et ∙ eu ∙ append_assoc (head_of v) (body_of u) y) in
    let whole : flat_map line (items t) ++ x ≡ flat_map line (items u) ++ y = ap (λ b. b ++ x) (sym (items_text (entries t.pads) (entries t.fronts) (entries t.defers))) ∙ body ∙ ap (λ b. b ++ y) (items_text (entries u.pads) (entries u.fronts) (entries u.defers)) in
    elim (compare (items t) (items u) x y (all_items t ft) (all_items u fu) whole) [
      | inl s ↦ (tables_same t u s.0, s.1)
      | inr l ↦ elim l [ inl a ↦ absurd (no_longer v t u x y pt su a) | inr b ↦ absurd (no_longer v u t y x pu st b) ]
    ]

-- ---- one answer

abbrev Told : Result Table PatchRefusal → Version → Table → List ℕ → Type 0
Told (Ok u) v t rest = (u ≡ t) × (rest ≡ [])
Told (Err why.Head) v t rest = ⊥
Told (Err (why.Line n)) v t rest = (n ≡ next_line (spelling v t)) × IsNoLine v t rest
Told (Err (why.Limit n)) v t rest = (n ≡ next_line (spelling v t)) × IsBeyond v t rest
Told (Err (why.Order n)) v t rest = (n ≡ next_line (spelling v t)) × IsOutOfOrder v t rest
Told (Err why.Memory) v t rest = ⊥

record Settled (text : List ℕ) (a : Result Table PatchRefusal) : Type 0 where
  version : Version
  table : Table
  rest : List ℕ
  spelled : IsSpelled version table
  fits : InLimits table
  begins : text ≡ spelling version table ++ rest
  stops : Stops version table rest
  told : Told a version table rest

clash : (v : Version) (t : Table) (rest : List ℕ) → IsBeyond v t rest → IsOutOfOrder v t rest → ⊥
clash v t rest h g =
    let s = same_line v h.key g.key h.value g.value h.line g.line h.more g.more h.is_line g.is_line (sym h.parts ∙ g.parts) in
    h.beyond (subst (λ k. InLimit k h.value) (sym s.0) (subst (InLimit g.key) (sym s.1) g.within))

abbrev done : Table → Result Table PatchRefusal
done t = Ok t

abbrev failed : PatchRefusal → Result Table PatchRefusal
failed e = Err e

agree : (a b : Result Table PatchRefusal) (v : Version) (t : Table) (rest : List ℕ) → Told a v t rest → Told b v t rest → a ≡ b
agree (Ok u) (Ok w) v t rest p q = ap done (p.0 ∙ sym q.0)
agree (Ok u) (Err (why.Line n)) v t rest p q = absurd (omega (arith, ap length p.1, q.1.some))
agree (Ok u) (Err (why.Limit n)) v t rest p q = absurd (some_left v q.1.line q.1.key q.1.value q.1.more rest q.1.is_line p.1 q.1.parts)
agree (Ok u) (Err (why.Order n)) v t rest p q = absurd (some_left v q.1.line q.1.key q.1.value q.1.more rest q.1.is_line p.1 q.1.parts)
agree (Err (why.Line m)) (Ok w) v t rest p q = absurd (omega (arith, ap length q.1, p.1.some))
agree (Err (why.Line m)) (Err (why.Line n)) v t rest p q = ap (λ x. failed (why.Line x)) (p.0 ∙ sym q.0)
agree (Err (why.Line m)) (Err (why.Limit n)) v t rest p q = absurd (p.1.none q.1.line q.1.key q.1.value q.1.more q.1.is_line q.1.parts)
agree (Err (why.Line m)) (Err (why.Order n)) v t rest p q = absurd (p.1.none q.1.line q.1.key q.1.value q.1.more q.1.is_line q.1.parts)
agree (Err (why.Limit m)) (Ok w) v t rest p q = absurd (some_left v p.1.line p.1.key p.1.value p.1.more rest p.1.is_line q.1 p.1.parts)
agree (Err (why.Limit m)) (Err (why.Line n)) v t rest p q = absurd (q.1.none p.1.line p.1.key p.1.value p.1.more p.1.is_line p.1.parts)
agree (Err (why.Limit m)) (Err (why.Limit n)) v t rest p q = ap (λ x. failed (why.Limit x)) (p.0 ∙ sym q.0)
agree (Err (why.Limit m)) (Err (why.Order n)) v t rest p q = absurd (clash v t rest p.1 q.1)
agree (Err (why.Order m)) (Ok w) v t rest p q = absurd (some_left v p.1.line p.1.key p.1.value p.1.more rest p.1.is_line q.1 p.1.parts)
agree (Err (why.Order m)) (Err (why.Line n)) v t rest p q = absurd (q.1.none p.1.line p.1.key p.1.value p.1.more p.1.is_line p.1.parts)
agree (Err (why.Order m)) (Err (why.Limit n)) v t rest p q = absurd (clash v t rest q.1 p.1)
agree (Err (why.Order m)) (Err (why.Order n)) v t rest p q = ap (λ x. failed (why.Order x)) (p.0 ∙ sym q.0)
agree (Err why.Head) b v t rest p q = absurd p
agree (Err why.Memory) b v t rest p q = absurd p
agree a (Err why.Head) v t rest p q = absurd q
agree a (Err why.Memory) v t rest p q = absurd q

Kind : List ℕ → Result Table PatchRefusal → Type 0
Kind text a = Settled text a ⊎ (((a ≡ Err why.Head) × ((version : Version) (rest : List ℕ) → text ≢ head_of version ++ rest)) ⊎ WantsMemory a)

-- a text that breaks a rule, by the spelling of what comes before
record Begun (text : List ℕ) (n : ℕ) (version : Version) (table : Table) (rest : List ℕ) : Type 0 where
  spelled : IsSpelled version table
  fits : InLimits table
  is : text ≡ spelling version table ++ rest
  place : n ≡ next_line (spelling version table)

begun_by : (text : List ℕ) (n : ℕ) (Rule : Version → Table → List ℕ → Type 0) → (h : BreaksAt text n Rule) → Begun text n h.version h.table h.rest
begun_by text n Rule h =
    let s = text_is_spelling h.so_far in
    record { spelled = s.0; fits = s.1; is = h.whole ∙ ap (λ b. b ++ h.rest) s.2; place = h.place ∙ ap next_line s.2 }

settled : (text : List ℕ) (a : Result Table PatchRefusal) → Answers text a → Kind text a
unfolding Kind
settled text (Ok t) h =
    let s = text_is_spelling h.1 in
    inl (record { version = h.0; table = t; rest = []; spelled = s.0; fits = s.1; begins = s.2 ∙ sym (append-nil (spelling h.0 t)); stops = end_stops h.0 t [] refl; told = (refl, refl) })
settled text (Err why.Head) h = inr (inl (refl, h))
settled text (Err (why.Line n)) h =
    let b = begun_by text n IsNoLine h in
    inl (record { version = h.version; table = h.table; rest = h.rest; spelled = b.spelled; fits = b.fits; begins = b.is; stops = line_stops h.version h.table h.rest h.breaks; told = (b.place, h.breaks) })
settled text (Err (why.Limit n)) h =
    let b = begun_by text n IsBeyond h in
    inl (record { version = h.version; table = h.table; rest = h.rest; spelled = b.spelled; fits = b.fits; begins = b.is; stops = limit_stops h.version h.table h.rest h.breaks; told = (b.place, h.breaks) })
settled text (Err (why.Order n)) h =
    let b = begun_by text n IsOutOfOrder h in
    inl (record { version = h.version; table = h.table; rest = h.rest; spelled = b.spelled; fits = b.fits; begins = b.is; stops = order_stops h.version h.table h.rest h.breaks; told = (b.place, h.breaks) })
settled text (Err why.Memory) h = inr (inr refl)

begins_so : (text : List ℕ) (a : Result Table PatchRefusal) → Settled text a → ((version : Version) (rest : List ℕ) → text ≢ head_of version ++ rest) → ⊥
begins_so text a s none = none s.version (body_of s.table ++ s.rest) (s.begins ∙ append_assoc (head_of s.version) (body_of s.table) s.rest)

of_one_version : (text : List ℕ) (a b : Result Table PatchRefusal) (v : Version) (t u : Table) (x y : List ℕ) → IsSpelled v t → IsSpelled v u → InLimits t → InLimits u → text ≡ spelling v t ++ x → text ≡ spelling v u ++ y
    → Stops v t x → Stops v u y → Told a v t x → Told b v u y → a ≡ b
of_one_version text a b v t u x y pt pu ft fu et eu st su ta tb =
    let e = same_beginning v text t u x y pt pu ft fu et eu st su in
    agree a b v u y (subst (λ t. Told a v t y) e.0 (subst (Told a v t) e.1 ta)) tb

with_version : (text : List ℕ) (a b : Result Table PatchRefusal) (s : Settled text a) (r : Settled text b) (v : Version) → s.version ≡ v → r.version ≡ v → a ≡ b
with_version text a b s r v e f =
    of_one_version text a b v s.table r.table s.rest r.rest (subst (λ w. IsSpelled w s.table) e s.spelled) (subst (λ w. IsSpelled w r.table) f r.spelled) s.fits r.fits (subst (λ w. text ≡ spelling w s.table ++ s.rest) e s.begins)
    (subst (λ w. text ≡ spelling w r.table ++ r.rest) f r.begins) (subst (λ w. Stops w s.table s.rest) e s.stops) (subst (λ w. Stops w r.table r.rest) f r.stops) (subst (λ w. Told a w s.table s.rest) e s.told) (subst (λ w. Told b w r.table r.rest) f r.told)

both_settled : (text : List ℕ) (a b : Result Table PatchRefusal) → Settled text a → Settled text b → a ≡ b
both_settled text a b s r =
    let heads : head_of s.version ++ (body_of s.table ++ s.rest) ≡ head_of r.version ++ (body_of r.table ++ r.rest) =
    sym (append_assoc (head_of s.version) (body_of s.table) s.rest) ∙ sym s.begins ∙ r.begins ∙ append_assoc (head_of r.version) (body_of r.table) r.rest in
    with_version text a b s r r.version (one_head s.version r.version (body_of s.table ++ s.rest) (body_of r.table ++ r.rest) heads) refl

pub one_answer : (text : List ℕ) (a b : Result Table PatchRefusal) → Answers text a → Answers text b → WantsMemory a ⊎ (WantsMemory b ⊎ (a ≡ b))
unfolding Kind
one_answer text a b h g =
    elim (settled text a h) [
      | inl s ↦ elim (settled text b g) [
        | inl r ↦ inr (inr (both_settled text a b s r))
        | inr r ↦ elim r [ inl k ↦ absurd (begins_so text a s k.1) | inr f ↦ inr (inl f) ]
      ]
      | inr s ↦ elim s [
        | inl k ↦ elim (settled text b g) [
          | inl r ↦ absurd (begins_so text b r k.1)
          | inr r ↦ elim r [ inl l ↦ inr (inr (k.0 ∙ sym l.0)) | inr f ↦ inr (inl f) ]
        ]
        | inr f ↦ inl f
      ]
    ]

-- an answer that wants no memory is the one answer
pub told_apart : (text : List ℕ) (a b : Result Table PatchRefusal) → Answers text a → Answers text b → (WantsMemory b → ⊥) → (a ≡ b) ⊎ WantsMemory a
told_apart text a b h g other = elim (one_answer text a b h g) [ inl w ↦ inr w | inr r ↦ elim r [ inl w ↦ absurd (other w) | inr e ↦ inl e ] ]
