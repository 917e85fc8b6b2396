-- Items one after the other, of any kind: what is read is spelled so, and what is spelled so is read.
use Rattle.std.proofs.Common.{◌≡◌, ℕ, zero, suc, ◌^◌, ◌<◌, List, [], ◌∷◌, ◌++◌, length, Ok, refl, sym, ap, subst, ◌∙◌, append_assoc, arith}
use Rattle.std.specs.List.{flat_map}
use Rattle.std.proofs.lemmas.List.{append-nil}
use Rattle.heap_image.specs.Fields.{Word, number_bytes}
use Rattle.heap_image.specs.Lawful.{Each}
use Rattle.heap_image.specs.Spelling.{counted}
use Rattle.heap_image.specs.Steps.{number_at, Format, read_at, items_at, counted_at}
use Rattle.heap_image.proofs.Numbers.{IsBytes, bind_ok, ok_is, Takes, Takes-then, number_takes, number_again}
use Rattle.heap_image.proofs.Formats.{Spells, read_takes, read_again}

-- a format whose bytes are those of an item that keeps a rule
pub record IsItem {X : Type 0} (item : List X → Format X) (item_bytes : X → List ℕ) (Rule : List X → X → Type 0) : Type 0 where
  pub told : (earlier : List X) (x : X) (text : List ℕ) → Spells (item earlier) text x → (text ≡ item_bytes x) × Rule earlier x
  pub spelled : (earlier : List X) (x : X) → Rule earlier x → Spells (item earlier) (item_bytes x) x

pub record ItemsTaken {X : Type 0} (item_bytes : X → List ℕ) (Rule : List X → X → Type 0) (n : ℕ) (earlier : List X) (bytes : List ℕ) (x : List X × List ℕ) : Type 0 where
  pub new : List X
  pub all : x.0 ≡ earlier ++ new
  pub takes : Takes bytes (flat_map item_bytes new) x.1
  pub keep : Each Rule earlier new
  pub count : length new ≡ n

pub items_takes : {X : Type 0} (item : List X → Format X) (item_bytes : X → List ℕ) (Rule : List X → X → Type 0) (is_item : IsItem item item_bytes Rule) (whole n : ℕ) (earlier : List X) (bytes : List ℕ) (x : List X × List ℕ)
    → IsBytes bytes → items_at whole item earlier n bytes ≡ Ok x → ItemsTaken item_bytes Rule n earlier bytes x
unfolding items_at
items_takes {X = X} item item_bytes Rule is_item whole zero earlier bytes x fits e =
    let made : List X × List ℕ = (earlier, bytes) in
    let is : made ≡ x = ok_is made x e in
    subst (λ (y : List X × List ℕ). ItemsTaken item_bytes Rule zero earlier bytes y) is
    (record { new = []; all = sym (append-nil earlier); takes = record { parts = refl; rest_fits = fits }; keep = tt; count = refl })
items_takes {X = X} item item_bytes Rule is_item whole (suc n) earlier bytes x fits e =
    let a = bind_ok (read_at whole (item earlier) bytes) (λ (y : X × List ℕ). items_at whole item (earlier ++ y.0 ∷ []) n y.1) x e in
    let t = read_takes (item earlier) whole bytes a.0 fits a.1 in
    let told = is_item.told earlier a.0.0 t.text t.spells in
    let first = subst (λ (u : List ℕ). Takes bytes u a.0.1) told.0 t.takes in
    let r = items_takes item item_bytes Rule is_item whole n (earlier ++ a.0.0 ∷ []) a.0.1 x first.rest_fits a.2 in
    record {
      new = a.0.0 ∷ r.new;
      all = r.all ∙ append_assoc earlier (a.0.0 ∷ []) r.new;
      takes = Takes-then bytes (item_bytes a.0.0) a.0.1 (flat_map item_bytes r.new) x.1 first r.takes;
      keep = (told.1, r.keep);
      count = omega (arith, r.count);
    }

pub items_again : {X : Type 0} (item : List X → Format X) (item_bytes : X → List ℕ) (Rule : List X → X → Type 0) (is_item : IsItem item item_bytes Rule) (whole : ℕ) (earlier xs : List X) (rest : List ℕ)
    → Each Rule earlier xs → items_at whole item earlier (length xs) (flat_map item_bytes xs ++ rest) ≡ Ok (earlier ++ xs, rest)
unfolding items_at
items_again {X = X} item item_bytes Rule is_item whole earlier [] rest h = ap (λ (ys : List X). Ok (ys, rest)) (sym (append-nil earlier))
items_again {X = X} item item_bytes Rule is_item whole earlier (x ∷ xs) rest h =
    let first = read_again (item earlier) whole (item_bytes x) x (flat_map item_bytes xs ++ rest) (is_item.spelled earlier x h.0) in
    let others = items_again item item_bytes Rule is_item whole (earlier ++ x ∷ []) xs rest h.1 in
    let step : items_at whole item earlier (suc (length xs)) (item_bytes x ++ (flat_map item_bytes xs ++ rest)) ≡ items_at whole item (earlier ++ x ∷ []) (length xs) (flat_map item_bytes xs ++ rest) = rw first refl in
    ap (λ (t : List ℕ). items_at whole item earlier (suc (length xs)) t) (append_assoc (item_bytes x) (flat_map item_bytes xs) rest) ∙ step ∙ others ∙ ap (λ (ys : List X). Ok (ys, rest)) (append_assoc earlier (x ∷ []) xs)

pub record Counted {X : Type 0} (item_bytes : X → List ℕ) (Rule : List X → X → Type 0) (bytes : List ℕ) (x : List X × List ℕ) : Type 0 where
  pub takes : Takes bytes (counted item_bytes x.0) x.1
  pub keep : Each Rule [] x.0
  pub few : length x.0 < 2 ^ 32

pub counted_takes : {X : Type 0} (item : List X → Format X) (item_bytes : X → List ℕ) (Rule : List X → X → Type 0) (is_item : IsItem item item_bytes Rule) (whole : ℕ) (bytes : List ℕ) (x : List X × List ℕ)
    → IsBytes bytes → counted_at whole item bytes ≡ Ok x → Counted item_bytes Rule bytes x
unfolding counted_at
counted_takes {X = X} item item_bytes Rule is_item whole bytes x fits e =
    let a = bind_ok (number_at Word bytes) (λ (count : ℕ × List ℕ). items_at whole item [] count.0 count.1) x e in
    let n = number_takes Word bytes a.0 fits a.1 in
    let t = items_takes item item_bytes Rule is_item whole a.0.0 [] a.0.1 x n.0.rest_fits a.2 in
    let both = Takes-then bytes (number_bytes Word a.0.0) a.0.1 (flat_map item_bytes t.new) x.1 n.0 t.takes in
    let taken : Takes bytes (counted item_bytes t.new) x.1 = subst (λ (m : ℕ). Takes bytes (number_bytes Word m ++ flat_map item_bytes t.new) x.1) (sym t.count) both in
    let few : length t.new < 2 ^ 32 = omega (arith, n.1, t.count) in
    let is : t.new ≡ x.0 = sym t.all in
    record {
      takes = subst (λ (ys : List X). Takes bytes (counted item_bytes ys) x.1) is taken;
      keep = subst (λ (ys : List X). Each Rule [] ys) is t.keep;
      few = subst (λ (ys : List X). length ys < 2 ^ 32) is few;
    }

pub counted_again : {X : Type 0} (item : List X → Format X) (item_bytes : X → List ℕ) (Rule : List X → X → Type 0) (is_item : IsItem item item_bytes Rule) (whole : ℕ) (xs : List X) (rest : List ℕ)
    → Each Rule [] xs → length xs < 2 ^ 32 → counted_at whole item (counted item_bytes xs ++ rest) ≡ Ok (xs, rest)
unfolding counted_at
counted_again {X = X} item item_bytes Rule is_item whole xs rest h few =
    let body = flat_map item_bytes xs ++ rest in
    let whole_text : counted item_bytes xs ++ rest ≡ number_bytes Word (length xs) ++ body = append_assoc (number_bytes Word (length xs)) (flat_map item_bytes xs) rest in
    let first = number_again Word (length xs) body few in
    let others = items_again item item_bytes Rule is_item whole [] xs rest h in
    rw (whole_text, first) others
