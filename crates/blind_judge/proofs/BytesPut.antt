-- A byte that is put changes the byte at its own address alone.
use Rattle.std.proofs.Common.{◌≡◌, ℕ, ◌+◌, ◌*◌, ◌/◌, ◌%◌, ◌^◌, ◌<◌, List, [], ◌∷◌, length, get_or, set, sym, ◌∙◌, subst, ap, arith, length-set}
use Rattle.std.proofs.lemmas.List.{get_or-set_same, get_or-set_other}
use mathlib.Core.Path.{fun_ext}
use Rattle.infinite_heap.specs.Memory.{next, put, put_all}
use Rattle.blind_judge.specs.ByteTable.{IsTable}
use Rattle.blind_judge.specs.FlatBytes.{byte_by}
use Rattle.blind_judge.proofs.Puts.{put_case}

-- where an address has its byte
abbrev pub place_by : List ℕ → ℕ → ℕ
place_by table x = get_or table (x / 4096) 0 * 4096 + x % 4096

apart_places : (a b s t : ℕ) → s < 4096 → t < 4096 → a * 4096 + s ≡ b * 4096 + t → (a ≡ b) × (s ≡ t)
apart_places a b s t hs ht e = (omega arith, omega arith)

pub only_here : (table bytes : List ℕ) (x y : ℕ) → IsTable table bytes → 0 < get_or table (x / 4096) 0 → place_by table y ≡ place_by table x → y ≡ x
only_here table bytes x y kept made e =
    let (page, rest) = apart_places (get_or table (y / 4096) 0) (get_or table (x / 4096) 0) (y % 4096) (x % 4096) (omega arith) (omega arith) e in
    let same = kept.apart (x / 4096) (y / 4096) made page in
    omega arith

pub inside_table : (table bytes : List ℕ) (x : ℕ) → IsTable table bytes → place_by table x < length bytes
inside_table table bytes x kept = let h = kept.inside (x / 4096) in omega arith

put_at : (table bytes : List ℕ) (x b y : ℕ) → IsTable table bytes → 0 < get_or table (x / 4096) 0
    → byte_by table (set bytes (place_by table x) b) y ≡ put (byte_by table bytes) x b y
put_at table bytes x b y kept made =
    put_case (byte_by table bytes) x b y (λ v. byte_by table (set bytes (place_by table x) b) y ≡ v)
    (λ e. subst (λ z. get_or (set bytes (place_by table x) b) (place_by table z) 0 ≡ b) e (get_or-set_same bytes (place_by table x) b 0 (inside_table table bytes x kept)))
    (λ n. get_or-set_other bytes (place_by table x) (place_by table y) b 0 (λ e. n (sym (only_here table bytes x y kept made e))))

pub put_byte : (table bytes : List ℕ) (x b : ℕ) → IsTable table bytes → 0 < get_or table (x / 4096) 0
    → byte_by table (set bytes (place_by table x) b) ≡ put (byte_by table bytes) x b
put_byte table bytes x b kept made = fun_ext (λ y. put_at table bytes x b y kept made)

pub kept_put : (table bytes : List ℕ) (x b : ℕ) → IsTable table bytes → 0 < get_or table (x / 4096) 0 → IsTable table (set bytes (place_by table x) b)
kept_put table bytes x b kept made = record {
  long = kept.long;
  whole = omega (arith, length-set bytes (place_by table x) b, kept.whole);
  inside = λ p. let h = kept.inside p in omega (arith, length-set bytes (place_by table x) b, h);
  zero = λ k low. get_or-set_other bytes (place_by table x) k b 0 (λ e. absurd (omega arith)) ∙ kept.zero k low;
  apart = kept.apart;
}

-- where the next address of a page has its byte
pub place_next : (table : List ℕ) (x k : ℕ) → x % 4 ≡ 0 → k < 4 → place_by table (x + k) ≡ place_by table x + k
place_next table x k whole small =
    let page : (x + k) / 4096 ≡ x / 4096 = omega arith in
    let rest : (x + k) % 4096 ≡ x % 4096 + k = omega arith in
    ap (λ p. get_or table p 0 * 4096 + (x + k) % 4096) page ∙ omega arith

-- the four bytes of a word
pub put_four : (table bytes : List ℕ) (x a b c d : ℕ) → x < 2 ^ 32 → x % 4 ≡ 0 → IsTable table bytes → 0 < get_or table (x / 4096) 0
    → byte_by table (set (set (set (set bytes (place_by table x) a) (place_by table x + 1) b) (place_by table x + 2) c) (place_by table x + 3) d)
    ≡ put_all (byte_by table bytes) x (a ∷ b ∷ c ∷ d ∷ [])
put_four table bytes x a b c d fits whole kept made =
    let p = place_by table x in
    let made1 : 0 < get_or table ((x + 1) / 4096) 0 = let e : x / 4096 ≡ (x + 1) / 4096 = omega arith in subst (λ q. 0 < get_or table q 0) e made in
    let made2 : 0 < get_or table ((x + 2) / 4096) 0 = let e : x / 4096 ≡ (x + 2) / 4096 = omega arith in subst (λ q. 0 < get_or table q 0) e made in
    let made3 : 0 < get_or table ((x + 3) / 4096) 0 = let e : x / 4096 ≡ (x + 3) / 4096 = omega arith in subst (λ q. 0 < get_or table q 0) e made in
    let n1 : next x ≡ x + 1 = omega arith in
    let n2 : next (x + 1) ≡ x + 2 = omega arith in
    let n3 : next (x + 2) ≡ x + 3 = omega arith in
    let s0 : List ℕ = set bytes p a in
    let k0 : IsTable table s0 = kept_put table bytes x a kept made in
    let s1 : List ℕ = set s0 (place_by table (x + 1)) b in
    let k1 : IsTable table s1 = kept_put table s0 (x + 1) b k0 made1 in
    let s2 : List ℕ = set s1 (place_by table (x + 2)) c in
    let k2 : IsTable table s2 = kept_put table s1 (x + 2) c k1 made2 in
    let e : byte_by table (set s2 (place_by table (x + 3)) d) ≡ put (put (put (put (byte_by table bytes) x a) (x + 1) b) (x + 2) c) (x + 3) d =
    put_byte table s2 (x + 3) d k2 made3
    ∙ ap (λ f. put f (x + 3) d) (put_byte table s1 (x + 2) c k1 made2 ∙ ap (λ f. put f (x + 2) c) (put_byte table s0 (x + 1) b k0 made1 ∙ ap (λ f. put f (x + 1) b) (put_byte table bytes x a kept made))) in
    let list : set (set (set s0 (p + 1) b) (p + 2) c) (p + 3) d ≡ set s2 (place_by table (x + 3)) d =
    ap (λ i. set (set (set s0 i b) (p + 2) c) (p + 3) d) (sym (place_next table x 1 whole (omega arith)))
    ∙ ap (λ i. set (set s1 i c) (p + 3) d) (sym (place_next table x 2 whole (omega arith)))
    ∙ ap (λ i. set s2 i d) (sym (place_next table x 3 whole (omega arith))) in
    let f0 : ℕ → ℕ = put (byte_by table bytes) x a in
    let ends : put_all (byte_by table bytes) x (a ∷ b ∷ c ∷ d ∷ []) ≡ put (put (put f0 (x + 1) b) (x + 2) c) (x + 3) d =
    ap (λ y. put (put (put f0 y b) (next y) c) (next (next y)) d) n1 ∙ ap (λ y. put (put (put f0 (x + 1) b) y c) (next y) d) n2 ∙ ap (λ y. put (put (put f0 (x + 1) b) (x + 2) c) y d) n3 in
    ap (byte_by table) list ∙ e ∙ sym ends
