-- Slots lie within the miniheaps, apart from each other, and stay.
use Rattle.std.proofs.Common.{◌≡◌, ℕ, suc, ◌+◌, ◌-◌, ◌*◌, ◌/◌, ◌%◌, ◌<◌, ◌≤◌, ◌^◌, refl, ap, sym, ◌∙◌, subst, Bool, true, false, cond, ◌&&◌, arith, nat_le, nat_lt, min, max, ◌⊎◌, inl, inr, List, [], ◌∷◌, ◌++◌, Some, None, All, length}
use Rattle.std.proofs.lemmas.Bool.{cases_lt, and_parts, and_from, leb-true, leb-false, ltb-true, le-leb, lt-ltb, le-ltb, and_right}
use Rattle.std.proofs.lemmas.Nat.{pow_pos, div-add-mod', mod_below, row_fits, div_below, div-mul-add, mod-mul-add, pow-add}
use Rattle.std.proofs.lemmas.Option.{same_Some}
use Rattle.std.proofs.lemmas.List.Elements.{All-head, All-tail, All-nil, All-cons, All-get_or}
use Rattle.std.proofs.lemmas.List.Sums.{sum_by-cons}
use Rattle.std.proofs.Math.Nat.{mul_comm, mul_assoc, mul_left_comm, add-mul, pow-le-pow_right}
use Rattle.size_class.specs.Classes.{nth_slots, first_slots}
use Rattle.miniheap.specs.declared.place.Slot.{Slot}
use Rattle.miniheap.specs.Layout.{Mini, mini_bytes, mini_end, heap_from, count_of, nth_mini, minis_from, minis, bytes_of, mini_at}
use Rattle.miniheap.specs.Slots.{Slots, state_of, slot_in, slot_from, slot_at, grown, end_of, IsSlotOf}
use Rattle.miniheap.specs.Laws.{SlotsHoldTheirAddresses, SlotsLieWithin, SlotsAreApart, SlotsAreAligned, SlotsBeginAtMultiples, SlotsAreKnown, SlotsStay, SlotsAreAdded}
use Rattle.miniheap.proofs.LayoutLemmas.{Chain, minis_chain, minis_push}

-- the slot of an address holds it, and lies within its miniheap
pub slot_holds : (m : Mini) (a : ℕ) → m.base ≤ a → a < mini_end m
    → (m.base + (a - m.base) / 2 ^ m.class * 2 ^ m.class ≤ a) × (a < m.base + (a - m.base) / 2 ^ m.class * 2 ^ m.class + 2 ^ m.class) × (m.base + (a - m.base) / 2 ^ m.class * 2 ^ m.class + 2 ^ m.class ≤ mini_end m)
slot_holds m a lo hi =
    let w : ℕ = 2 ^ m.class in
    let e : (a - m.base) / w * w + (a - m.base) % w ≡ a - m.base = div-add-mod' (a - m.base) w in
    let r : (a - m.base) % w < w = mod_below (a - m.base) w (pow_pos m.class) in
    let f : (a - m.base) / w * w + w ≤ m.slots * w = row_fits ((a - m.base) / w) w m.slots w (div_below (a - m.base) w m.slots (pow_pos m.class) (omega arith)) (omega arith) in
    (omega arith, omega arith, omega arith)

-- ---- alignment

pow_16 : (c : ℕ) → 4 ≤ c → 2 ^ c ≡ 16 * 2 ^ (c - 4)
pow_16 c h = let e : c ≡ 4 + (c - 4) = omega arith in ap (λ (x : ℕ). 2 ^ x) e ∙ pow-add 2 4 (c - 4)

times_16 : (b k c : ℕ) → 4 ≤ c → b % 16 ≡ 0 → (b + k * 2 ^ c) % 16 ≡ 0
times_16 b k c h e =
    let t : k * 2 ^ c ≡ 16 * (k * 2 ^ (c - 4)) = ap (λ (x : ℕ). k * x) (pow_16 c h) ∙ mul_left_comm k 16 (2 ^ (c - 4)) in omega (arith, t)

-- ---- where an address is found

pub record IsFound (s : Slots) (a i base : ℕ) (ms : List Mini) (t : Slot) : Type 0 where
  pub mini : Mini
  pub number : ℕ
  pub index : ℕ
  pub number_is : number ≡ i + index
  pub index_known : index < length ms
  pub mini_is : mini ≡ mini_at ms index
  pub is : t ≡ slot_in s number mini ((a - mini.base) / 2 ^ mini.class)
  pub from : mini.base ≤ a
  pub to : a < mini_end mini
  pub low : base ≤ mini.base
  pub high : mini_end mini ≤ base + bytes_of ms
  pub again : (b : ℕ) → mini.base ≤ b → b < mini_end mini → slot_from s b i ms ≡ Some (slot_in s number mini ((b - mini.base) / 2 ^ mini.class))
  pub aligned : All (λ (m : Mini). 4 ≤ m.class) ms → base % 16 ≡ 0 → (4 ≤ mini.class) × (mini.base % 16 ≡ 0)

abbrev is_inside : Mini → ℕ → Bool
is_inside m a = nat_le m.base a && nat_lt a (mini_end m)

inside : (m : Mini) (a : ℕ) → m.base ≤ a → a < mini_end m → is_inside m a ≡ true
inside m a lo hi = and_from (nat_le m.base a) (nat_lt a (mini_end m)) (le-leb m.base a lo) (lt-ltb a (mini_end m) hi)

pub is_found : (s : Slots) (a i base : ℕ) (ms : List Mini) (t : Slot) → Chain base ms → slot_from s a i ms ≡ Some t → IsFound s a i base ms t
is_found s a i base [] t ch e = absurd (cc)
is_found s a i base (m ∷ ms) t ch e = at (is_inside m a) refl e (is_found s a (suc i) (mini_end m) ms t ch.1)
  where
    at : (b : Bool) → is_inside m a ≡ b → cond b (Some (slot_in s i m ((a - m.base) / 2 ^ m.class))) (slot_from s a (suc i) ms) ≡ Some t
        → (slot_from s a (suc i) ms ≡ Some t → IsFound s a (suc i) (mini_end m) ms t) → IsFound s a i base (m ∷ ms) t
    at true q f r =
        let u = and_parts (nat_le m.base a) (nat_lt a (mini_end m)) q in
        record {
          mini = m;
          number = i;
          index = 0;
          number_is = omega arith;
          index_known = omega arith;
          mini_is = refl;
          is = sym (same_Some (slot_in s i m ((a - m.base) / 2 ^ m.class)) t f);
          from = leb-true m.base a u.0;
          to = ltb-true a (mini_end m) u.1;
          low = omega (arith, ch.0);
          high = omega (arith, ch.0, sum_by-cons mini_bytes m ms);
          again = λ b lo hi. ap (λ (x : Bool). cond x (Some (slot_in s i m ((b - m.base) / 2 ^ m.class))) (slot_from s b (suc i) ms)) (inside m b lo hi);
          aligned = λ all z. (All-head (λ (x : Mini). 4 ≤ x.class) m ms all, ap (λ (x : ℕ). x % 16) ch.0 ∙ z);
        }
    at false q f r =
        let k = r f in
        record {
          mini = k.mini;
          number = k.number;
          index = suc k.index;
          number_is = omega (arith, k.number_is);
          index_known = omega (arith, k.index_known);
          mini_is = k.mini_is;
          is = k.is;
          from = k.from;
          to = k.to;
          low = omega (arith, k.low, ch.0);
          high = omega (arith, k.high, ch.0, sum_by-cons mini_bytes m ms);
          again = λ b lo hi.
              ap (λ (x : Bool). cond x (Some (slot_in s i m ((b - m.base) / 2 ^ m.class))) (slot_from s b (suc i) ms)) (and_right (nat_le m.base b) (nat_lt b (mini_end m)) (le-ltb b (mini_end m) (omega (arith, k.low))))
              ∙ k.again b lo hi;
          aligned = λ all z.
              k.aligned (All-tail (λ (x : Mini). 4 ≤ x.class) m ms all)
              (times_16 m.base m.slots m.class (All-head (λ (x : Mini). 4 ≤ x.class) m ms all) (ap (λ (x : ℕ). x % 16) ch.0 ∙ z));
        }

pub found_at : (s : Slots) (a : ℕ) (t : Slot) → slot_at s a ≡ Some t → IsFound s a 0 heap_from (minis s.classes) t
found_at s a t e = is_found s a 0 heap_from (minis s.classes) t (minis_chain s.classes) e

-- ---- the laws

pub slots_hold_their_addresses : SlotsHoldTheirAddresses
slots_hold_their_addresses s a t e =
    let f = found_at s a t e in
    let h = slot_holds f.mini a f.from f.to in
    subst (λ (x : Slot). (x.addr ≤ a) × (a < x.addr + 2 ^ x.class)) (sym f.is) (h.0, h.1)

pub slots_lie_within : SlotsLieWithin
slots_lie_within s a t e =
    let f = found_at s a t e in
    let h = slot_holds f.mini a f.from f.to in
    subst (λ (x : Slot). (heap_from ≤ x.addr) × (x.addr + 2 ^ x.class ≤ end_of s)) (sym f.is) (omega (arith, f.low), omega (arith, h.2, f.high))

pub slots_are_apart : SlotsAreApart
slots_are_apart s a b t e lo hi =
    let f = found_at s a t e in
    let h = slot_holds f.mini a f.from f.to in
    let q : ℕ = (a - f.mini.base) / 2 ^ f.mini.class in
    let lo' : f.mini.base + q * 2 ^ f.mini.class ≤ b = subst (λ (x : Slot). x.addr ≤ b) f.is lo in
    let hi' : b < f.mini.base + q * 2 ^ f.mini.class + 2 ^ f.mini.class = subst (λ (x : Slot). b < x.addr + 2 ^ x.class) f.is hi in
    let d : (b - f.mini.base) / 2 ^ f.mini.class ≡ q =
    ap (λ (x : ℕ). x / 2 ^ f.mini.class) (let z : b - f.mini.base ≡ q * 2 ^ f.mini.class + (b - (f.mini.base + q * 2 ^ f.mini.class)) = omega arith in z)
    ∙ div-mul-add q (2 ^ f.mini.class) (b - (f.mini.base + q * 2 ^ f.mini.class)) (omega arith) in
    f.again b (omega arith) (omega (arith, h.2)) ∙ ap (λ (x : ℕ). Some (slot_in s f.number f.mini x)) d ∙ ap (λ (x : Slot). Some x) (sym f.is)

minis_from_classes : (P : ℕ → Type 0) (earlier : List ℕ) (base : ℕ) (cs : List ℕ) → All P cs → All (λ (m : Mini). P m.class) (minis_from earlier base cs)
minis_from_classes P earlier base [] all = All-nil (λ (m : Mini). P m.class)
minis_from_classes P earlier base (c ∷ cs) all =
    let m : Mini = nth_mini c base (count_of c earlier) in
    All-cons (λ (x : Mini). P x.class) m (minis_from (earlier ++ c ∷ []) (mini_end m) cs) (All-head P c cs all) (minis_from_classes P (earlier ++ c ∷ []) (mini_end m) cs (All-tail P c cs all))

pub slots_are_aligned : SlotsAreAligned
slots_are_aligned s a t all e =
    let f = found_at s a t e in
    let g = f.aligned (minis_from_classes (λ (c : ℕ). 4 ≤ c) [] heap_from s.classes all) (omega arith) in
    subst (λ (x : Slot). x.addr % 16 ≡ 0) (sym f.is) (times_16 f.mini.base ((a - f.mini.base) / 2 ^ f.mini.class) f.mini.class g.0 g.1)

-- ---- multiples

-- a product of 2 ^ 16 and any number
whole_units : (x y : ℕ) → x ≡ 65536 * y → x % 65536 ≡ 0
whole_units x y e = omega (arith, e)

turned : (k n c : ℕ) → k * 2 ^ n * 2 ^ c ≡ 2 ^ n * (k * 2 ^ c)
turned k n c = ap (λ (x : ℕ). x * 2 ^ c) (mul_comm k (2 ^ n)) ∙ mul_assoc (2 ^ n) k (2 ^ c)

four_slots : (n c : ℕ) → 14 ≤ c → (4 * 2 ^ n * 2 ^ c) % 65536 ≡ 0
four_slots n c h =
    let p : 2 ^ c ≡ 2 ^ 14 * 2 ^ (c - 14) = (let e : c ≡ 14 + (c - 14) = omega arith in ap (λ (x : ℕ). 2 ^ x) e) ∙ pow-add 2 14 (c - 14) in
    let z : 4 * 2 ^ c ≡ 65536 * 2 ^ (c - 14) = omega (arith, p) in
    whole_units (4 * 2 ^ n * 2 ^ c) (2 ^ n * 2 ^ (c - 14)) (turned 4 n c ∙ ap (λ (x : ℕ). 2 ^ n * x) z ∙ mul_left_comm (2 ^ n) 65536 (2 ^ (c - 14)))

more_slots : (n c : ℕ) → c ≤ 14 → (2 ^ (16 - c) * 2 ^ n * 2 ^ c) % 65536 ≡ 0
more_slots n c h =
    let p : 2 ^ (16 - c) * 2 ^ c ≡ 65536 = sym (pow-add 2 (16 - c) c) ∙ (let e : 16 - c + c ≡ 16 = omega arith in ap (λ (x : ℕ). 2 ^ x) e) in
    whole_units (2 ^ (16 - c) * 2 ^ n * 2 ^ c) (2 ^ n) (turned (2 ^ (16 - c)) n c ∙ ap (λ (x : ℕ). 2 ^ n * x) p ∙ mul_comm (2 ^ n) 65536)

-- the miniheaps of every class have multiples of 2 ^ 16 bytes
size_multiple : (c n : ℕ) → (nth_slots c n * 2 ^ c) % 65536 ≡ 0
unfolding first_slots
size_multiple c n = at (nat_le c 16) refl (cases_lt 14 c)
  where
    Goal : ℕ → Type 0
    Goal slots = (slots * 2 ^ n * 2 ^ c) % 65536 ≡ 0

    at : (b : Bool) → nat_le c 16 ≡ b → (14 < c) ⊎ (c ≤ 14) → Goal (cond b (max 4 (2 ^ (16 - c))) 4)
    at false e k = four_slots n c (let f : 16 < c = leb-false c 16 e in omega (arith, f))
    at true e (inl h) =
        let less : 16 - c ≤ 2 = omega (arith, h) in
        let few : 2 ^ (16 - c) ≤ 2 ^ 2 = pow-le-pow_right {n = 2} (omega arith) less in
        let most : max 4 (2 ^ (16 - c)) ≡ 4 = omega (arith, few) in
        subst Goal (sym most) (four_slots n c (omega (arith, h)))
    at true e (inr h) =
        let more : 2 ≤ 16 - c = omega (arith, h) in
        let many : 2 ^ 2 ≤ 2 ^ (16 - c) = pow-le-pow_right {n = 2} (omega arith) more in
        let most : max 4 (2 ^ (16 - c)) ≡ 2 ^ (16 - c) = omega (arith, many) in
        subst Goal (sym most) (more_slots n c h)

bases_are_multiples : (earlier : List ℕ) (base : ℕ) (cs : List ℕ) → base % 65536 ≡ 0 → All (λ (m : Mini). m.base % 65536 ≡ 0) (minis_from earlier base cs)
bases_are_multiples earlier base [] h = All-nil (λ (m : Mini). m.base % 65536 ≡ 0)
bases_are_multiples earlier base (c ∷ cs) h =
    let m : Mini = nth_mini c base (count_of c earlier) in
    All-cons (λ (x : Mini). x.base % 65536 ≡ 0) m (minis_from (earlier ++ c ∷ []) (mini_end m) cs) h
    (bases_are_multiples (earlier ++ c ∷ []) (mini_end m) cs (omega (arith, h, size_multiple c (count_of c earlier))))

-- a multiple of 2 ^ 16, and any number of slots behind it
multiple_of_size : (b k c : ℕ) → b % 65536 ≡ 0 → (b + k * 2 ^ c) % 2 ^ min c 16 ≡ 0
multiple_of_size b k c h =
    let e : ℕ = min c 16 in
    let unit : 65536 ≡ 2 ^ e * 2 ^ (16 - e) = (let z : 16 ≡ e + (16 - e) = omega arith in ap (λ (x : ℕ). 2 ^ x) z) ∙ pow-add 2 e (16 - e) in
    let size : 2 ^ c ≡ 2 ^ (c - e) * 2 ^ e = (let z : c ≡ c - e + e = omega arith in ap (λ (x : ℕ). 2 ^ x) z) ∙ pow-add 2 (c - e) e in
    let from : b ≡ b / 65536 * 65536 = omega (arith, h) in
    let one : b ≡ b / 65536 * 2 ^ (16 - e) * 2 ^ e = from ∙ ap (λ (x : ℕ). b / 65536 * x) (unit ∙ mul_comm (2 ^ e) (2 ^ (16 - e))) ∙ sym (mul_assoc (b / 65536) (2 ^ (16 - e)) (2 ^ e)) in
    let other : k * 2 ^ c ≡ k * 2 ^ (c - e) * 2 ^ e = ap (λ (x : ℕ). k * x) size ∙ sym (mul_assoc k (2 ^ (c - e)) (2 ^ e)) in
    let all : b + k * 2 ^ c ≡ (b / 65536 * 2 ^ (16 - e) + k * 2 ^ (c - e)) * 2 ^ e + 0 = omega (arith, one, other, add-mul (b / 65536 * 2 ^ (16 - e)) (k * 2 ^ (c - e)) (2 ^ e)) in
    ap (λ (x : ℕ). x % 2 ^ e) all ∙ mod-mul-add (b / 65536 * 2 ^ (16 - e) + k * 2 ^ (c - e)) (2 ^ e) 0 (pow_pos e)

pub slots_begin_at_multiples : SlotsBeginAtMultiples
slots_begin_at_multiples s a t e =
    let f = found_at s a t e in
    let g : f.mini.base % 65536 ≡ 0 =
    subst (λ (m : Mini). m.base % 65536 ≡ 0) (sym f.mini_is) (All-get_or (λ (m : Mini). m.base % 65536 ≡ 0) (minis s.classes) f.index _ f.index_known (bases_are_multiples [] heap_from s.classes (omega arith))) in
    subst (λ (x : Slot). x.addr % 2 ^ min x.class 16 ≡ 0) (sym f.is) (multiple_of_size f.mini.base ((a - f.mini.base) / 2 ^ f.mini.class) f.mini.class g)

pub slots_are_known : SlotsAreKnown
slots_are_known s a t e =
    let f = found_at s a t e in
    let n : ℕ = (a - f.mini.base) / 2 ^ f.mini.class in
    let below : n < f.mini.slots = div_below (a - f.mini.base) (2 ^ f.mini.class) f.mini.slots (pow_pos f.mini.class) (omega (arith, f.from, f.to)) in
    subst (λ (x : Slot). IsSlotOf s x × (x.state ≡ state_of s x.addr)) (sym f.is) (
      record {
        mini_known = omega (arith, f.number_is, f.index_known);
        nth_known = subst (λ (m : Mini). n < m.slots) (here f) below;
        class_is = ap (λ (m : Mini). m.class) (here f);
        address_is = ap (λ (x : ℕ). x + n * 2 ^ f.mini.class) (ap (λ (m : Mini). m.base) (here f));
      },
      refl,
    )
  where
    here : (f : IsFound s a 0 heap_from (minis s.classes) t) → f.mini ≡ mini_at (minis s.classes) f.number
    here f = f.mini_is ∙ ap (mini_at (minis s.classes)) (let z : f.index ≡ f.number = omega (arith, f.number_is) in z)

slot_from_stays : (s : Slots) (cs : List ℕ) (a i : ℕ) (ms ns : List Mini) (t : Slot) → slot_from s a i ms ≡ Some t → slot_from (record s { classes = cs }) a i (ms ++ ns) ≡ Some t
slot_from_stays s cs a i [] ns t e = absurd (cc)
slot_from_stays s cs a i (m ∷ ms) ns t e = at (is_inside m a) e (slot_from_stays s cs a (suc i) ms ns t)
  where
    at : (b : Bool) → cond b (Some (slot_in s i m ((a - m.base) / 2 ^ m.class))) (slot_from s a (suc i) ms) ≡ Some t
        → (slot_from s a (suc i) ms ≡ Some t → slot_from (record s { classes = cs }) a (suc i) (ms ++ ns) ≡ Some t)
        → cond b (Some (slot_in (record s { classes = cs }) i m ((a - m.base) / 2 ^ m.class))) (slot_from (record s { classes = cs }) a (suc i) (ms ++ ns)) ≡ Some t
    at true q r = q
    at false q r = r q

pub slots_stay : SlotsStay
slots_stay s c a t e =
    ap (slot_from (grown s c) a 0) (minis_push s.classes c)
    ∙ slot_from_stays s (s.classes ++ c ∷ []) a 0 (minis s.classes) (nth_mini c (heap_from + bytes_of (minis s.classes)) (count_of c s.classes) ∷ []) t e

-- a slot that is found among miniheaps with one more and not among them lies in the last
last_found : (s r : Slots) (a i : ℕ) (ms : List Mini) (m : Mini) (t : Slot) → slot_from s a i (ms ++ m ∷ []) ≡ Some t → slot_from r a i ms ≡ None → (nat_le m.base a && nat_lt a (mini_end m)) ≡ true
last_found s r a i [] m t e f = at (nat_le m.base a && nat_lt a (mini_end m)) refl e
  where
    at : (b : Bool) → (nat_le m.base a && nat_lt a (mini_end m)) ≡ b → cond b (Some (slot_in s i m ((a - m.base) / 2 ^ m.class))) None ≡ Some t → (nat_le m.base a && nat_lt a (mini_end m)) ≡ true
    at true q g = q
    at false q g = absurd (cc)
last_found s r a i (x ∷ ms) m t e f = at (nat_le x.base a && nat_lt a (mini_end x)) e f (last_found s r a (suc i) ms m t)
  where
    at : (b : Bool) → cond b (Some (slot_in s i x ((a - x.base) / 2 ^ x.class))) (slot_from s a (suc i) (ms ++ m ∷ [])) ≡ Some t
        → cond b (Some (slot_in r i x ((a - x.base) / 2 ^ x.class))) (slot_from r a (suc i) ms) ≡ None
        → (slot_from s a (suc i) (ms ++ m ∷ []) ≡ Some t → slot_from r a (suc i) ms ≡ None → (nat_le m.base a && nat_lt a (mini_end m)) ≡ true) → (nat_le m.base a && nat_lt a (mini_end m)) ≡ true
    at true g k ih = absurd (cc)
    at false g k ih = ih g k

pub slots_are_added : SlotsAreAdded
slots_are_added s c a t none e =
    let m : Mini = nth_mini c (heap_from + bytes_of (minis s.classes)) (count_of c s.classes) in
    let found : slot_from (grown s c) a 0 (minis s.classes ++ m ∷ []) ≡ Some t = sym (ap (slot_from (grown s c) a 0) (minis_push s.classes c)) ∙ e in
    let u = and_parts (nat_le m.base a) (nat_lt a (mini_end m)) (last_found (grown s c) s a 0 (minis s.classes) m t found none) in
    (leb-true m.base a u.0, ltb-true a (mini_end m) u.1)
