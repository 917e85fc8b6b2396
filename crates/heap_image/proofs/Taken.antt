-- What is taken of a heap, from slot to slot.
use Rattle.std.proofs.Common.{◌≡◌, ℕ, zero, suc, ◌+◌, ◌-◌, ◌^◌, ◌<◌, ◌≤◌, refl, ap, sym, ◌∙◌, subst, arith, ◌⊎◌, inl, inr, Bool, true, false, cond, not, ◌&&◌, nat_eq, List, [], ◌∷◌, ◌++◌, map, length, take, drop, option_map, append_assoc, append-nil, Option, Some, None, is_some, Result, Ok, Err, length-append}
use Rattle.std.specs.Prelude.{replicate, filter, find, unwrap_or, IsTrue, OnOk, OnErr}
use Rattle.std.specs.List.{AllByRecursion, range_with_len, slice_index_or}
use Rattle.std.proofs.lemmas.Bool.{cases_lt, eqb-true}
use Rattle.std.proofs.lemmas.List.{map-append, take-append-le, take_all, drop_all}
use Rattle.std.proofs.Common.{length-drop}
use borrow.Rule.Slice.PartMut.{post_of}
use Rattle.std.proofs.lemmas.List.Elements.{filter-append}
use Rattle.std.proofs.lemmas.List.FromFn.{length-map-range_with_len}
use Rattle.rv_memory.specs.Laws.{TestsHoldAtEach, TestsHoldFromEach, SpansAreWhole}
use Rattle.std.proofs.lemmas.Nat.{pow_pos}
use Rattle.std.proofs.lemmas.Option.{same_Some}
use Rattle.std.proofs.Math.Nat.{pow-le-pow_right}
use Rattle.rv_memory.specs.Memory.{Memory, span, with_first, is_broken, first_broken, is_mapped}
use Rattle.miniheap.specs.Laws.{SlotsHoldTheirAddresses, SlotsLieWithin, SlotsAreApart, SlotsAreAtPlaces, SlotsFollow, IsWalk}
use Rattle.miniheap.specs.Layout.{heap_from, minis, all_slots}
use Rattle.miniheap.specs.Places.{place_at}
use Rattle.miniheap.specs.Slots.{Slots, slot_at, slot_of, end_of, used_of}
use Rattle.miniheap.specs.Sound.{is_held_state}
use Rattle.miniheap.specs.declared.place.Slot.{Slot}
use Rattle.miniheap.specs.declared.place.SlotPlace.{SlotPlace}
use Rattle.exact_heap.specs.declared.row.SlotRow.{SlotRow}
use Rattle.exact_heap.specs.Placing.{byte_at}
use Rattle.heap_image.specs.declared.image.Broken.{Broken}
use Rattle.heap_image.specs.Taken.{bytes_at, is_unheld, is_broken_in, broken_at, broken_of}
use Rattle.heap_image.specs.Rules.{is_owned, bytes_from, slot_bytes, content_bytes}
use Rattle.heap_image.specs.Taking.{AreMapped, breaks_in, broken_within}

-- ---- spans

pub bytes_of_span : (memory : Memory) (from len : ℕ) (bytes : List ℕ) → span memory.bytes from len ≡ Some bytes → bytes ≡ bytes_at memory from len
bytes_of_span memory from zero bytes e = sym (same_Some [] bytes e)
bytes_of_span memory from (suc len) bytes e = at (memory.bytes from) refl (span memory.bytes (from + 1) len) (bytes_of_span memory (from + 1) len) e
  where
    at : (o : Option ℕ) → memory.bytes from ≡ o → (r : Option (List ℕ)) → ((others : List ℕ) → r ≡ Some others → others ≡ bytes_at memory (from + 1) len) → with_first o r ≡ Some bytes → bytes ≡ unwrap_or o 0 ∷ bytes_at memory (from + 1) len
    at None f r k g = absurd (cc)
    at (Some b) f None k g = absurd (cc)
    at (Some b) f (Some others) k g = sym (same_Some (b ∷ others) bytes g) ∙ ap (λ (xs : List ℕ). b ∷ xs) (k others refl)

pub small_class : (c : ℕ) → 2 ^ c ≤ 2 ^ 31 → c < 32
small_class c small = at (cases_lt c 32)
  where
    at : (c < 32) ⊎ (32 ≤ c) → c < 32
    at (inl below) = below
    at (inr above) = let big : 2 ^ 32 ≤ 2 ^ c = pow-le-pow_right {n = 2} (omega arith) above in absurd (omega (arith, big, small))

-- ---- broken bytes of a span

pub range_parts : (a m n k b : ℕ) → k ≡ m + n → b ≡ a + m → range_with_len a k ≡ range_with_len a m ++ range_with_len b n
range_parts a zero n k b e f =
    let p : k ≡ n = omega (arith, e) in let q : b ≡ a = omega (arith, f) in ap (range_with_len a) p ∙ ap (λ (x : ℕ). range_with_len x n) (sym q)
range_parts a (suc m) n k b e f =
    let p : k ≡ suc (m + n) = omega (arith, e) in
    ap (range_with_len a) p ∙ ap (λ (xs : List ℕ). a ∷ xs) (range_parts (a + 1) m n (m + n) b refl (omega (arith, f)))

-- the first number that passes begins those that do
pub record Begins (p : ℕ → Bool) (from len x : ℕ) : Type 0 where
  pub low : from ≤ x
  pub high : x < from + len
  pub first : (n : ℕ) → x + 1 + n ≡ from + len → filter p (range_with_len from len) ≡ x ∷ filter p (range_with_len (x + 1) n)

pub found_first : (p : ℕ → Bool) (from len x : ℕ) → find p (range_with_len from len) ≡ Some x → Begins p from len x
found_first p from zero x e = absurd (cc)
found_first p from (suc len) x e = at (p from) refl e (found_first p (from + 1) len x)
  where
    here : p from ≡ true → from ≡ x → (n : ℕ) → x + 1 + n ≡ from + suc len → cond (p from) (from ∷ filter p (range_with_len (from + 1) len)) (filter p (range_with_len (from + 1) len)) ≡ x ∷ filter p (range_with_len (x + 1) n)
    here passes same n room =
        let k : len ≡ n = omega (arith, same, room) in
        ap (λ (b : Bool). cond b (from ∷ filter p (range_with_len (from + 1) len)) (filter p (range_with_len (from + 1) len))) passes ∙ ap (λ (y : ℕ). y ∷ filter p (range_with_len (y + 1) len)) same ∙ ap (λ (m : ℕ). x ∷ filter p (range_with_len (x + 1) m)) k

    at : (b : Bool) → p from ≡ b → cond b (Some from) (find p (range_with_len (from + 1) len)) ≡ Some x → (find p (range_with_len (from + 1) len) ≡ Some x → Begins p (from + 1) len x) → Begins p from (suc len) x
    at true f g further = let same : from ≡ x = same_Some from x g in record { low = omega (arith, same); high = omega (arith, same); first = here f same }
    at false f g further =
        let k : Begins p (from + 1) len x = further g in
        record {
          low = omega (arith, k.low);
          high = omega (arith, k.high);
          first = λ n room. ap (λ (b : Bool). cond b (from ∷ filter p (range_with_len (from + 1) len)) (filter p (range_with_len (from + 1) len))) f ∙ k.first n (omega (arith, room));
        }

none_found : (p : ℕ → Bool) (xs : List ℕ) → find p xs ≡ None → filter p xs ≡ []
none_found p [] e = refl
none_found p (x ∷ xs) e = at (p x) e (none_found p xs)
  where
    at : (b : Bool) → cond b (Some x) (find p xs) ≡ None → (find p xs ≡ None → filter p xs ≡ []) → cond b (x ∷ filter p xs) (filter p xs) ≡ []
    at true f k = absurd (cc)
    at false f k = k f

pub break_found : (memory : Memory) (word from len x : ℕ) → first_broken memory word from len ≡ Some x → Begins (is_broken memory word) from len x
break_found memory word from len x e = found_first (is_broken memory word) from len x e

pub break_first : (memory : Memory) (word from len x n : ℕ) → first_broken memory word from len ≡ Some x → x + 1 + n ≡ from + len → breaks_in memory word from len ≡ broken_at memory x ∷ breaks_in memory word (x + 1) n
unfolding breaks_in
break_first memory word from len x n e room = ap (map (broken_at memory)) ((found_first (is_broken memory word) from len x e).first n room)

pub none_broken : (memory : Memory) (word from len : ℕ) → first_broken memory word from len ≡ None → breaks_in memory word from len ≡ []
unfolding breaks_in
none_broken memory word from len e = ap (map (broken_at memory)) (none_found (is_broken memory word) (range_with_len from len) e)

-- ---- broken bytes of a slot

same_filter : (p q : ℕ → Bool) (from len : ℕ) → ((a : ℕ) → from ≤ a → a < from + len → p a ≡ q a) → filter p (range_with_len from len) ≡ filter q (range_with_len from len)
same_filter p q from zero same = refl
same_filter p q from (suc len) same =
    let rest = same_filter p q (from + 1) len (λ a low high. same a (omega (arith, low)) (omega (arith, high))) in
    ap (λ (b : Bool). cond b (from ∷ filter p (range_with_len (from + 1) len)) (filter p (range_with_len (from + 1) len))) (same from (omega arith) (omega arith)) ∙ ap (λ (xs : List ℕ). cond (q from) (from ∷ xs) xs) rest

none_passes : (from len : ℕ) → filter (λ a. false) (range_with_len from len) ≡ []
none_passes from zero = refl
none_passes from (suc len) = none_passes (from + 1) len

pub held_within : SlotsAreApart → (s : Slots) (memory : Memory) (word : ℕ) (t : Slot) → slot_at s t.addr ≡ Some t → is_held_state t.state ≡ true → broken_within s memory word t.addr (2 ^ t.class) ≡ []
unfolding broken_within
held_within apart s memory word t e held =
    ap (map (broken_at memory)) (same_filter (is_broken_in s memory word) (λ a. false) t.addr (2 ^ t.class) none ∙ none_passes t.addr (2 ^ t.class))
  where
    none : (a : ℕ) → t.addr ≤ a → a < t.addr + 2 ^ t.class → is_broken_in s memory word a ≡ false
    none a low high = ap (λ (o : Option Slot). is_unheld o && is_broken memory word a) (apart s t.addr a t e low high) ∙ ap (λ (b : Bool). not b && is_broken memory word a) held

pub unheld_within : SlotsAreApart → (s : Slots) (memory : Memory) (word : ℕ) (t : Slot) → slot_at s t.addr ≡ Some t → is_held_state t.state ≡ false → broken_within s memory word t.addr (2 ^ t.class) ≡ breaks_in memory word t.addr (2 ^ t.class)
unfolding broken_within breaks_in
unheld_within apart s memory word t e free = ap (map (broken_at memory)) (same_filter (is_broken_in s memory word) (is_broken memory word) t.addr (2 ^ t.class) same)
  where
    same : (a : ℕ) → t.addr ≤ a → a < t.addr + 2 ^ t.class → is_broken_in s memory word a ≡ is_broken memory word a
    same a low high = ap (λ (o : Option Slot). is_unheld o && is_broken memory word a) (apart s t.addr a t e low high) ∙ ap (λ (b : Bool). not b && is_broken memory word a) free

-- ---- from slot to slot

pub within_more : (s : Slots) (memory : Memory) (word from m n k b : ℕ) → k ≡ m + n → b ≡ from + m → broken_within s memory word from k ≡ broken_within s memory word from m ++ broken_within s memory word b n
unfolding broken_within
within_more s memory word from m n k b e f =
    ap (λ (xs : List ℕ). map (broken_at memory) (filter (is_broken_in s memory word) xs)) (range_parts from m n k b e f)
    ∙ ap (map (broken_at memory)) (filter-append (is_broken_in s memory word) (range_with_len from m) (range_with_len b n))
    ∙ map-append (broken_at memory) (filter (is_broken_in s memory word) (range_with_len from m)) (filter (is_broken_in s memory word) (range_with_len b n))

-- a walk stands at an address, and what lies before is done
pub record Walks (s : Slots) (memory : Memory) (word : ℕ) (next : Option Slot) (items : List Broken) : Type 0 where
  pub addr : ℕ
  pub left : List ℕ
  pub here : next ≡ slot_at s addr
  pub walk : IsWalk s addr left
  pub low : heap_from ≤ addr
  pub so_far : items ≡ broken_within s memory word heap_from (addr - heap_from)

-- how many bytes lie from a slot on
abbrev pub bytes_left : Slots → Option Slot → ℕ
bytes_left s None = 0
bytes_left s (Some t) = end_of s - t.addr

none_at_end : SlotsHoldTheirAddresses → SlotsLieWithin → (s : Slots) → slot_at s (end_of s) ≡ None
none_at_end hold within s = at (slot_at s (end_of s)) refl
  where
    at : (o : Option Slot) → slot_at s (end_of s) ≡ o → o ≡ None
    at None e = refl
    at (Some t) e = absurd (omega (arith, hold s (end_of s) t e, within s (end_of s) t e))

pub record Goes (s : Slots) (a : ℕ) (t : Slot) (left : List ℕ) : Type 0 where
  pub rest : List ℕ
  pub addr : t.addr ≡ a
  pub walk : IsWalk s (a + 2 ^ t.class) rest

pub walk_goes : SlotsHoldTheirAddresses → SlotsLieWithin → (s : Slots) (a : ℕ) (t : Slot) (left : List ℕ) → IsWalk s a left → slot_at s a ≡ Some t → Goes s a t left
walk_goes hold within s a t [] w e = absurd (clash (slot_at s (end_of s)) t (none_at_end hold within s) (ap (slot_at s) (sym w) ∙ e))
  where
    clash : (o : Option Slot) (t : Slot) → o ≡ None → o ≡ Some t → ⊥
    clash o t f g = cc
walk_goes hold within s a t (x ∷ left) w e =
    let q : w.0 ≡ t = same_Some w.0 t (sym w.1 ∙ e) in
    record { rest = left; addr = ap (λ (y : Slot). y.addr) (sym q) ∙ w.2; walk = subst (λ (y : Slot). IsWalk s (a + 2 ^ y.class) left) q w.4 }

-- the slot of a walk is found at its own address
pub walk_found : SlotsHoldTheirAddresses → SlotsLieWithin → (s : Slots) (memory : Memory) (word : ℕ) (t : Slot) (items : List Broken) → Walks s memory word (Some t) items → slot_at s t.addr ≡ Some t
walk_found hold within s memory word t items w =
    let g : Goes s w.addr t w.left = walk_goes hold within s w.addr t w.left w.walk (sym w.here) in
    ap (slot_at s) g.addr ∙ sym w.here

pub walk_nears : SlotsHoldTheirAddresses → SlotsLieWithin → (s : Slots) (memory : Memory) (word : ℕ) (t : Slot) (items : List Broken) (next : Option Slot) → Walks s memory word (Some t) items → next ≡ slot_at s (t.addr + 2 ^ t.class)
    → bytes_left s next < bytes_left s (Some t)
walk_nears hold within s memory word t items next w f = at next f
  where
    g : Goes s w.addr t w.left
    g = walk_goes hold within s w.addr t w.left w.walk (sym w.here)

    at : (next : Option Slot) → next ≡ slot_at s (t.addr + 2 ^ t.class) → bytes_left s next < bytes_left s (Some t)
    at None e = omega (arith, within s w.addr t (sym w.here), pow_pos t.class)
    at (Some u) e =
        let k : Goes s (w.addr + 2 ^ t.class) u g.rest = walk_goes hold within s (w.addr + 2 ^ t.class) u g.rest g.walk (ap (λ (b : ℕ). slot_at s (b + 2 ^ t.class)) (sym g.addr) ∙ sym e) in
        omega (arith, within s w.addr t (sym w.here), pow_pos t.class, g.addr, k.addr)

pub walk_steps : SlotsHoldTheirAddresses → SlotsLieWithin → (s : Slots) (memory : Memory) (word : ℕ) (t : Slot) (items more : List Broken) (next : Option Slot) → Walks s memory word (Some t) items → next ≡ slot_at s (t.addr + 2 ^ t.class)
    → more ≡ items ++ broken_within s memory word t.addr (2 ^ t.class) → Walks s memory word next more
walk_steps hold within s memory word t items more next w f done = record {
  addr = w.addr + 2 ^ t.class;
  left = g.rest;
  here = f ∙ ap (λ (b : ℕ). slot_at s (b + 2 ^ t.class)) g.addr;
  walk = g.walk;
  low = omega (arith, w.low);
  so_far =
      done ∙ ap (λ (xs : List Broken). xs ++ broken_within s memory word t.addr (2 ^ t.class)) w.so_far
      ∙ sym (within_more s memory word heap_from (w.addr - heap_from) (2 ^ t.class) (w.addr + 2 ^ t.class - heap_from) t.addr (omega (arith, w.low)) (omega (arith, w.low, g.addr)));
}
  where
    g : Goes s w.addr t w.left
    g = walk_goes hold within s w.addr t w.left w.walk (sym w.here)

pub walk_ends : (s : Slots) (memory : Memory) (word : ℕ) (items : List Broken) → Walks s memory word None items → items ≡ broken_of s memory word
unfolding broken_of broken_within
walk_ends s memory word items w = at w.left w.walk
  where
    clash : (o : Option Slot) (t : Slot) → o ≡ Some t → None ≡ o → ⊥
    clash o t f g = cc

    at : (left : List ℕ) → IsWalk s w.addr left → items ≡ map (broken_at memory) (filter (is_broken_in s memory word) (range_with_len heap_from (used_of s)))
    at [] k =
        let n : w.addr - heap_from ≡ used_of s = omega (arith, k) in
        w.so_far ∙ ap (λ (m : ℕ). map (broken_at memory) (filter (is_broken_in s memory word) (range_with_len heap_from m))) n
    at (x ∷ left) k = absurd (clash (slot_at s w.addr) k.0 k.1 w.here)

-- ---- contents

-- the bytes of a slot that begins at an address
abbrev pub bytes_at_slot : (address : ℕ) → Option Slot → ℕ
bytes_at_slot address None = 0
bytes_at_slot address (Some t) = cond (nat_eq t.addr address) (2 ^ t.class) 0

pub slot_bytes_are : SlotsAreAtPlaces → (s : Slots) (address : ℕ) → slot_bytes s.classes address ≡ bytes_at_slot address (slot_at s address)
unfolding slot_bytes
slot_bytes_are law s address = sym (ap (bytes_at_slot address) (law s address) ∙ at (place_at s.classes address))
  where
    at : (o : Option SlotPlace) → bytes_at_slot address (option_map (slot_of s) o) ≡ bytes_from address o
    at None = refl
    at (Some p) = refl

pub contents_mapped : SlotsAreAtPlaces → (s : Slots) (memory : Memory) → AreMapped s memory → (r : SlotRow) → IsTrue (is_mapped memory r.addr (content_bytes s.classes r))
contents_mapped law s memory mapped r = at (is_owned r)
  where
    starts : (t : Slot) → slot_at s r.addr ≡ Some t → (b : Bool) → nat_eq t.addr r.addr ≡ b → IsTrue (is_mapped memory r.addr (cond b (2 ^ t.class) 0))
    starts t e true f = subst (λ (a : ℕ). IsTrue (is_mapped memory a (2 ^ t.class))) (eqb-true t.addr r.addr f) (mapped r.addr t e)
    starts t e false f = refl

    slot : (o : Option Slot) → slot_at s r.addr ≡ o → IsTrue (is_mapped memory r.addr (bytes_at_slot r.addr o))
    slot None e = refl
    slot (Some t) e = starts t e (nat_eq t.addr r.addr) refl

    at : (b : Bool) → IsTrue (is_mapped memory r.addr (cond b (slot_bytes s.classes r.addr) 0))
    at true = subst (λ (n : ℕ). IsTrue (is_mapped memory r.addr n)) (sym (slot_bytes_are law s r.addr)) (slot (slot_at s r.addr) refl)
    at false = refl

-- bytes that were written behind the old ones
pub put_behind : (old whole buf more : List ℕ) (from : ℕ) → from ≡ length old → whole ≡ old ++ more → length buf ≡ length whole - from
    → take from whole ++ (buf ++ post_of from (length whole - from) whole) ≡ old ++ buf
put_behind old whole buf more from e f room =
    let front : take from whole ≡ old = ap (take from) f ∙ take-append-le from old more (omega (arith, e)) ∙ take_all from old (omega (arith, e)) in
    let none : post_of from (length whole - from) whole ≡ [] = drop_all (length whole - from) (drop from whole) (omega (arith, length-drop from whole)) in
    ap (λ (xs : List ℕ). xs ++ (buf ++ post_of from (length whole - from) whole)) front ∙ ap (λ (xs : List ℕ). old ++ (buf ++ xs)) none ∙ ap (λ (xs : List ℕ). old ++ xs) (append-nil buf)

done_by : {A E : Type 0} (r : Result A E) (P Q : Type 0) → OnOk r P → OnErr r Q → (Q → ⊥) → P
done_by (Ok a) P Q k e n = k
done_by (Err x) P Q k e n = absurd (n e)

-- a mapped span that was read into what was added behind the old bytes
pub read_behind : {A E : Type 0} → SpansAreWhole → (memory : Memory) (addr len : ℕ) (old whole buf more : List ℕ) (from : ℕ) (r : Result A E) → IsTrue (is_mapped memory addr len) → from ≡ length old → whole ≡ old ++ more → length more ≡ len
    → OnOk r (span memory.bytes addr (length (take (length whole - from) (drop from whole))) ≡ Some buf) → OnErr r (span memory.bytes addr (length (take (length whole - from) (drop from whole))) ≡ None)
    → (take from whole ++ (buf ++ post_of from (length whole - from) whole) ≡ old ++ bytes_at memory addr len) × (length (take from whole ++ (buf ++ post_of from (length whole - from) whole)) ≡ from + len)
read_behind law memory addr len old whole buf more from r mapped e f g read refused = (is, ap length is ∙ length-append old (bytes_at memory addr len) ∙ omega (arith, e, many))
  where
    all : length whole ≡ from + len
    all = ap length f ∙ length-append old more ∙ omega (arith, e, g)

    part : length (take (length whole - from) (drop from whole)) ≡ len
    part = ap length (take_all (length whole - from) (drop from whole) (omega (arith, length-drop from whole))) ∙ length-drop from whole ∙ omega (arith, all)

    none : (o : Option (List ℕ)) → is_some o ≡ true → o ≡ None → ⊥
    none o h k = cc

    there : is_some (span memory.bytes addr (length (take (length whole - from) (drop from whole)))) ≡ true
    there = law memory.bytes addr (length (take (length whole - from) (drop from whole))) ∙ ap (λ (n : ℕ). is_mapped memory addr n) part ∙ mapped

    got : span memory.bytes addr (length (take (length whole - from) (drop from whole))) ≡ Some buf
    got = done_by r (span memory.bytes addr (length (take (length whole - from) (drop from whole))) ≡ Some buf) (span memory.bytes addr (length (take (length whole - from) (drop from whole))) ≡ None) read refused (none (span memory.bytes addr (length (take (length whole - from) (drop from whole)))) there)

    same : buf ≡ bytes_at memory addr len
    same = bytes_of_span memory addr len buf (ap (λ (n : ℕ). span memory.bytes addr n) (sym part) ∙ got)

    many : length (bytes_at memory addr len) ≡ len
    many = length-map-range_with_len (byte_at memory) addr len

    is : take from whole ++ (buf ++ post_of from (length whole - from) whole) ≡ old ++ bytes_at memory addr len
    is = put_behind old whole buf more from e f (omega (arith, ap length same, many, all)) ∙ ap (λ (xs : List ℕ). old ++ xs) same

pub length-replicated : (n x : ℕ) → length (replicate n x) ≡ n
length-replicated zero x = refl
length-replicated (suc n) x = let k = length-replicated n x in omega (arith, k)

pub mapped_part : TestsHoldAtEach → TestsHoldFromEach → (memory : Memory) (addr len at n : ℕ) → IsTrue (is_mapped memory addr len) → addr ≤ at → at + n ≤ addr + len → IsTrue (is_mapped memory at n)
mapped_part each from memory addr len at n mapped low high =
    from (λ a. is_some (memory.bytes a)) at n (λ a l h. each (λ b. is_some (memory.bytes b)) addr len a mapped (omega (arith, low, l)) (omega (arith, high, h)))

-- one more break
pub break_pushed : (memory : Memory) (word at n found m : ℕ) (items pushed : List Broken) (x : Broken) → first_broken memory word at n ≡ Some found → pushed ≡ items ++ x ∷ [] → x ≡ broken_at memory found → found + 1 + m ≡ at + n
    → pushed ++ breaks_in memory word (found + 1) m ≡ items ++ breaks_in memory word at n
break_pushed memory word at n found m items pushed x e f g room =
    ap (λ (xs : List Broken). xs ++ breaks_in memory word (found + 1) m) f ∙ append_assoc items (x ∷ []) (breaks_in memory word (found + 1) m) ∙ ap (λ (y : Broken). items ++ y ∷ breaks_in memory word (found + 1) m) g
    ∙ ap (λ (xs : List Broken). items ++ xs) (sym (break_first memory word at n found m e room))

pub walk_begins : SlotsFollow → (s : Slots) (memory : Memory) (word : ℕ) (next : Option Slot) → next ≡ slot_at s heap_from → Walks s memory word next []
unfolding broken_within
walk_begins follow s memory word next e = record { addr = heap_from; left = all_slots (minis s.classes); here = e; walk = follow s; low = omega arith; so_far = refl }

-- what holds at each index holds of each item
pub all_of : {X : Type 0} (P : X → Type 0) (xs : List X) → ((k : ℕ) (d : X) → k < length xs → P (slice_index_or xs k d)) → AllByRecursion P xs
all_of P [] each = tt
all_of P (x ∷ xs) each = (each 0 x (omega arith), all_of P xs (λ k d less. each (suc k) d (omega (arith, less))))
