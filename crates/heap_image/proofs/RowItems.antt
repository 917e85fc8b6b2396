-- The three kinds of items of an image: their formats spell their bytes under their rules, in each version.
use Rattle.std.proofs.Common.{◌≡◌, ℕ, ◌+◌, ◌^◌, ◌<◌, ◌≤◌, max, nat_le, nat_lt, nat_eq, Bool, true, false, cond, ◌&&◌, List, [], ◌∷◌, ◌++◌, refl, sym, ap, subst, ◌∙◌, append_assoc, append-nil, arith}
use Rattle.std.specs.List.{AllByRecursion, list_all}
use Rattle.std.proofs.lemmas.Bool.{and_parts, ltb-true}
use Rattle.std.proofs.lemmas.Bool.Decides.{nat_tests}
use Rattle.miniheap.specs.Layout.{heap_limit}
use Rattle.miniheap.specs.Places.{bytes_used, bytes_wanted}
use Rattle.exact_heap.specs.declared.row.SlotRow.{SlotRow}
use Rattle.heap_image.specs.declared.image.Broken.{Broken}
use Rattle.heap_image.specs.declared.version.Version.{Version}
use Rattle.heap_image.specs.declared.version.Version.TheVariants.{One, Two}
use Rattle.heap_image.specs.Fields.{Byte, Word, Long, number_bytes}
use Rattle.heap_image.specs.Versions.{greatest_class, front_bytes}
use Rattle.heap_image.specs.Rules.{slot_bytes, addr_fits, size_fits, front_fits}
use Rattle.heap_image.specs.Lawful.{Each, IsClass, IsRow, IsBroken}
use Rattle.heap_image.specs.Spelling.{class_bytes, row_bytes, broken_bytes}
use Rattle.heap_image.specs.Formats.{class_format, row_format, broken_format}
use Rattle.heap_image.proofs.Formats.{Spells}
use Rattle.heap_image.proofs.Items.{IsItem}

-- ---- miniheaps

class_told : (version : Version) (earlier : List ℕ) (c : ℕ) (text : List ℕ) → Spells (class_format version earlier) text c → (text ≡ class_bytes c) × IsClass (greatest_class version) earlier c
class_told version earlier c text s =
    let text_is : text ≡ class_bytes s.0 = s.4 ∙ ap (λ (t : List ℕ). number_bytes Word s.0 ++ t) s.5.0 ∙ append-nil (number_bytes Word s.0) in
    subst (λ (d : ℕ). (text ≡ class_bytes d) × IsClass (greatest_class version) earlier d) s.5.1 (text_is, record { word = s.2; fits = s.3 })

pub class_item : (version : Version) → IsItem (class_format version) class_bytes (IsClass (greatest_class version))
class_item version = record {
  told = class_told version;
  spelled = λ earlier c h. (c, [], h.word, h.fits, sym (append-nil (number_bytes Word c)), (refl, refl));
}

-- ---- broken bytes

broken_told : (seed : ℕ) (classes : List ℕ) (rows : List SlotRow) (earlier : List Broken) (b : Broken) (text : List ℕ) → Spells (broken_format seed classes rows earlier) text b → (text ≡ broken_bytes b) × IsBroken seed classes rows earlier b
broken_told seed classes rows earlier b text s =
    let byte = s.5 in
    let made : Broken = record { addr = s.0; byte = byte.0 } in
    let rest_is : s.1 ≡ number_bytes Byte byte.0 = byte.4 ∙ ap (λ (t : List ℕ). number_bytes Byte byte.0 ++ t) byte.5.0 ∙ append-nil (number_bytes Byte byte.0) in
    let text_is : text ≡ broken_bytes made = s.4 ∙ ap (λ (t : List ℕ). number_bytes Word s.0 ++ t) rest_is in
    subst (λ (c : Broken). (text ≡ broken_bytes c) × IsBroken seed classes rows earlier c) byte.5.1
    (text_is, record { addr_word = s.2; byte_byte = byte.2; addr = s.3; byte = byte.3 })

pub broken_item : (seed : ℕ) (classes : List ℕ) (rows : List SlotRow) → IsItem (broken_format seed classes rows) broken_bytes (IsBroken seed classes rows)
broken_item seed classes rows = record {
  told = broken_told seed classes rows;
  spelled = λ earlier b h. (b.addr, number_bytes Byte b.byte, h.addr_word, h.addr, refl, (b.byte, [], h.byte_byte, h.byte, sym (append-nil (number_bytes Byte b.byte)), (refl, refl)));
}

-- ---- rows

-- a row of version 1 has no front
abbrev pub FrontIn : Version → ℕ → Type 0
FrontIn One front = front ≡ 0
FrontIn Two front = Unit {0}

pub record IsRowIn (version : Version) (classes : List ℕ) (clock : ℕ) (earlier : List SlotRow) (r : SlotRow) : Type 0 where
  pub row : IsRow classes clock earlier r
  pub front_in : FrontIn version r.front

regroup : (a b c d e f g h : List ℕ) → a ++ (b ++ (c ++ (d ++ (e ++ (f ++ (g ++ (h ++ []))))))) ≡ ((((((a ++ b) ++ c) ++ d) ++ e) ++ f) ++ g) ++ h
regroup a b c d e f g h = simp (append_assoc, append-nil)

row_regroup : (version : Version) (r : SlotRow)
    → number_bytes Word r.addr ++ (number_bytes Byte r.state ++ (number_bytes Long r.object ++ (number_bytes Word r.size ++ (front_bytes version r.front ++ (number_bytes Word r.site ++ (number_bytes Word r.free_site ++ (number_bytes Long r.freed ++ []))))))) ≡ row_bytes version r
row_regroup version r = regroup (number_bytes Word r.addr) (number_bytes Byte r.state) (number_bytes Long r.object) (number_bytes Word r.size) (front_bytes version r.front) (number_bytes Word r.site) (number_bytes Word r.free_site) (number_bytes Long r.freed)

-- without a front an object fits where its size does
no_front : (slot state size : ℕ) → 0 < slot → size_fits slot state size ≡ true → front_fits slot state size 0 ≡ true
no_front slot state size some h = split (nat_eq state 4) h
  where
    split : (b : Bool) → cond b (nat_eq size 0) (nat_le size (2 ^ 20) && nat_le size slot) ≡ true → cond b true (nat_le (0 + max size 1) slot) ≡ true
    split true h = refl
    split false h = grind (arith, nat_tests)

-- an address that fits is a slot's
some_slot : (classes : List ℕ) (earlier : List SlotRow) (addr : ℕ) → addr_fits classes earlier addr ≡ true → 0 < slot_bytes classes addr
some_slot classes earlier addr h = ltb-true _ _ (and_parts (nat_lt 0 (slot_bytes classes addr)) (list_all (λ r. nat_lt r.addr addr) earlier) h).0

row_told_two : (classes : List ℕ) (clock : ℕ) (earlier : List SlotRow) (r : SlotRow) (text : List ℕ) → Spells (row_format Two classes clock earlier) text r → (text ≡ row_bytes Two r) × IsRowIn Two classes clock earlier r
row_told_two classes clock earlier r text a =
    let st = a.5 in
    let ob = st.5 in
    let sz = ob.5 in
    let fr = sz.5 in
    let si = fr.5 in
    let fs = si.5 in
    let fd = fs.5 in
    let made : SlotRow = record { addr = a.0; state = st.0; object = ob.0; size = sz.0; front = fr.0; site = si.0; free_site = fs.0; freed = fd.0 } in
    let e7 : fd.1 ≡ [] = fd.5.0 in
    let e6 : fs.1 ≡ number_bytes Long fd.0 ++ [] = fd.4 ∙ ap (λ (t : List ℕ). number_bytes Long fd.0 ++ t) e7 in
    let text_is : text ≡ row_bytes Two made =
    a.4 ∙ ap (λ (t : List ℕ). number_bytes Word a.0 ++ t) (st.4 ∙ ap (λ (t : List ℕ). number_bytes Byte st.0 ++ t) (ob.4 ∙ ap (λ (t : List ℕ). number_bytes Long ob.0 ++ t)
    (sz.4 ∙ ap (λ (t : List ℕ). number_bytes Word sz.0 ++ t) (fr.4 ∙ ap (λ (t : List ℕ). number_bytes Word fr.0 ++ t) (si.4 ∙ ap (λ (t : List ℕ). number_bytes Word si.0 ++ t)
    (fs.4 ∙ ap (λ (t : List ℕ). number_bytes Word fs.0 ++ t) e6)))))) ∙ row_regroup Two made in
    subst (λ (z : SlotRow). (text ≡ row_bytes Two z) × IsRowIn Two classes clock earlier z) fd.5.1 (
      text_is,
      record {
        row = record {
          addr_word = a.2;
          state_byte = st.2;
          object_long = ob.2;
          size_word = sz.2;
          front_word = fr.2;
          site_word = si.2;
          free_site_word = fs.2;
          freed_long = fd.2;
          addr = a.3;
          state = st.3;
          object = ob.3;
          size = sz.3;
          front = fr.3;
          site = si.3;
          free_site = fs.3;
          freed = fd.3;
        };
        front_in = tt;
      },
    )

row_told_one : (classes : List ℕ) (clock : ℕ) (earlier : List SlotRow) (r : SlotRow) (text : List ℕ) → Spells (row_format One classes clock earlier) text r → (text ≡ row_bytes One r) × IsRowIn One classes clock earlier r
row_told_one classes clock earlier r text a =
    let st = a.5 in
    let ob = st.5 in
    let sz = ob.5 in
    let si = sz.5 in
    let fs = si.5 in
    let fd = fs.5 in
    let made : SlotRow = record { addr = a.0; state = st.0; object = ob.0; size = sz.0; front = 0; site = si.0; free_site = fs.0; freed = fd.0 } in
    let e7 : fd.1 ≡ [] = fd.5.0 in
    let e6 : fs.1 ≡ number_bytes Long fd.0 ++ [] = fd.4 ∙ ap (λ (t : List ℕ). number_bytes Long fd.0 ++ t) e7 in
    let text_is : text ≡ row_bytes One made =
    a.4 ∙ ap (λ (t : List ℕ). number_bytes Word a.0 ++ t) (st.4 ∙ ap (λ (t : List ℕ). number_bytes Byte st.0 ++ t) (ob.4 ∙ ap (λ (t : List ℕ). number_bytes Long ob.0 ++ t)
    (sz.4 ∙ ap (λ (t : List ℕ). number_bytes Word sz.0 ++ t) (si.4 ∙ ap (λ (t : List ℕ). number_bytes Word si.0 ++ t)
    (fs.4 ∙ ap (λ (t : List ℕ). number_bytes Word fs.0 ++ t) e6))))) ∙ row_regroup One made in
    let slot = slot_bytes classes a.0 in
    subst (λ (z : SlotRow). (text ≡ row_bytes One z) × IsRowIn One classes clock earlier z) fd.5.1 (
      text_is,
      record {
        row = record {
          addr_word = a.2;
          state_byte = st.2;
          object_long = ob.2;
          size_word = sz.2;
          front_word = omega arith;
          site_word = si.2;
          free_site_word = fs.2;
          freed_long = fd.2;
          addr = a.3;
          state = st.3;
          object = ob.3;
          size = sz.3;
          front = no_front slot st.0 sz.0 (some_slot classes earlier a.0 a.3) sz.3;
          site = si.3;
          free_site = fs.3;
          freed = fd.3;
        };
        front_in = refl;
      },
    )

row_spelled_two : (classes : List ℕ) (clock : ℕ) (earlier : List SlotRow) (r : SlotRow) → IsRowIn Two classes clock earlier r → Spells (row_format Two classes clock earlier) (row_bytes Two r) r
row_spelled_two classes clock earlier r h =
    let i = h.row in
    let t7 = number_bytes Long r.freed ++ [] in
    let t6 = number_bytes Word r.free_site ++ t7 in
    let t5 = number_bytes Word r.site ++ t6 in
    let t4 = number_bytes Word r.front ++ t5 in
    let t3 = number_bytes Word r.size ++ t4 in
    let t2 = number_bytes Long r.object ++ t3 in
    let t1 = number_bytes Byte r.state ++ t2 in (
      r.addr,
      t1,
      i.addr_word,
      i.addr,
      sym (row_regroup Two r),
      (
        r.state,
        t2,
        i.state_byte,
        i.state,
        refl,
        (
          r.object,
          t3,
          i.object_long,
          i.object,
          refl,
          (
            r.size,
            t4,
            i.size_word,
            i.size,
            refl,
            (
              r.front,
              t5,
              i.front_word,
              i.front,
              refl,
              (
                r.site,
                t6,
                i.site_word,
                i.site,
                refl,
                (
                  r.free_site,
                  t7,
                  i.free_site_word,
                  i.free_site,
                  refl,
                  (r.freed, [], i.freed_long, i.freed, refl, (refl, refl)),
                ),
              ),
            ),
          ),
        ),
      ),
    )

row_spelled_one : (classes : List ℕ) (clock : ℕ) (earlier : List SlotRow) (r : SlotRow) → IsRowIn One classes clock earlier r → Spells (row_format One classes clock earlier) (row_bytes One r) r
row_spelled_one classes clock earlier r h =
    let i = h.row in
    let t7 = number_bytes Long r.freed ++ [] in
    let t6 = number_bytes Word r.free_site ++ t7 in
    let t5 = number_bytes Word r.site ++ t6 in
    let t3 = number_bytes Word r.size ++ t5 in
    let t2 = number_bytes Long r.object ++ t3 in
    let t1 = number_bytes Byte r.state ++ t2 in
    let with_front : ℕ → SlotRow = λ f. record { addr = r.addr; state = r.state; object = r.object; size = r.size; front = f; site = r.site; free_site = r.free_site; freed = r.freed } in (
      r.addr,
      t1,
      i.addr_word,
      i.addr,
      sym (row_regroup One r),
      (
        r.state,
        t2,
        i.state_byte,
        i.state,
        refl,
        (
          r.object,
          t3,
          i.object_long,
          i.object,
          refl,
          (
            r.size,
            t5,
            i.size_word,
            i.size,
            refl,
            (
              r.site,
              t6,
              i.site_word,
              i.site,
              refl,
              (
                r.free_site,
                t7,
                i.free_site_word,
                i.free_site,
                refl,
                (r.freed, [], i.freed_long, i.freed, refl, (refl, ap with_front (sym h.front_in))),
              ),
            ),
          ),
        ),
      ),
    )

pub row_item : (version : Version) (classes : List ℕ) (clock : ℕ) → IsItem (row_format version classes clock) (row_bytes version) (IsRowIn version classes clock)
row_item One classes clock = record { told = row_told_one classes clock; spelled = row_spelled_one classes clock }
row_item Two classes clock = record { told = row_told_two classes clock; spelled = row_spelled_two classes clock }

-- ---- from a version to all images and back

pub each_map : {X : Type 0} (P Q : List X → X → Type 0) → ((earlier : List X) (x : X) → P earlier x → Q earlier x) → (earlier xs : List X) → Each P earlier xs → Each Q earlier xs
each_map P Q f earlier [] h = tt
each_map P Q f earlier (x ∷ xs) h = (f earlier x h.0, each_map P Q f (earlier ++ x ∷ []) xs h.1)

more_classes : (c : ℕ) (b : Bool) → (nat_le 4 c && nat_le c 21 && b) ≡ true → (nat_le 4 c && nat_le c 22 && b) ≡ true
more_classes c b h = grind (arith, nat_tests)

pub class_of_version : (version : Version) (earlier : List ℕ) (c : ℕ) → IsClass (greatest_class version) earlier c → IsClass 22 earlier c
class_of_version One earlier c h = record { word = h.word; fits = more_classes c (nat_le (bytes_used earlier + bytes_wanted earlier c) heap_limit) h.fits }
class_of_version Two earlier c h = h

least_class : (c : ℕ) (b : Bool) → (nat_le 4 c && nat_le c 21 && b) ≡ true → c ≤ 21
least_class c b h = grind (arith, nat_tests)

pub small_classes : (earlier cs : List ℕ) → Each (IsClass 21) earlier cs → AllByRecursion (λ c. c ≤ 21) cs
small_classes earlier [] h = tt
small_classes earlier (c ∷ cs) h = (least_class c (nat_le (bytes_used earlier + bytes_wanted earlier c) heap_limit) h.0.fits, small_classes (earlier ++ c ∷ []) cs h.1)

fewer_classes : (c : ℕ) (b : Bool) → c ≤ 21 → (nat_le 4 c && nat_le c 22 && b) ≡ true → (nat_le 4 c && nat_le c 21 && b) ≡ true
fewer_classes c b small h = grind (arith, nat_tests)

pub classes_of_one : (earlier cs : List ℕ) → Each (IsClass 22) earlier cs → AllByRecursion (λ c. c ≤ 21) cs → Each (IsClass 21) earlier cs
classes_of_one earlier [] h small = tt
classes_of_one earlier (c ∷ cs) h small =
    (record { word = h.0.word; fits = fewer_classes c (nat_le (bytes_used earlier + bytes_wanted earlier c) heap_limit) small.0 h.0.fits }, classes_of_one (earlier ++ c ∷ []) cs h.1 small.1)

pub no_fronts : (classes : List ℕ) (clock : ℕ) (earlier rs : List SlotRow) → Each (IsRowIn One classes clock) earlier rs → AllByRecursion (λ r. r.front ≡ 0) rs
no_fronts classes clock earlier [] h = tt
no_fronts classes clock earlier (r ∷ rs) h = (h.0.front_in, no_fronts classes clock (earlier ++ r ∷ []) rs h.1)

pub rows_of_one : (classes : List ℕ) (clock : ℕ) (earlier rs : List SlotRow) → Each (IsRow classes clock) earlier rs → AllByRecursion (λ r. r.front ≡ 0) rs → Each (IsRowIn One classes clock) earlier rs
rows_of_one classes clock earlier [] h none = tt
rows_of_one classes clock earlier (r ∷ rs) h none = (record { row = h.0; front_in = none.0 }, rows_of_one classes clock (earlier ++ r ∷ []) rs h.1 none.1)
