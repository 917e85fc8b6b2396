-- Whole images: what is read is spelled so, and what is spelled so is read.
use Rattle.std.proofs.Common.{◌≡◌, ℕ, ◌^◌, ◌<◌, Bool, true, false, cond, eqb, List, [], ◌++◌, length, drop, Ok, Err, refl, sym, ap, subst, ◌∙◌, append_assoc, append-nil, arith}
use Rattle.std.specs.List.{starts_with}
use Rattle.std.proofs.lemmas.Bool.{eqb-true}
use Rattle.std.proofs.lemmas.Bool.Decides.{Decides-eqb, nat_tests}
use Rattle.std.proofs.lemmas.List.{nil_from_length, drop_at}
use Rattle.std.proofs.lemmas.Slice.Eq.{starts_is}
use Rattle.patch_table.specs.Table.{Table}
use Rattle.exact_heap.specs.declared.signal.Place.{Place}
use Rattle.exact_heap.specs.declared.signal.Place.TheVariants.{Call, End}
use Rattle.exact_heap.specs.declared.row.SlotRow.{SlotRow}
use Rattle.heap_image.specs.declared.image.Broken.{Broken}
use Rattle.heap_image.specs.declared.image.Head.{Head}
use Rattle.heap_image.specs.declared.refusal.ImageRefusal.TheVariants as why
use Rattle.heap_image.specs.declared.version.Version.{Version}
use Rattle.heap_image.specs.declared.version.Version.TheVariants.{One, Two}
use Rattle.heap_image.specs.declared.version.TheConstants.{MARK_ONE, MARK_TWO}
use Rattle.heap_image.specs.Fields.{Word, Long, number_bytes}
use Rattle.heap_image.specs.Versions.{mark_of, greatest_class}
use Rattle.heap_image.specs.Rules.{contents_len}
use Rattle.heap_image.specs.Lawful.{Each, IsPlace, IsClass, IsRow, IsBroken, IsLawful}
use Rattle.heap_image.specs.Spelling.{place_number, head_bytes, class_bytes, row_bytes, broken_bytes, counted}
use Rattle.heap_image.specs.Steps.{◌>>=◌, number_at, part_at, mark_at, read_at, counted_at}
use Rattle.heap_image.specs.Formats.{place_of, head_format, class_format, row_format, broken_format}
use Rattle.heap_image.specs.Reading.{Front, Parts, text_front, front_at, ended, contents_at, parts_at, image_of}
use Rattle.heap_image.proofs.Numbers.{IsBytes, IsBytes-drop, bind_ok, ok_is, guard_ended, Takes, Takes-then, number_takes, number_again, part_takes, part_again}
use Rattle.heap_image.proofs.Formats.{Spells, read_takes, read_again}
use Rattle.heap_image.proofs.Items.{counted_takes, counted_again}
use Rattle.heap_image.proofs.RowItems.{IsRowIn, class_item, row_item, broken_item, each_map, class_of_version}

-- ---- the head

pub record HeadFits (h : Head) : Type 0 where
  pub tag : h.tag < 2 ^ 64
  pub seed : h.seed < 2 ^ 64
  pub place : IsPlace h.place
  pub clock : h.clock < 2 ^ 64

place_told : (n : ℕ) → n < 2 ^ 64 → (place_number (place_of n) ≡ n) × IsPlace (place_of n)
place_told n lt = split (eqb n 18446744073709551615) refl
  where
    split : (b : Bool) → eqb n 18446744073709551615 ≡ b → (place_number (cond b End (Call n)) ≡ n) × IsPlace (cond b End (Call n))
    split true e = (sym (eqb-true _ _ e), tt)
    split false e = (refl, grind (arith, nat_tests))

place_spelled : (p : Place) → IsPlace p → (place_number p < 2 ^ 64) × (place_of (place_number p) ≡ p)
place_spelled End h = (omega arith, refl)
place_spelled (Call n) h = (omega arith, split (eqb n 18446744073709551615) refl)
  where
    split : (b : Bool) → eqb n 18446744073709551615 ≡ b → cond b End (Call n) ≡ Call n
    split true e = let is = eqb-true _ _ e in absurd (omega arith)
    split false e = refl

head_regroup : (a b c d : List ℕ) → a ++ (b ++ (c ++ (d ++ []))) ≡ ((a ++ b) ++ c) ++ d
head_regroup a b c d = simp (append_assoc, append-nil)

head_told : (h : Head) (text : List ℕ) → Spells head_format text h → (text ≡ head_bytes h) × HeadFits h
head_told h text a =
    let se = a.5 in
    let pl = se.5 in
    let cl = pl.5 in
    let place = place_told pl.0 pl.2 in
    let made : Head = record { tag = a.0; seed = se.0; place = place_of pl.0; clock = cl.0 } in
    let grouped : text ≡ ((number_bytes Long a.0 ++ number_bytes Long se.0) ++ number_bytes Long pl.0) ++ number_bytes Long cl.0 =
    a.4 ∙ ap (λ (t : List ℕ). number_bytes Long a.0 ++ t) (se.4 ∙ ap (λ (t : List ℕ). number_bytes Long se.0 ++ t) (pl.4 ∙ ap (λ (t : List ℕ). number_bytes Long pl.0 ++ t)
    (cl.4 ∙ ap (λ (t : List ℕ). number_bytes Long cl.0 ++ t) cl.5.0))) ∙ head_regroup (number_bytes Long a.0) (number_bytes Long se.0) (number_bytes Long pl.0) (number_bytes Long cl.0) in
    let text_is : text ≡ head_bytes made = grouped ∙ ap (λ (n : ℕ). ((number_bytes Long a.0 ++ number_bytes Long se.0) ++ number_bytes Long n) ++ number_bytes Long cl.0) (sym place.0) in
    subst (λ (z : Head). (text ≡ head_bytes z) × HeadFits z) cl.5.1 (text_is, record { tag = a.2; seed = se.2; place = place.1; clock = cl.2 })

head_spelled : (h : Head) → HeadFits h → Spells head_format (head_bytes h) h
head_spelled h fits =
    let place = place_spelled h.place fits.place in
    let t3 = number_bytes Long h.clock ++ [] in
    let t2 = number_bytes Long (place_number h.place) ++ t3 in
    let t1 = number_bytes Long h.seed ++ t2 in
    let with_place : Place → Head = λ p. record { tag = h.tag; seed = h.seed; place = p; clock = h.clock } in (
      h.tag,
      t1,
      fits.tag,
      refl,
      sym (head_regroup (number_bytes Long h.tag) (number_bytes Long h.seed) (number_bytes Long (place_number h.place)) (number_bytes Long h.clock)),
      (h.seed, t2, fits.seed, refl, refl, (place_number h.place, t3, place.0, refl, refl, (h.clock, [], fits.clock, refl, refl, (refl, ap with_place place.1)))),
    )

-- ---- the mark

abbrev starts : List ℕ → List ℕ → Bool
starts bytes mark = starts_with (λ a b. eqb a b) bytes mark

mark_is : (bytes mark : List ℕ) → starts bytes mark ≡ true → bytes ≡ mark ++ drop (length mark) bytes
mark_is bytes mark e = (starts_is Decides-eqb bytes mark (starts bytes mark) refl).0 e

mark_takes : (bytes : List ℕ) (x : Version × List ℕ) → mark_at bytes ≡ Ok x → bytes ≡ mark_of x.0 ++ x.1
unfolding mark_at mark_of
mark_takes bytes x e = split (starts bytes MARK_TWO) (starts bytes MARK_ONE) refl refl e
  where
    split : (b c : Bool) → starts bytes MARK_TWO ≡ b → starts bytes MARK_ONE ≡ c → cond b (Ok (Two, drop 8 bytes)) (cond c (Ok (One, drop 8 bytes)) (Err why.Head)) ≡ Ok x → bytes ≡ mark_of x.0 ++ x.1
    split true c two one e = let made : Version × List ℕ = (Two, drop 8 bytes) in subst (λ (y : Version × List ℕ). bytes ≡ mark_of y.0 ++ y.1) (ok_is made x e) (mark_is bytes MARK_TWO two)
    split false true two one e = let made : Version × List ℕ = (One, drop 8 bytes) in subst (λ (y : Version × List ℕ). bytes ≡ mark_of y.0 ++ y.1) (ok_is made x e) (mark_is bytes MARK_ONE one)
    split false false two one e = absurd cc

mark_again : (version : Version) (rest : List ℕ) → mark_at (mark_of version ++ rest) ≡ Ok (version, rest)
unfolding mark_at mark_of
mark_again One rest = refl
mark_again Two rest = refl

mark_split : (bytes : List ℕ) (x : Version × List ℕ) → IsBytes bytes → mark_at bytes ≡ Ok x → Takes bytes (mark_of x.0) x.1
mark_split bytes x fits e =
    let parts = mark_takes bytes x e in
    record {
      parts = parts;
      rest_fits = subst IsBytes (drop_at (mark_of x.0) x.1 (length (mark_of x.0)) refl) (IsBytes-drop (length (mark_of x.0)) (mark_of x.0 ++ x.1) (subst IsBytes parts fits));
    }

-- ---- what stands before the miniheaps

pub record FrontTaken (bytes : List ℕ) (f : Front) : Type 0 where
  pub takes : Takes bytes (mark_of f.version ++ head_bytes f.head ++ number_bytes Word (length f.text) ++ f.text) f.rest
  pub head_fits : HeadFits f.head
  pub text_fits : length f.text < 2 ^ 32

-- the same, of the parts one by one
front_parts : (bytes : List ℕ) (m : Version × List ℕ) (h : Head × List ℕ) (n : ℕ × List ℕ) (t : List ℕ × List ℕ) → IsBytes bytes
    → mark_at bytes ≡ Ok m → read_at (length bytes) head_format m.1 ≡ Ok h → number_at Word h.1 ≡ Ok n → part_at n.0 n.1 ≡ Ok t
    → FrontTaken bytes (record { version = m.0; head = h.0; begins = n.1; text = t.0; rest = t.1 })
front_parts bytes m h n t fits em eh en et =
    let t0 = mark_split bytes m fits em in
    let r = read_takes head_format (length bytes) m.1 h t0.rest_fits eh in
    let told = head_told h.0 r.text r.spells in
    let t1 = subst (λ (u : List ℕ). Takes m.1 u h.1) told.0 r.takes in
    let t2 = number_takes Word h.1 n t1.rest_fits en in
    let t3 = part_takes n.0 n.1 t t2.0.rest_fits et in
    let len_is : n.0 ≡ length t.0 = sym t3.1 in
    let t2' = subst (λ (i : ℕ). Takes h.1 (number_bytes Word i) n.1) len_is t2.0 in
    let e01 = Takes-then bytes (mark_of m.0) m.1 (head_bytes h.0) h.1 t0 t1 in
    let e02 = Takes-then bytes (mark_of m.0 ++ head_bytes h.0) h.1 (number_bytes Word (length t.0)) n.1 e01 t2' in
    let e03 = Takes-then bytes (mark_of m.0 ++ head_bytes h.0 ++ number_bytes Word (length t.0)) n.1 t.0 t.1 e02 t3.0 in
    record { takes = e03; head_fits = told.1; text_fits = omega (arith, t2.1, t3.1) }

pub front_takes : (bytes : List ℕ) (f : Front) → IsBytes bytes → front_at bytes ≡ Ok f → FrontTaken bytes f
unfolding front_at
front_takes bytes f fits e =
    let a = bind_ok (mark_at bytes) (λ (mark : Version × List ℕ). read_at (length bytes) head_format mark.1 >>= λ head. number_at Word head.1 >>= λ len. part_at len.0 len.1 >>= λ text. text_front mark.0 head.0 len.1 text) f e in
    let b = bind_ok (read_at (length bytes) head_format a.0.1) (λ (head : Head × List ℕ). number_at Word head.1 >>= λ len. part_at len.0 len.1 >>= λ text. text_front a.0.0 head.0 len.1 text) f a.2 in
    let c = bind_ok (number_at Word b.0.1) (λ (len : ℕ × List ℕ). part_at len.0 len.1 >>= λ text. text_front a.0.0 b.0.0 len.1 text) f b.2 in
    let d = bind_ok (part_at c.0.0 c.0.1) (λ (text : List ℕ × List ℕ). text_front a.0.0 b.0.0 c.0.1 text) f c.2 in
    let made : Front = record { version = a.0.0; head = b.0.0; begins = c.0.1; text = d.0.0; rest = d.0.1 } in
    subst (λ (g : Front). FrontTaken bytes g) {x = made} (ok_is made f d.2) (front_parts bytes a.0 b.0 c.0 d.0 fits a.1 b.1 c.1 d.1)

four_parts : (a b c d e : List ℕ) → (((a ++ b) ++ c) ++ d) ++ e ≡ a ++ (b ++ (c ++ (d ++ e)))
four_parts a b c d e = simp append_assoc

pub front_again : (version : Version) (head : Head) (text rest : List ℕ) → HeadFits head → length text < 2 ^ 32
    → front_at (mark_of version ++ head_bytes head ++ number_bytes Word (length text) ++ text ++ rest) ≡ Ok (record { version = version; head = head; begins = text ++ rest; text = text; rest = rest })
unfolding front_at
front_again version head text rest fits few =
    let bytes = mark_of version ++ (head_bytes head ++ (number_bytes Word (length text) ++ (text ++ rest))) in
    let first = mark_again version (head_bytes head ++ (number_bytes Word (length text) ++ (text ++ rest))) in
    let second = read_again head_format (length bytes) (head_bytes head) head (number_bytes Word (length text) ++ (text ++ rest)) (head_spelled head fits) in
    let third = number_again Word (length text) (text ++ rest) few in
    let fourth = part_again (length text) text rest refl in
    rw (four_parts (mark_of version) (head_bytes head) (number_bytes Word (length text)) text rest, first, second, third, fourth) refl

-- ---- what stands behind the patch text

pub record PartsTaken (version : Version) (head : Head) (bytes : List ℕ) (p : Parts) : Type 0 where
  pub spelled : bytes ≡ counted class_bytes p.miniheaps ++ counted (row_bytes version) p.rows ++ p.contents ++ counted broken_bytes p.broken
  pub miniheaps : Each (IsClass (greatest_class version)) [] p.miniheaps
  pub rows : Each (IsRowIn version p.miniheaps head.clock) [] p.rows
  pub contents : length p.contents ≡ contents_len p.miniheaps p.rows
  pub broken : Each (IsBroken head.seed p.miniheaps p.rows) [] p.broken
  pub miniheap_count : length p.miniheaps < 2 ^ 32
  pub row_count : length p.rows < 2 ^ 32
  pub broken_count : length p.broken < 2 ^ 32

record ContentsTaken (seed : ℕ) (minis : List ℕ) (rows : List SlotRow) (bytes : List ℕ) (p : Parts) : Type 0 where
  contents : List ℕ
  broken : List Broken
  parts_are : record { miniheaps = minis; rows = rows; contents = contents; broken = broken } ≡ p
  takes : Takes bytes (contents ++ counted broken_bytes broken) []
  length_is : length contents ≡ contents_len minis rows
  keep : Each (IsBroken seed minis rows) [] broken
  few : length broken < 2 ^ 32

contents_parts : (whole seed : ℕ) (minis : List ℕ) (rows : List SlotRow) (bytes : List ℕ) (p : Parts) (t : List ℕ × List ℕ) (b : List Broken × List ℕ) → IsBytes bytes
    → part_at (contents_len minis rows) bytes ≡ Ok t → counted_at whole (broken_format seed minis rows) t.1 ≡ Ok b → ended (record { miniheaps = minis; rows = rows; contents = t.0; broken = b.0 }) b.1 ≡ Ok p
    → ContentsTaken seed minis rows bytes p
contents_parts whole seed minis rows bytes p t b fits et eb ep =
    let made : Parts = record { miniheaps = minis; rows = rows; contents = t.0; broken = b.0 } in
    let g = guard_ended (eqb (length b.1) 0) why.Tail made p ep in
    let none : b.1 ≡ [] = nil_from_length b.1 (eqb-true _ _ g.0) in
    let first = part_takes (contents_len minis rows) bytes t fits et in
    let k = counted_takes (broken_format seed minis rows) broken_bytes (IsBroken seed minis rows) (broken_item seed minis rows) whole t.1 b first.0.rest_fits eb in
    let both = Takes-then bytes t.0 t.1 (counted broken_bytes b.0) b.1 first.0 k.takes in
    record {
      contents = t.0;
      broken = b.0;
      parts_are = g.1;
      takes = subst (λ (u : List ℕ). Takes bytes (t.0 ++ counted broken_bytes b.0) u) none both;
      length_is = first.1;
      keep = k.keep;
      few = k.few;
    }

contents_takes : (whole seed : ℕ) (minis : List ℕ) (rows : List SlotRow) (bytes : List ℕ) (p : Parts) → IsBytes bytes → contents_at whole seed minis rows bytes ≡ Ok p → ContentsTaken seed minis rows bytes p
unfolding contents_at
contents_takes whole seed minis rows bytes p fits e =
    let a = bind_ok (part_at (contents_len minis rows) bytes) (λ (contents : List ℕ × List ℕ). counted_at whole (broken_format seed minis rows) contents.1 >>= λ broken. ended (record { miniheaps = minis; rows = rows; contents = contents.0; broken = broken.0 }) broken.1) p e in
    let b = bind_ok (counted_at whole (broken_format seed minis rows) a.0.1) (λ (broken : List Broken × List ℕ). ended (record { miniheaps = minis; rows = rows; contents = a.0.0; broken = broken.0 }) broken.1) p a.2 in
    contents_parts whole seed minis rows bytes p a.0 b.0 fits a.1 b.1 b.2

parts_parts : (version : Version) (whole : ℕ) (head : Head) (bytes : List ℕ) (p : Parts) (m : List ℕ × List ℕ) (r : List SlotRow × List ℕ) → IsBytes bytes
    → counted_at whole (class_format version) bytes ≡ Ok m → counted_at whole (row_format version m.0 head.clock) m.1 ≡ Ok r → contents_at whole head.seed m.0 r.0 r.1 ≡ Ok p
    → PartsTaken version head bytes p
parts_parts version whole head bytes p m r fits em er ep =
    let tm = counted_takes (class_format version) class_bytes (IsClass (greatest_class version)) (class_item version) whole bytes m fits em in
    let tr = counted_takes (row_format version m.0 head.clock) (row_bytes version) (IsRowIn version m.0 head.clock) (row_item version m.0 head.clock) whole m.1 r tm.takes.rest_fits er in
    let c = contents_takes whole head.seed m.0 r.0 r.1 p tr.takes.rest_fits ep in
    let e01 = Takes-then bytes (counted class_bytes m.0) m.1 (counted (row_bytes version) r.0) r.1 tm.takes tr.takes in
    let spelled : bytes ≡ counted class_bytes m.0 ++ counted (row_bytes version) r.0 ++ c.contents ++ counted broken_bytes c.broken =
    e01.parts ∙ ap (λ (u : List ℕ). counted class_bytes m.0 ++ counted (row_bytes version) r.0 ++ u) (c.takes.parts ∙ append-nil (c.contents ++ counted broken_bytes c.broken))
    ∙ sym (append_assoc (counted class_bytes m.0 ++ counted (row_bytes version) r.0) c.contents (counted broken_bytes c.broken)) in
    subst (λ (q : Parts). PartsTaken version head bytes q) c.parts_are
    (record { spelled = spelled; miniheaps = tm.keep; rows = tr.keep; contents = c.length_is; broken = c.keep; miniheap_count = tm.few; row_count = tr.few; broken_count = c.few })

pub parts_takes : (version : Version) (whole : ℕ) (head : Head) (bytes : List ℕ) (p : Parts) → IsBytes bytes → parts_at version whole head bytes ≡ Ok p → PartsTaken version head bytes p
unfolding parts_at
parts_takes version whole head bytes p fits e =
    let a = bind_ok (counted_at whole (class_format version) bytes) (λ (minis : List ℕ × List ℕ). counted_at whole (row_format version minis.0 head.clock) minis.1 >>= λ rows. contents_at whole head.seed minis.0 rows.0 rows.1) p e in
    let b = bind_ok (counted_at whole (row_format version a.0.0 head.clock) a.0.1) (λ (rows : List SlotRow × List ℕ). contents_at whole head.seed a.0.0 rows.0 rows.1) p a.2 in
    parts_parts version whole head bytes p a.0 b.0 fits a.1 b.1 b.2

three_parts : (a b c d : List ℕ) → ((a ++ b) ++ c) ++ d ≡ a ++ (b ++ (c ++ (d ++ [])))
three_parts a b c d = simp (append_assoc, append-nil)

pub parts_again : (version : Version) (whole : ℕ) (head : Head) (bytes : List ℕ) (p : Parts) → PartsTaken version head bytes p → parts_at version whole head bytes ≡ Ok p
unfolding parts_at contents_at
parts_again version whole head bytes p h =
    let breaks = counted broken_bytes p.broken ++ [] in
    let first = counted_again (class_format version) class_bytes (IsClass (greatest_class version)) (class_item version) whole p.miniheaps (counted (row_bytes version) p.rows ++ (p.contents ++ breaks)) h.miniheaps h.miniheap_count in
    let second = counted_again (row_format version p.miniheaps head.clock) (row_bytes version) (IsRowIn version p.miniheaps head.clock) (row_item version p.miniheaps head.clock) whole p.rows (p.contents ++ breaks) h.rows h.row_count in
    let third = part_again (contents_len p.miniheaps p.rows) p.contents breaks h.contents in
    let fourth = counted_again (broken_format head.seed p.miniheaps p.rows) broken_bytes (IsBroken head.seed p.miniheaps p.rows) (broken_item head.seed p.miniheaps p.rows) whole p.broken [] h.broken h.broken_count in
    rw (h.spelled, three_parts (counted class_bytes p.miniheaps) (counted (row_bytes version) p.rows) p.contents (counted broken_bytes p.broken), first, second, third, fourth) refl

-- ---- what is read is lawful

row_alone : (version : Version) (classes : List ℕ) (clock : ℕ) (earlier : List SlotRow) (r : SlotRow) → IsRowIn version classes clock earlier r → IsRow classes clock earlier r
row_alone version classes clock earlier r h = h.row

pub is_lawful : (version : Version) (head : Head) (table : Table) (bytes : List ℕ) (p : Parts) → HeadFits head → PartsTaken version head bytes p → IsLawful (image_of head table p)
is_lawful version head table bytes p fits h = record {
  tag = fits.tag;
  seed = fits.seed;
  place = fits.place;
  clock = fits.clock;
  miniheaps = each_map (IsClass (greatest_class version)) (IsClass 22) (class_of_version version) [] p.miniheaps h.miniheaps;
  rows = each_map (IsRowIn version p.miniheaps head.clock) (IsRow p.miniheaps head.clock) (row_alone version p.miniheaps head.clock) [] p.rows h.rows;
  contents = h.contents;
  broken = h.broken;
  miniheap_count = h.miniheap_count;
  row_count = h.row_count;
  broken_count = h.broken_count;
}
