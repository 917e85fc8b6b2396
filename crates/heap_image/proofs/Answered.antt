-- What is read is an image of its bytes, an image's bytes are read as it, and no bytes have two answers.
use Rattle.std.proofs.Common.{◌≡◌, ◌⊎◌, ℕ, List, [], ◌++◌, length, Option, Some, None, Result, Ok, Err, refl, sym, ap, subst, ◌∙◌, inl, inr}
use Rattle.std.specs.Prelude.{IfOk}
use Rattle.patch_table.specs.Table.{Table}
use Rattle.exact_heap.specs.declared.row.SlotRow.{SlotRow}
use Rattle.heap_image.specs.declared.refusal.ImageRefusal.{ImageRefusal}
use Rattle.heap_image.specs.declared.refusal.ImageRefusal.TheVariants as why
use Rattle.heap_image.specs.declared.version.Version.{Version}
use Rattle.heap_image.specs.declared.version.Version.TheVariants.{One, Two}
use Rattle.heap_image.specs.Fields.{Word, number_bytes}
use Rattle.heap_image.specs.Versions.{mark_of, IsTextOf, text_of, greatest_class}
use Rattle.heap_image.specs.Lawful.{Each, IsClass, IsRow, IsLawful}
use Rattle.heap_image.specs.Snapshot.{Snapshot}
use Rattle.heap_image.specs.Spelling.{head_of, head_bytes, tail_bytes, spelling}
use Rattle.heap_image.specs.Grammar.{HasVersion, IsImage, IsRead}
use Rattle.heap_image.specs.Steps.{◌>>=◌}
use Rattle.heap_image.specs.Reading.{Front, Parts, front_at, parts_at, image_of, image_at, IsAnswer, AnswersFrom, IsAnswered, Answers}
use Rattle.heap_image.proofs.Numbers.{IsBytes, bind_ok, ok_is}
use Rattle.heap_image.proofs.RowItems.{IsRowIn, each_map, small_classes, classes_of_one, no_fronts, rows_of_one}
use Rattle.heap_image.proofs.Wholes.{HeadFits, FrontTaken, front_takes, front_again, PartsTaken, parts_takes, parts_again, is_lawful}

-- ---- what is read

has_version : (f : Front) (table : Table) (bytes : List ℕ) (p : Parts) (version : Version) → PartsTaken version f.head bytes p → HasVersion version (image_of f.head table p)
has_version f table bytes p One h = (small_classes [] p.miniheaps h.miniheaps, no_fronts p.miniheaps f.head.clock [] p.rows h.rows)
has_version f table bytes p Two h = tt

is_image : (bytes : List ℕ) (f : Front) (table : Table) (p : Parts) → FrontTaken bytes f → PartsTaken f.version f.head f.rest p → IsTextOf f.version f.text table → IsImage f.version bytes (image_of f.head table p)
is_image bytes f table p front parts is = record {
  lawful = is_lawful f.version f.head table f.rest p front.head_fits parts;
  has_version = has_version f table f.rest p f.version parts;
  text = f.text;
  text_fits = front.text_fits;
  is_text = is;
  spelled = front.takes.parts ∙ ap (λ (u : List ℕ). mark_of f.version ++ head_bytes f.head ++ number_bytes Word (length f.text) ++ f.text ++ u) parts.spelled;
}

told_of : (bytes : List ℕ) (s : Snapshot) (f : Front) → IsBytes bytes → front_at bytes ≡ Ok f → (table : Option Table) → IsAnswer f.version f.text table → Ok s ≡ image_at (length bytes) f table → IsRead bytes s
told_of bytes s f fits front None is e = absurd cc
told_of bytes s f fits front (Some table) is e =
    let a = bind_ok (parts_at f.version (length bytes) f.head f.rest) (λ (parts : Parts). Ok (image_of f.head table parts)) s (sym e) in
    let t = front_takes bytes f fits front in
    let p = parts_takes f.version (length bytes) f.head f.rest a.0 t.takes.rest_fits a.1 in
    subst (λ (r : Snapshot). IsRead bytes r) (ok_is (image_of f.head table a.0) s a.2) (f.version, is_image bytes f table a.0 t p is)

told_from : (bytes : List ℕ) (s : Snapshot) (r : Result Front ImageRefusal) → IsBytes bytes → front_at bytes ≡ r → AnswersFrom (length bytes) r (Ok s) → IsRead bytes s
told_from bytes s (Err e) fits front h = absurd cc
told_from bytes s (Ok f) fits front h = told_of bytes s f fits front h.0 h.1 h.2

pub is_read : (bytes : List ℕ) (result : Result Snapshot ImageRefusal) → IsBytes bytes → Answers bytes result → IfOk result (IsRead bytes)
is_read bytes (Ok s) fits h = told_from bytes s (front_at bytes) fits refl h
is_read bytes (Err e) fits h = tt

-- ---- what is spelled

abbrev parts_of : Snapshot → Parts
parts_of s = record { miniheaps = s.miniheaps; rows = s.rows; contents = s.contents; broken = s.broken }

spelled_classes : (version : Version) (s : Snapshot) → IsLawful s → HasVersion version s → Each (IsClass (greatest_class version)) [] s.miniheaps
spelled_classes One s h v = classes_of_one [] s.miniheaps h.miniheaps v.0
spelled_classes Two s h v = h.miniheaps

any_front : (classes : List ℕ) (clock : ℕ) (earlier : List SlotRow) (r : SlotRow) → IsRow classes clock earlier r → IsRowIn Two classes clock earlier r
any_front classes clock earlier r h = record { row = h; front_in = tt }

spelled_rows : (version : Version) (s : Snapshot) → IsLawful s → HasVersion version s → Each (IsRowIn version s.miniheaps s.clock) [] s.rows
spelled_rows One s h v = rows_of_one s.miniheaps s.clock [] s.rows h.rows v.1
spelled_rows Two s h v = each_map (IsRow s.miniheaps s.clock) (IsRowIn Two s.miniheaps s.clock) (any_front s.miniheaps s.clock) [] s.rows h.rows

spelled_parts : (version : Version) (s : Snapshot) → IsLawful s → HasVersion version s → PartsTaken version (head_of s) (tail_bytes version s) (parts_of s)
spelled_parts version s h v = record {
  spelled = refl;
  miniheaps = spelled_classes version s h v;
  rows = spelled_rows version s h v;
  contents = h.contents;
  broken = h.broken;
  miniheap_count = h.miniheap_count;
  row_count = h.row_count;
  broken_count = h.broken_count;
}

abbrev front_of : Version → (text : List ℕ) → Snapshot → Front
front_of version text s = record { version = version; head = head_of s; begins = text ++ tail_bytes version s; text = text; rest = tail_bytes version s }

spelled_front : (version : Version) (bytes : List ℕ) (s : Snapshot) (h : IsImage version bytes s) → front_at bytes ≡ Ok (front_of version h.text s)
spelled_front version bytes s h =
    let fits : HeadFits (head_of s) = record { tag = h.lawful.tag; seed = h.lawful.seed; place = h.lawful.place; clock = h.lawful.clock } in
    ap front_at h.spelled ∙ front_again version (head_of s) h.text (tail_bytes version s) fits h.text_fits

-- a patch text has one table
abbrev pub OneTable : Type 0
OneTable = (version : Version) (text : List ℕ) (a b : Table) → IsTextOf version text a → IsTextOf version text b → a ≡ b

accepted : (version : Version) (bytes : List ℕ) (s : Snapshot) (h : IsImage version bytes s) (result : Result Snapshot ImageRefusal) → OneTable → (table : Option Table) → IsAnswer version h.text table → result ≡ image_at (length bytes) (front_of version h.text s) table → result ≡ Ok s
accepted version bytes s h result one None none e = absurd (none s.patches h.is_text)
accepted version bytes s h result one (Some table) is e =
    let parts = parts_again version (length bytes) (head_of s) (tail_bytes version s) (parts_of s) (spelled_parts version s h.lawful h.has_version) in
    let same : table ≡ s.patches = one version h.text table s.patches is h.is_text in
    e ∙ ap (λ (r : Result Parts ImageRefusal). r >>= λ parts. Ok (image_of (head_of s) table parts)) parts ∙ ap (λ (t : Table). Ok (image_of (head_of s) t (parts_of s))) same

accepts_answered : (version : Version) (bytes : List ℕ) (s : Snapshot) (result : Result Snapshot ImageRefusal) → OneTable → IsImage version bytes s → IsAnswered bytes result → result ≡ Ok s
accepts_answered version bytes s result one h a =
    let front = spelled_front version bytes s h in
    let given : AnswersFrom (length bytes) (Ok (front_of version h.text s)) result = subst (λ (r : Result Front ImageRefusal). AnswersFrom (length bytes) r result) front a in
    accepted version bytes s h result one given.0 given.1 given.2

pub accepts : (version : Version) (bytes : List ℕ) (s : Snapshot) (result : Result Snapshot ImageRefusal) → OneTable → IsImage version bytes s → Answers bytes result → (result ≡ Ok s) ⊎ (result ≡ Err why.Memory)
accepts version bytes s (Ok t) one h a = inl (accepts_answered version bytes s (Ok t) one h a)
accepts version bytes s (Err why.Head) one h a = inl (accepts_answered version bytes s (Err why.Head) one h a)
accepts version bytes s (Err why.Short) one h a = inl (accepts_answered version bytes s (Err why.Short) one h a)
accepts version bytes s (Err (why.Bad at)) one h a = inl (accepts_answered version bytes s (Err (why.Bad at)) one h a)
accepts version bytes s (Err why.Tail) one h a = inl (accepts_answered version bytes s (Err why.Tail) one h a)
accepts version bytes s (Err why.Memory) one h a = inr refl

-- ---- one answer

same_of : (version : Version) (whole : ℕ) (f : Front) (a b : Result Snapshot ImageRefusal) → OneTable → (t u : Option Table) → IsAnswer f.version f.text t → IsAnswer f.version f.text u → a ≡ image_at whole f t → b ≡ image_at whole f u → a ≡ b
same_of version whole f a b one None None p q d e = d ∙ sym e
same_of version whole f a b one None (Some u) p q d e = absurd (p u q)
same_of version whole f a b one (Some t) None p q d e = absurd (q t p)
same_of version whole f a b one (Some t) (Some u) p q d e = d ∙ ap (λ (v : Table). image_at whole f (Some v)) (one f.version f.text t u p q) ∙ sym e

same_from : (whole : ℕ) (r : Result Front ImageRefusal) (a b : Result Snapshot ImageRefusal) → OneTable → AnswersFrom whole r a → AnswersFrom whole r b → a ≡ b
same_from whole (Err e) a b one p q = p ∙ sym q
same_from whole (Ok f) a b one p q = same_of f.version whole f a b one p.0 q.0 p.1 q.1 p.2 q.2

-- an answer other than want of memory
pub sure : (bytes : List ℕ) (a : Result Snapshot ImageRefusal) → Answers bytes a → (a ≡ Err why.Memory) ⊎ IsAnswered bytes a
sure bytes (Ok s) h = inr h
sure bytes (Err why.Head) h = inr h
sure bytes (Err why.Short) h = inr h
sure bytes (Err (why.Bad at)) h = inr h
sure bytes (Err why.Tail) h = inr h
sure bytes (Err why.Memory) h = inl refl

pub one_answer_each : (bytes : List ℕ) (a b : Result Snapshot ImageRefusal) → OneTable → Answers bytes a → Answers bytes b → (a ≡ Err why.Memory) ⊎ ((b ≡ Err why.Memory) ⊎ (a ≡ b))
one_answer_each bytes a b one p q =
    elim (sure bytes a p) [
      | inl e ↦ inl e
      | inr x ↦ elim (sure bytes b q) [
        | inl e ↦ inr (inl e)
        | inr y ↦ inr (inr (same_from (length bytes) (front_at bytes) a b one x y))
      ]
    ]

-- ---- one spelling

-- a patch text is its table's spelling
abbrev pub AreSpelled : Type 0
AreSpelled = (version : Version) (text : List ℕ) (table : Table) → IsTextOf version text table → text ≡ text_of version table

pub one_bytes : (version : Version) (bytes others : List ℕ) (s : Snapshot) → AreSpelled → IsImage version bytes s → IsImage version others s → bytes ≡ others
one_bytes version bytes others s spelled a b =
    let same : a.text ≡ b.text = spelled version a.text s.patches a.is_text ∙ sym (spelled version b.text s.patches b.is_text) in
    a.spelled ∙ ap (λ (t : List ℕ). spelling version t s) same ∙ sym b.spelled

abbrev version_in : Version → Result Front ImageRefusal → Version
version_in other (Ok f) = f.version
version_in other (Err e) = other

pub one_version : (version other : Version) (bytes : List ℕ) (s t : Snapshot) → IsImage version bytes s → IsImage other bytes t → version ≡ other
one_version version other bytes s t a b = ap (version_in version) (sym (spelled_front version bytes s a) ∙ spelled_front other bytes t b)

-- the answer that an image's bytes have
answer_is : (version : Version) (bytes : List ℕ) (s : Snapshot) → IsImage version bytes s → IsAnswered bytes (Ok s)
answer_is version bytes s h =
    let parts = parts_again version (length bytes) (head_of s) (tail_bytes version s) (parts_of s) (spelled_parts version s h.lawful h.has_version) in
    let made : Ok s ≡ image_at (length bytes) (front_of version h.text s) (Some s.patches) = sym (ap (λ (r : Result Parts ImageRefusal). r >>= λ parts. Ok (image_of (head_of s) s.patches parts)) parts) in
    subst (λ (r : Result Front ImageRefusal). AnswersFrom (length bytes) r (Ok s)) (sym (spelled_front version bytes s h)) (Some s.patches, h.is_text, made)

pub one_image : (version other : Version) (bytes : List ℕ) (s t : Snapshot) → OneTable → IsImage version bytes s → IsImage other bytes t → s ≡ t
one_image version other bytes s t one a b = ok_is s t (same_from (length bytes) (front_at bytes) (Ok s) (Ok t) one (answer_is version bytes s a) (answer_is other bytes t b))
