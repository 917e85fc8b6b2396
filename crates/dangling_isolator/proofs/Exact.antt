-- The entries by object are the dangling objects.
use Rattle.std.proofs.Common.{inl, inr, ◌≡◌, ℕ, ◌<◌, List, [], ◌∷◌, length, get_or, map, refl, sym, ap, subst, ◌∙◌, arith}
use Rattle.std.specs.List.{AllByRecursion}
use Rattle.std.specs.List.Sorted.{IsStrictlySortedBy}
use Rattle.std.specs.Ordering.{nat_cmp}
use Rattle.heap_image.specs.Items.{Has, of_all}
use Rattle.heap_image.specs.Lawful.{IsLawful}
use Rattle.heap_image.specs.Snapshot.{Snapshot}
use Rattle.dangling_isolator.specs.declared.mark.Mark.{Mark}
use Rattle.culprits.specs.declared.found.Dangling.{Dangling}
use Rattle.dangling_isolator.specs.Danglings.{IsMarked, IsDangling, AreDanglings, greatest_clock, dangling_of}
use Rattle.dangling_isolator.specs.Marks.{common_in, objects_of, AreByObject}
use Rattle.dangling_isolator.proofs.Rows.{one_row, released_has_object}
use Rattle.dangling_isolator.proofs.Marked.{common_told, common_has}

abbrev Made : ℕ → List Mark → ℕ × Dangling → Type 0
Made seen marks e = (m : Mark) × Has marks m × (e ≡ (m.object, dangling_of seen m))

keys_are : (seen : ℕ) (marks : List Mark) (es : List (ℕ × Dangling)) → AllByRecursion (Made seen marks) es → map (λ (d : Dangling). d.object) (map (λ e. e.1) es) ≡ objects_of es
keys_are seen marks [] all = refl
keys_are seen marks (e ∷ es) all =
    let here : e.1.object ≡ e.0 = ap (λ (x : ℕ × Dangling). x.1.object) all.0.2 ∙ sym (ap (λ (x : ℕ × Dangling). x.0) all.0.2) in
    subst (λ k. k ∷ map (λ (d : Dangling). d.object) (map (λ x. x.1) es) ≡ e.0 ∷ objects_of es) (sym here) (ap (λ ks. e.0 ∷ ks) (keys_are seen marks es all.1))

values_are : (P : Dangling → Type 0) (seen : ℕ) (marks : List Mark) (es : List (ℕ × Dangling)) → ((m : Mark) → Has marks m → P (dangling_of seen m)) → AllByRecursion (Made seen marks) es → AllByRecursion P (map (λ e. e.1) es)
values_are P seen marks [] f all = tt
values_are P seen marks (e ∷ es) f all = (subst P (sym (ap (λ (x : ℕ × Dangling). x.1) all.0.2)) (f all.0.0 all.0.1), values_are P seen marks es f all.1)

value_in : (es : List (ℕ × Dangling)) (e : ℕ × Dangling) → Has es e → Has (map (λ x. x.1) es) e.1
value_in [] e h = absurd h
value_in (a ∷ es) e (inl q) = inl (ap (λ (x : ℕ × Dangling). x.1) q)
value_in (a ∷ es) e (inr h) = inr (value_in es e h)

-- two marks of an image with one object say the same of it
one_object : (s : Snapshot) (m n : Mark) (seen : ℕ) → IsLawful s → IsMarked s m → IsMarked s n → m.object ≡ n.object → dangling_of seen m ≡ dangling_of seen n
one_object s m n seen law a b e =
    let rows : a.row ≡ b.row = one_row s.miniheaps s.clock [] s.rows a.row b.row law.rows a.has_row b.has_row (released_has_object a.row a.released) (released_has_object b.row b.released) (sym (ap (λ (x : Mark). x.object) a.is_row) ∙ e ∙ ap (λ (x : Mark). x.object) b.is_row) in
    ap (dangling_of seen) a.is_row ∙ ap (λ r. record { object = r.object; site = r.site; free_site = r.free_site; freed = r.freed; seen = seen }) rows ∙ sym (ap (dangling_of seen) b.is_row)

pub are_danglings : (images : List Snapshot) (d : Snapshot) (es : List (ℕ × Dangling)) → 0 < length images → IsLawful (get_or images 0 d) → AreByObject (greatest_clock images) (common_in images) es → AreDanglings images (map (λ e. e.1) es)
are_danglings [] d es some law by = absurd (omega arith)
are_danglings (s ∷ ss) d es some law by = record {
  rising = subst (IsStrictlySortedBy nat_cmp) (sym (keys_are seen marks es by.by_object.each_is)) by.rising;
  each_is = values_are (IsDangling (s ∷ ss)) seen marks es (λ m h. record { mark = m; in_each = common_told s ss m h; is = refl }) by.by_object.each_is;
  all = all;
}
  where
    seen : ℕ
    seen = greatest_clock (s ∷ ss)

    marks : List Mark
    marks = common_in (s ∷ ss)

    all : (x : Dangling) → IsDangling (s ∷ ss) x → Has (map (λ e. e.1) es) x
    all x h =
        let o = by.by_object.all h.mark (common_has s ss h.mark h.in_each) in
        let made : Made seen marks (h.mark.object, o.0) = of_all (Made seen marks) es (h.mark.object, o.0) by.by_object.each_is o.1 in
        let same : o.0 ≡ x = ap (λ (x : ℕ × Dangling). x.1) made.2 ∙ one_object s made.0 h.mark seen law (common_told s ss made.0 made.1).0 h.in_each.0 (sym (ap (λ (x : ℕ × Dangling). x.0) made.2)) ∙ sym h.is in
        subst (λ y. Has (map (λ e. e.1) es) y) same (value_in es (h.mark.object, o.0) o.1)
