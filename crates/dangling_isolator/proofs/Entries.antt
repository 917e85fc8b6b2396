-- Marks put into a map by object.
use Rattle.std.proofs.Common.{inl, inr, ◌≡◌, ◌⊎◌, ℕ, ◌+◌, ◌<◌, length, get_or, take, List, [], ◌∷◌, ◌++◌, refl, sym, ap, subst, ◌∙◌, arith}
use Rattle.std.specs.Ordering.{nat_cmp, match_ordering}
use Rattle.std.specs.declared.cmp.Ordering.{Ordering}
use Rattle.std.specs.declared.cmp.Ordering.TheVariants.{Less, Equal, Greater}
use Rattle.std.specs.BTreeMap.{insert_entry}
use Rattle.std.proofs.lemmas.List.{take_more}
use Rattle.std.proofs.lemmas.Bool.Decides.{nat_tests}
use Rattle.dangling_isolator.specs.declared.mark.Mark.{Mark}
use Rattle.culprits.specs.declared.found.Dangling.{Dangling}
use Rattle.heap_image.specs.Items.{Has, in_front, behind, in_either, of_all, all_of}
use Rattle.dangling_isolator.specs.Danglings.{dangling_of}
use Rattle.dangling_isolator.specs.Marks.{ByObject}

same_key : (k l : ℕ) → nat_cmp k l ≡ Equal → l ≡ k
same_key k l e = grind (arith, nat_tests)

one_on : (p a : ℕ × Dangling) (es : List (ℕ × Dangling)) (e : ℕ × Dangling) → (p ≡ e) ⊎ Has es e → (p ≡ e) ⊎ Has (a ∷ es) e
one_on p a es e (inl y) = inl y
one_on p a es e (inr y) = inr (inr y)

-- a new entry is the one that was put, or an old one
put_told : (k : ℕ) (v : Dangling) (es : List (ℕ × Dangling)) (e : ℕ × Dangling) → Has (insert_entry nat_cmp es k v) e → ((k, v) ≡ e) ⊎ Has es e
put_told k v [] e h = h
put_told k v (a ∷ es) e h = split (put_told k v es e) (nat_cmp k a.0) refl h
  where
    split : (Has (insert_entry nat_cmp es k v) e → ((k, v) ≡ e) ⊎ Has es e) → (o : Ordering) → nat_cmp k a.0 ≡ o → Has (match_ordering o ((k, v) ∷ a ∷ es) ((a.0, v) ∷ es) (a ∷ insert_entry nat_cmp es k v)) e → ((k, v) ≡ e) ⊎ Has (a ∷ es) e
    split more Less q h = h
    split more Equal q (inl x) = inl (ap (λ l. (l, v)) (sym (same_key k a.0 q)) ∙ x)
    split more Equal q (inr x) = inr (inr x)
    split more Greater q (inl x) = inr (inl x)
    split more Greater q (inr x) = one_on (k, v) a es e (more x)

put_has : (k : ℕ) (v : Dangling) (es : List (ℕ × Dangling)) → Has (insert_entry nat_cmp es k v) (k, v)
put_has k v [] = inl refl
put_has k v (a ∷ es) = split (put_has k v es) (nat_cmp k a.0) refl
  where
    split : Has (insert_entry nat_cmp es k v) (k, v) → (o : Ordering) → nat_cmp k a.0 ≡ o → Has (match_ordering o ((k, v) ∷ a ∷ es) ((a.0, v) ∷ es) (a ∷ insert_entry nat_cmp es k v)) (k, v)
    split more Less q = inl refl
    split more Equal q = inl (ap (λ l. (l, v)) (same_key k a.0 q))
    split more Greater q = inr more

-- a key that was there stays
put_keeps : (k : ℕ) (v : Dangling) (es : List (ℕ × Dangling)) (q : ℕ) (d : Dangling) → Has es (q, d) → (c : Dangling) × Has (insert_entry nat_cmp es k v) (q, c)
put_keeps k v [] q d h = absurd h
put_keeps k v (a ∷ es) q d h = split (put_keeps k v es q d) (nat_cmp k a.0) h
  where
    split : (Has es (q, d) → (c : Dangling) × Has (insert_entry nat_cmp es k v) (q, c)) → (o : Ordering) → Has (a ∷ es) (q, d) → (c : Dangling) × Has (match_ordering o ((k, v) ∷ a ∷ es) ((a.0, v) ∷ es) (a ∷ insert_entry nat_cmp es k v)) (q, c)
    split more Less h = (d, inr h)
    split more Equal (inl e) = (v, inl (ap (λ (x : ℕ × Dangling). (x.0, v)) e))
    split more Equal (inr h) = (d, inr h)
    split more Greater (inl e) = (d, inl e)
    split more Greater (inr h) = let r = more h in (r.0, inr r.1)

pub none_by_object : (seen : ℕ) → ByObject seen [] []
none_by_object seen = record { each_is = tt; all = λ m h. absurd h }

pub put_by_object : (seen : ℕ) (marks : List Mark) (es : List (ℕ × Dangling)) (m : Mark) → ByObject seen marks es → ByObject seen (marks ++ m ∷ []) (insert_entry nat_cmp es m.object (dangling_of seen m))
put_by_object seen marks es m b = record {
  each_is = all_of _ _ (λ e h. is (put_told m.object (dangling_of seen m) es e h));
  all = λ n h. found n (in_either marks (m ∷ []) n h);
}
  where
    is : {e : ℕ × Dangling} → ((m.object, dangling_of seen m) ≡ e) ⊎ Has es e → (n : Mark) × Has (marks ++ m ∷ []) n × (e ≡ (n.object, dangling_of seen n))
    is (inl q) = (m, behind marks (m ∷ []) m (inl refl), sym q)
    is {e} (inr h) = let o = of_all _ es e b.each_is h in (o.0, in_front marks (m ∷ []) o.0 o.1, o.2)

    found : (n : Mark) → Has marks n ⊎ Has (m ∷ []) n → (d : Dangling) × Has (insert_entry nat_cmp es m.object (dangling_of seen m)) (n.object, d)
    found n (inl h) = let o = b.all n h in put_keeps m.object (dangling_of seen m) es n.object o.0 o.1
    found n (inr (inl q)) = (dangling_of seen m, subst (λ (x : Mark). Has (insert_entry nat_cmp es m.object (dangling_of seen m)) (x.object, dangling_of seen m)) q (put_has m.object (dangling_of seen m) es))
    found n (inr (inr x)) = absurd x

-- a turn of a loop over marks
pub put_next : (seen : ℕ) (marks : List Mark) (es ns : List (ℕ × Dangling)) (i : ℕ) (d : Mark) → i < length marks → ByObject seen (take i marks) es → ns ≡ insert_entry nat_cmp es (get_or marks i d).object (dangling_of seen (get_or marks i d)) → ByObject seen (take (i + 1) marks) ns
put_next seen marks es ns i d lt by e = rw (take_more marks i d lt, e) (put_by_object seen (take i marks) es (get_or marks i d) by)
