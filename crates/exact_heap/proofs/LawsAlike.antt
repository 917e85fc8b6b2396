-- Where free slots are whole, placement comes to the same for every seed.
use Rattle.std.proofs.Common.{◌≡◌, ℕ, zero, suc, ◌+◌, ◌*◌, ◌<◌, ◌≤◌, ap, sym, ◌∙◌, subst, Bool, true, false, arith, nat_lt, List, [], ◌∷◌, ◌++◌, Some, None, Result, Ok, Err}
use Rattle.std.proofs.lemmas.Bool.{true≢false}
use Rattle.miniheap.specs.Layout.{heap_limit, minis, bytes_of}
use Rattle.miniheap.specs.Slots.{must_grow, used_of, wanted_of, slot_count, taken_count}
use Rattle.miniheap.specs.Slots as slots
use Rattle.exact_heap.specs.declared.parts.Request.{Request}
use Rattle.exact_heap.specs.declared.signal.HeapRefusal.{HeapRefusal}
use Rattle.exact_heap.specs.declared.signal.HeapRefusal.TheVariants.{Room}
use Rattle.exact_heap.specs.History.{slots_of}
use Rattle.exact_heap.specs.Placing.{HeapState, Outcome, Turn, grown, break_in, with_draws, no_room, search, search_from, room_left, enough, release_due, settled, place}
use Rattle.exact_heap.specs.Lawful.{IsLawful}
use Rattle.exact_heap.specs.Laws.{IsClass, FreeSlotsAreWhole, IsAlike, AnswerAlike, EndAlike, PlacesAlike}
use Rattle.miniheap.specs.Laws.{SlotLaws}
use Rattle.exact_heap.proofs.States.{search_goes_on, search_finds, search_fails, room_grown, room_below}
use Rattle.exact_heap.proofs.LawsTurns.{TurnEnds, Grows, Lacks, Draws, turn_ends}
use Rattle.exact_heap.proofs.LawsKept.{lawful_grown}
use Rattle.exact_heap.proofs.LawsQuiet.{some_not_none, free_slot_of_class, whole_grown}

-- what a turn comes to where free slots are whole
data QuietTurn (class : ℕ) (s : HeapState) : Type 0 where
  GrowsOn : must_grow (slots_of s.history) class ≡ true → used_of (slots_of s.history) + wanted_of (slots_of s.history) class ≤ heap_limit
      → ((n : ℕ) → search_from (suc n) class s ≡ search_from n class (grown class s)) → QuietTurn class s
  HasNoRoom : must_grow (slots_of s.history) class ≡ true → heap_limit < used_of (slots_of s.history) + wanted_of (slots_of s.history) class
      → ((n : ℕ) → search_from (suc n) class s ≡ record { state = s; answer = Err (no_room class s) }) → QuietTurn class s
  FindsOne : must_grow (slots_of s.history) class ≡ false → (slot words : ℕ) → ((n : ℕ) → search_from (suc n) class s ≡ record { state = with_draws words s; answer = Ok slot }) → QuietTurn class s

quiet_turn : SlotLaws → (class : ℕ) (s : HeapState) → FreeSlotsAreWhole s → QuietTurn class s
quiet_turn laws class s w = at (turn_ends laws class s)
  where
    at : TurnEnds class s → QuietTurn class s
    at (Grows g room e) = GrowsOn g room (λ n. search_goes_on n class s (ap (λ (t : Turn). t.answer) e) ∙ ap (λ (t : Turn). search_from n class t.state) e)
    at (Lacks g room e) =
        HasNoRoom g room (λ n. search_fails n class s (no_room class s) (ap (λ (t : Turn). t.answer) e) ∙ ap (λ (t : Turn). record { state = t.state; answer = Err (no_room class s) }) e)
    at (Draws g slot words free None b e) = FindsOne g slot words (λ n. search_finds n class s slot (ap (λ (t : Turn). t.answer) e) ∙ ap (λ (t : Turn). record { state = t.state; answer = Ok slot }) e)
    at (Draws g slot words free (Some broken) b e) = absurd (some_not_none (break_in s slot class) broken b (free_slot_of_class laws s class slot w free))

-- ---- the same miniheaps and as many taken slots decide it

must_alike : (class : ℕ) (s t : HeapState) → IsAlike class s t → must_grow (slots_of s.history) class ≡ must_grow (slots_of t.history) class
must_alike class s t k =
    ap (λ (cs : List ℕ). nat_lt (slots.slot_count (record { classes = cs; held = (slots_of s.history).held; bad = s.history.bad }) class) ((taken_count (slots_of s.history) class + 1) * 2)) k.classes
    ∙ ap (λ (n : ℕ). nat_lt (slot_count (slots_of t.history) class) ((n + 1) * 2)) k.taken

used_alike : (class : ℕ) (s t : HeapState) → IsAlike class s t → used_of (slots_of s.history) ≡ used_of (slots_of t.history)
used_alike class s t k = ap (λ (cs : List ℕ). bytes_of (minis cs)) k.classes

wanted_alike : (class : ℕ) (s t : HeapState) → IsAlike class s t → wanted_of (slots_of s.history) class ≡ wanted_of (slots_of t.history) class
wanted_alike class s t k = ap (λ (cs : List ℕ). wanted_of (record { classes = cs; held = (slots_of s.history).held; bad = s.history.bad }) class) k.classes

grown_alike : SlotLaws → (class : ℕ) (s t : HeapState) → IsLawful s.history → IsLawful t.history → IsAlike class s t → IsAlike class (grown class s) (grown class t)
grown_alike laws class s t l m k = record {
  classes = ap (λ (cs : List ℕ). cs ++ class ∷ []) k.classes;
  taken = (laws.growing (slots_of s.history) class l.in_order).taken class ∙ k.taken ∙ sym ((laws.growing (slots_of t.history) class m.in_order).taken class);
}

end_alike : (class : ℕ) (a b : Outcome) (x y : Outcome) → x ≡ a → y ≡ b → EndAlike a b → EndAlike x y
end_alike class a b x y e f k = subst (λ (z : Outcome). EndAlike z y) (sym e) (subst (EndAlike a) (sym f) k)

search_alike : SlotLaws → (n class : ℕ) (s t : HeapState) → IsLawful s.history → IsLawful t.history → IsClass class → FreeSlotsAreWhole s → FreeSlotsAreWhole t → IsAlike class s t
    → room_left class (slots_of s.history) < n → EndAlike (search_from n class s) (search_from n class t)
search_alike laws zero class s t l m c w v k few = absurd (omega arith)
search_alike laws (suc n) class s t l m c w v k few = at (quiet_turn laws class s w) (quiet_turn laws class t v) (search_alike laws n class)
  where
    must : must_grow (slots_of s.history) class ≡ must_grow (slots_of t.history) class
    must = must_alike class s t k

    used : used_of (slots_of s.history) ≡ used_of (slots_of t.history)
    used = used_alike class s t k

    wanted : wanted_of (slots_of s.history) class ≡ wanted_of (slots_of t.history) class
    wanted = wanted_alike class s t k

    at : QuietTurn class s → QuietTurn class t
        → ((x y : HeapState) → IsLawful x.history → IsLawful y.history → IsClass class → FreeSlotsAreWhole x → FreeSlotsAreWhole y → IsAlike class x y → room_left class (slots_of x.history) < n → EndAlike (search_from n class x) (search_from n class y))
        → EndAlike (search_from (suc n) class s) (search_from (suc n) class t)
    at (GrowsOn g r e) (GrowsOn h q f) again =
        end_alike class _ _ _ _ (e n) (f n) (again (grown class s) (grown class t) (lawful_grown laws class s l c.0 c.1 r) (lawful_grown laws class t m c.0 c.1 q) c (whole_grown laws class s w) (whole_grown laws class t v)
        (grown_alike laws class s t l m k) (omega (arith, few, room_grown laws (slots_of s.history) class l.in_order c.0 r)))
    at (GrowsOn g r e) (HasNoRoom h q f) again = absurd (omega (arith, used, wanted, r, q))
    at (GrowsOn g r e) (FindsOne h slot words f) again = absurd (true≢false (sym g ∙ must ∙ h))
    at (HasNoRoom g r e) (GrowsOn h q f) again = absurd (omega (arith, used, wanted, r, q))
    at (HasNoRoom g r e) (HasNoRoom h q f) again =
        end_alike class _ _ _ _ (e n) (f n) (record { answers = ap (λ (x : ℕ). Room x (wanted_of (slots_of s.history) class)) used ∙ ap (λ (x : ℕ). Room (used_of (slots_of t.history)) x) wanted; classes = k.classes })
    at (HasNoRoom g r e) (FindsOne h slot words f) again = absurd (true≢false (sym g ∙ must ∙ h))
    at (FindsOne g slot words e) (GrowsOn h q f) again = absurd (true≢false (sym h ∙ sym must ∙ g))
    at (FindsOne g slot words e) (HasNoRoom h q f) again = absurd (true≢false (sym h ∙ sym must ∙ g))
    at (FindsOne g slot words e) (FindsOne h other more f) again = end_alike class _ _ _ _ (e n) (f n) (record { answers = tt; classes = k.classes })

-- ---- placement

settled_alike : (r : Request) (zeroed : Bool) (s t : HeapState) (a b : Result ℕ HeapRefusal) → AnswerAlike a b → s.history.classes ≡ t.history.classes → EndAlike (settled r zeroed s a) (settled r zeroed t b)
unfolding release_due
settled_alike r zeroed s t (Ok slot) (Ok other) k e = record { answers = tt; classes = e }
settled_alike r zeroed s t (Ok slot) (Err refusal) k e = absurd k
settled_alike r zeroed s t (Err refusal) (Ok slot) k e = absurd k
settled_alike r zeroed s t (Err refusal) (Err other) k e = record { answers = k; classes = e }

pub places_alike : SlotLaws → PlacesAlike
unfolding place
places_alike laws s t r zeroed l m c w v k =
    let e = search_alike laws enough r.class s t l m c w v k (room_below laws (slots_of s.history) r.class l.in_order) in
    settled_alike r zeroed (search r.class s).state (search r.class t).state (search r.class s).answer (search r.class t).answer e.answers e.classes
