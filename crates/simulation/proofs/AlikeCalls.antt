-- Heap calls of two guests that stand for one state: the same objects, or want of room with the same two numbers.
use Rattle.std.proofs.Common.{◌≡◌, ℕ, ◌-◌, ◌%◌, ◌<◌, refl, ap, sym, ◌∙◌, subst, Bool, true, false, cond, arith, nat_eq, [], Option, None, Some, Result, Ok, Err}
use Rattle.std.specs.Prelude.{⊤}
use Rattle.infinite_heap.specs.declared.fault.FaultKind.TheVariants as fault
use Rattle.infinite_heap.specs.declared.fault.Why.TheVariants as why
use Rattle.infinite_heap.specs.declared.program.HeapCall.{HeapCall}
use Rattle.infinite_heap.specs.declared.program.HeapCall.TheVariants.{Malloc, Free, Calloc, Realloc, Memalign, AlignedAlloc, MallocR, FreeR, CallocR, ReallocR, MemalignR}
use Rattle.infinite_heap.specs.declared.value.Value.{Value}
use Rattle.infinite_heap.specs.declared.value.Value.TheVariants.{Num, Ptr, Mix, Low}
use Rattle.infinite_heap.specs.CallSite.{site_of}
use Rattle.infinite_heap.specs.InfiniteHeap.{inf_malloc, inf_calloc, inf_memalign, inf_free, inf_realloc_object, inf_realloc, inf_called, inf_call_from, inf_call}
use Rattle.infinite_heap.specs.InfiniteState as inf
use Rattle.infinite_heap.specs.InfiniteState.{InfState, InfStep, records_of}
use Rattle.infinite_heap.specs.Layout.{Layout, Stands, AllHarmless}
use Rattle.infinite_heap.specs.Mapped.{Mapping}
use Rattle.infinite_heap.specs.Objects.{Freed, object_at}
use Rattle.exact_heap.specs.declared.signal.HeapRefusal.{HeapRefusal}
use Rattle.exact_heap.specs.declared.signal.HeapRefusal.TheVariants.{Room, Memory as NoMemory}
use Rattle.exact_heap.specs.Calls.{malloc, memalign, calloc, free, realloc}
use Rattle.exact_heap.specs.Laws.{AreIsomorphic, AnswerSame, EndIsomorphic, number_at, MallocIsSame, MemalignIsSame, CallocIsSame, FreeIsSame, ReallocIsSame}
use Rattle.exact_heap.specs.Placing.{HeapState, Rules, Outcome}
use Rattle.rv_machine.specs.Core.{Faults, register}
use Rattle.rv_machine.specs.Guest.{Guest, heap_of}
use Rattle.rv_machine.specs.HeapCalls.{GuestNext, Carries, Returns, Lacks, answered, answers, called, call_from, heap_call}
use Rattle.rv_machine.specs.Objects.{layout_of}
use Rattle.rv_machine.specs.Stored.{IsClearStep}
use Rattle.simulation.specs.Agreement.{HeapsAreLaidOut}
use Rattle.simulation.proofs.Owned.{OwnerFacts}
use Rattle.simulation.proofs.AlikeObjects.{StandsBy, freed_number, realloc_frees, realloc_null}

-- what calls of two heaps stand on
pub record AlikeFacts : Type 0 where
  pub laid : HeapsAreLaidOut
  pub owners : OwnerFacts
  pub malloc : MallocIsSame
  pub memalign : MemalignIsSame
  pub calloc : CallocIsSame
  pub free : FreeIsSame
  pub realloc : ReallocIsSame

-- two guests stand for one state, have the same patches, and isomorphic heaps
pub record Abreast (p : Mapping) (s : InfState) (g h : Guest) : Type 0 where
  pub one : StandsBy p s g
  pub other : StandsBy p s h
  pub rules : g.rules ≡ h.rules
  pub heaps : AreIsomorphic (heap_of g) (heap_of h)

-- both calls return and leave isomorphic heaps, or both meet no room with the same two numbers, or neither is made
abbrev pub NextAlike : GuestNext → GuestNext → Type 0
NextAlike (Carries n) (Carries m) = ⊤
NextAlike (Returns to) (Returns to') = AreIsomorphic (heap_of to) (heap_of to')
NextAlike (Lacks used wanted to) (Lacks used' wanted' to') = (used' ≡ used) × (wanted' ≡ wanted)
NextAlike n m = ⊥

-- ---- answers

sites : (p : Mapping) (s : InfState) (g h : Guest) → Abreast p s g h → site_of g.core.calls ≡ site_of h.core.calls
sites p s g h w = ap site_of (sym w.one.state.calls ∙ w.other.state.calls)

answered_alike : (g h : Guest) (back back' : ℕ) (s t : HeapState) (a b : Result ℕ HeapRefusal) → AreIsomorphic s t → AnswerSame s t a b → NextAlike (answered g back s a) (answered h back' t b)
answered_alike g h back back' s t (Ok x) (Ok y) i e = i
answered_alike g h back back' s t (Ok x) (Err r) i e = absurd e
answered_alike g h back back' s t (Err r) (Ok y) i e = absurd e
answered_alike g h back back' s t (Err r) (Err q) i e = subst (λ (x : HeapRefusal). NextAlike (answered g back s (Err r)) (answered h back' t (Err x))) e (same r)
  where
    same : (r : HeapRefusal) → NextAlike (answered g back s (Err r)) (answered h back' t (Err r))
    same (Room used wanted) = (refl, refl)
    same NoMemory = (refl, refl)

answers_alike : (g h : Guest) (back back' : ℕ) (a b : Outcome) → EndIsomorphic a b → NextAlike (answers g back a) (answers h back' b)
answers_alike g h back back' a b e = answered_alike g h back back' a.state b.state a.answer b.answer e.states e.answers

-- ---- the calls

malloc_alike : AlikeFacts → (p : Mapping) (s : InfState) (g h : Guest) → Abreast p s g h → (zeroed : Bool) (back a b : ℕ) (v : Value) (x y : ℕ) → Stands (layout_of g.history) v x → Stands (layout_of h.history) v y → IsClearStep (inf_malloc s zeroed back v)
    → NextAlike (answers g a (malloc g.rules x (site_of g.core.calls) (heap_of g))) (answers h b (malloc h.rules y (site_of h.core.calls) (heap_of h)))
malloc_alike facts p s g h w zeroed back a b (Num n) x y hx hy c =
    let m : Outcome = malloc g.rules x (site_of g.core.calls) (heap_of g) in
    answers_alike g h a b m (malloc h.rules y (site_of h.core.calls) (heap_of h))
    (subst (λ (r : Rules). EndIsomorphic m (malloc r y (site_of h.core.calls) (heap_of h))) w.rules
    (subst (λ (k : ℕ). EndIsomorphic m (malloc g.rules k (site_of h.core.calls) (heap_of h))) (hx ∙ sym hy)
    (subst (λ (k : ℕ). EndIsomorphic m (malloc g.rules x k (heap_of h))) (sites p s g h w) (facts.malloc g.rules x (site_of g.core.calls) (heap_of g) (heap_of h) w.heaps))))
malloc_alike facts p s g h w zeroed back a b (Ptr o d) x y hx hy c = absurd c
malloc_alike facts p s g h w zeroed back a b (Mix q r t u) x y hx hy c = absurd c
malloc_alike facts p s g h w zeroed back a b (Low q) x y hx hy c = absurd c

-- both arguments of calloc are numbers, and both of memalign
are_counts : (s : InfState) (back : ℕ) (u v : Value) → IsClearStep (inf_calloc s back u v) → (m : ℕ) × (n : ℕ) × (u ≡ Num m) × (v ≡ Num n)
are_counts s back (Num m) (Num n) c = (m, n, refl, refl)
are_counts s back (Num m) (Ptr o d) c = absurd c
are_counts s back (Num m) (Mix q r t u) c = absurd c
are_counts s back (Num m) (Low q) c = absurd c
are_counts s back (Ptr o d) v c = absurd c
are_counts s back (Mix q r t u) v c = absurd c
are_counts s back (Low q) v c = absurd c

are_aligned : (s : InfState) (zeroed : Bool) (back : ℕ) (u v : Value) → IsClearStep (inf_memalign s zeroed back u v) → (m : ℕ) × (n : ℕ) × (u ≡ Num m) × (v ≡ Num n)
are_aligned s zeroed back (Num m) (Num n) c = (m, n, refl, refl)
are_aligned s zeroed back (Num m) (Ptr o d) c = absurd c
are_aligned s zeroed back (Num m) (Mix q r t u) c = absurd c
are_aligned s zeroed back (Num m) (Low q) c = absurd c
are_aligned s zeroed back (Ptr o d) v c = absurd c
are_aligned s zeroed back (Mix q r t u) v c = absurd c
are_aligned s zeroed back (Low q) v c = absurd c

-- words that stand for one number are one
one_word : (l k : Layout) (v : Value) (n x y : ℕ) → v ≡ Num n → Stands l v x → Stands k v y → x ≡ y
one_word l k v n x y e hx hy = subst (λ (u : Value). Stands l u x) e hx ∙ sym (subst (λ (u : Value). Stands k u y) e hy)

calloc_alike : AlikeFacts → (p : Mapping) (s : InfState) (g h : Guest) → Abreast p s g h → (back a b : ℕ) (u v : Value) (x y x' y' : ℕ) → Stands (layout_of g.history) u x → Stands (layout_of h.history) u x' → Stands (layout_of g.history) v y → Stands (layout_of h.history) v y'
    → IsClearStep (inf_calloc s back u v) → NextAlike (answers g a (calloc g.rules x y (site_of g.core.calls) (heap_of g))) (answers h b (calloc h.rules x' y' (site_of h.core.calls) (heap_of h)))
calloc_alike facts p s g h w back a b u v x y x' y' hx hx' hy hy' c =
    let k = are_counts s back u v c in
    let m : Outcome = calloc g.rules x y (site_of g.core.calls) (heap_of g) in
    answers_alike g h a b m (calloc h.rules x' y' (site_of h.core.calls) (heap_of h))
    (subst (λ (r : Rules). EndIsomorphic m (calloc r x' y' (site_of h.core.calls) (heap_of h))) w.rules
    (subst (λ (i : ℕ). EndIsomorphic m (calloc g.rules i y' (site_of h.core.calls) (heap_of h))) (one_word (layout_of g.history) (layout_of h.history) u k.0 x x' k.2 hx hx')
    (subst (λ (i : ℕ). EndIsomorphic m (calloc g.rules x i (site_of h.core.calls) (heap_of h))) (one_word (layout_of g.history) (layout_of h.history) v k.1 y y' k.3 hy hy')
    (subst (λ (i : ℕ). EndIsomorphic m (calloc g.rules x y i (heap_of h))) (sites p s g h w) (facts.calloc g.rules x y (site_of g.core.calls) (heap_of g) (heap_of h) w.heaps)))))

memalign_alike : AlikeFacts → (p : Mapping) (s : InfState) (g h : Guest) → Abreast p s g h → (zeroed : Bool) (back a b : ℕ) (u v : Value) (x y x' y' : ℕ) → Stands (layout_of g.history) u x → Stands (layout_of h.history) u x' → Stands (layout_of g.history) v y → Stands (layout_of h.history) v y'
    → IsClearStep (inf_memalign s zeroed back u v) → NextAlike (answers g a (memalign g.rules x y (site_of g.core.calls) (heap_of g))) (answers h b (memalign h.rules x' y' (site_of h.core.calls) (heap_of h)))
memalign_alike facts p s g h w zeroed back a b u v x y x' y' hx hx' hy hy' c =
    let k = are_aligned s zeroed back u v c in
    let m : Outcome = memalign g.rules x y (site_of g.core.calls) (heap_of g) in
    answers_alike g h a b m (memalign h.rules x' y' (site_of h.core.calls) (heap_of h))
    (subst (λ (r : Rules). EndIsomorphic m (memalign r x' y' (site_of h.core.calls) (heap_of h))) w.rules
    (subst (λ (i : ℕ). EndIsomorphic m (memalign g.rules i y' (site_of h.core.calls) (heap_of h))) (one_word (layout_of g.history) (layout_of h.history) u k.0 x x' k.2 hx hx')
    (subst (λ (i : ℕ). EndIsomorphic m (memalign g.rules x i (site_of h.core.calls) (heap_of h))) (one_word (layout_of g.history) (layout_of h.history) v k.1 y y' k.3 hy hy')
    (subst (λ (i : ℕ). EndIsomorphic m (memalign g.rules x y i (heap_of h))) (sites p s g h w) (facts.memalign g.rules x y (site_of g.core.calls) (heap_of g) (heap_of h) w.heaps)))))

-- the addresses are those of the same object, or of none
same_number : AlikeFacts → (p : Mapping) (s : InfState) (g h : Guest) → Abreast p s g h → (back : ℕ) (v : Value) (x y : ℕ) → Stands (layout_of g.history) v x → Stands (layout_of h.history) v y
    → IsClearStep (inf_free s back v) → AllHarmless (layout_of g.history) (records_of (inf_free s back v)) → AllHarmless (layout_of h.history) (records_of (inf_free s back v)) → number_at (heap_of g) x ≡ number_at (heap_of h) y
same_number facts p s g h w back v x y hx hy c u u' = freed_number facts.laid facts.owners p s g w.one back v x hx c u ∙ sym (freed_number facts.laid facts.owners p s h w.other back v y hy c u')

free_alike : AlikeFacts → (p : Mapping) (s : InfState) (g h : Guest) → Abreast p s g h → (back : ℕ) (v : Value) (x y : ℕ) → Stands (layout_of g.history) v x → Stands (layout_of h.history) v y
    → IsClearStep (inf_free s back v) → AllHarmless (layout_of g.history) (records_of (inf_free s back v)) → AllHarmless (layout_of h.history) (records_of (inf_free s back v))
    → AreIsomorphic (free g.rules x (site_of g.core.calls) (heap_of g)) (free h.rules y (site_of h.core.calls) (heap_of h))
free_alike facts p s g h w back v x y hx hy c u u' =
    let m : HeapState = free g.rules x (site_of g.core.calls) (heap_of g) in
    subst (λ (r : Rules). AreIsomorphic m (free r y (site_of h.core.calls) (heap_of h))) w.rules
    (subst (λ (k : ℕ). AreIsomorphic m (free g.rules y k (heap_of h))) (sites p s g h w)
    (facts.free g.rules x y (site_of g.core.calls) (heap_of g) (heap_of h) w.heaps (same_number facts p s g h w back v x y hx hy c u u')))

-- the size of a realloc is a number
malloc_size : (s : InfState) (zeroed : Bool) (back : ℕ) (v : Value) → IsClearStep (inf_malloc s zeroed back v) → (n : ℕ) × (v ≡ Num n)
malloc_size s zeroed back (Num n) c = (n, refl)
malloc_size s zeroed back (Ptr o d) c = absurd c
malloc_size s zeroed back (Mix q r t u) c = absurd c
malloc_size s zeroed back (Low q) c = absurd c

resize_size : (s : InfState) (zeroed : Bool) (back o : ℕ) (v : Value) (f : Option Freed) → IsClearStep (inf_realloc_object s zeroed back o v f) → (n : ℕ) × (v ≡ Num n)
resize_size s zeroed back o (Num n) f c = (n, refl)
resize_size s zeroed back o (Ptr i d) None c = absurd c
resize_size s zeroed back o (Mix q r t u) None c = absurd c
resize_size s zeroed back o (Low q) None c = absurd c
resize_size s zeroed back o v (Some freed) c = absurd c

realloc_size : (s : InfState) (zeroed : Bool) (back : ℕ) (v size : Value) → IsClearStep (inf_realloc s zeroed back v size) → (n : ℕ) × (size ≡ Num n)
realloc_size s zeroed back (Num n) size c = at (nat_eq n 0) c
  where
    at : (b : Bool) → IsClearStep (cond b (inf_malloc s zeroed back size) (inf.Blurs why.Realloc [])) → (n : ℕ) × (size ≡ Num n)
    at true t = malloc_size s zeroed back size t
    at false t = absurd t
realloc_size s zeroed back (Ptr o d) size c = at (nat_eq d 0) c
  where
    at : (b : Bool) → IsClearStep (cond b (inf_realloc_object s zeroed back o size (object_at s.objects o).freed) (inf.Blurs why.Realloc [])) → (n : ℕ) × (size ≡ Num n)
    at true t = resize_size s zeroed back o size (object_at s.objects o).freed t
    at false t = absurd t
realloc_size s zeroed back (Mix q r t u) size c = absurd c
realloc_size s zeroed back (Low q) size c = absurd c

realloc_alike : AlikeFacts → (p : Mapping) (s : InfState) (g h : Guest) → Abreast p s g h → (zeroed : Bool) (back a b : ℕ) (u v : Value) (x y x' y' : ℕ) → Stands (layout_of g.history) u x → Stands (layout_of h.history) u x' → Stands (layout_of g.history) v y → Stands (layout_of h.history) v y'
    → IsClearStep (inf_realloc s zeroed back u v) → NextAlike (answers g a (realloc g.rules x y (site_of g.core.calls) (heap_of g))) (answers h b (realloc h.rules x' y' (site_of h.core.calls) (heap_of h)))
realloc_alike facts p s g h w zeroed back a b u v x y x' y' hx hx' hy hy' c =
    let k = realloc_size s zeroed back u v c in
    let f = realloc_frees s zeroed back u v c in
    let number : number_at (heap_of g) x ≡ number_at (heap_of h) x' = same_number facts p s g h w back u x x' hx hx' f.0 (f.1 (layout_of g.history)) (f.1 (layout_of h.history)) in
    let null : nat_eq x 0 ≡ nat_eq x' 0 = realloc_null facts.laid p s g w.one zeroed back u v x hx c ∙ sym (realloc_null facts.laid p s h w.other zeroed back u v x' hx' c) in
    let m : Outcome = realloc g.rules x y (site_of g.core.calls) (heap_of g) in
    answers_alike g h a b m (realloc h.rules x' y' (site_of h.core.calls) (heap_of h))
    (subst (λ (r : Rules). EndIsomorphic m (realloc r x' y' (site_of h.core.calls) (heap_of h))) w.rules
    (subst (λ (i : ℕ). EndIsomorphic m (realloc g.rules x' i (site_of h.core.calls) (heap_of h))) (one_word (layout_of g.history) (layout_of h.history) v k.0 y y' k.1 hy hy')
    (subst (λ (i : ℕ). EndIsomorphic m (realloc g.rules x' y i (heap_of h))) (sites p s g h w) (facts.realloc g.rules x x' y (site_of g.core.calls) (heap_of g) (heap_of h) w.heaps number null))))

-- ---- the whole call

called_alike : AlikeFacts → (p : Mapping) (s : InfState) (g h : Guest) → Abreast p s g h → (zeroed : Bool) (back a b : ℕ) (function : HeapCall) → IsClearStep (inf_called s zeroed back function)
    → AllHarmless (layout_of g.history) (records_of (inf_called s zeroed back function)) → AllHarmless (layout_of h.history) (records_of (inf_called s zeroed back function)) → NextAlike (called g a function) (called h b function)
called_alike facts p s g h w zeroed back a b = by
  where
    l : Layout
    l = layout_of g.history

    k : Layout
    k = layout_of h.history

    at : (r : ℕ) → r < 32 → Stands l (s.regs r) (register g.core r)
    at r small = w.one.state.regs r small

    at' : (r : ℕ) → r < 32 → Stands k (s.regs r) (register h.core r)
    at' r small = w.other.state.regs r small

    by : (function : HeapCall) → IsClearStep (inf_called s zeroed back function) → AllHarmless l (records_of (inf_called s zeroed back function)) → AllHarmless k (records_of (inf_called s zeroed back function)) → NextAlike (called g a function) (called h b function)
    by Malloc c u u' = malloc_alike facts p s g h w zeroed back a b (s.regs 10) (register g.core 10) (register h.core 10) (at 10 (omega arith)) (at' 10 (omega arith)) c
    by MallocR c u u' = malloc_alike facts p s g h w zeroed back a b (s.regs 11) (register g.core 11) (register h.core 11) (at 11 (omega arith)) (at' 11 (omega arith)) c
    by Free c u u' = free_alike facts p s g h w back (s.regs 10) (register g.core 10) (register h.core 10) (at 10 (omega arith)) (at' 10 (omega arith)) c u u'
    by FreeR c u u' = free_alike facts p s g h w back (s.regs 11) (register g.core 11) (register h.core 11) (at 11 (omega arith)) (at' 11 (omega arith)) c u u'
    by Calloc c u u' = calloc_alike facts p s g h w back a b (s.regs 10) (s.regs 11) (register g.core 10) (register g.core 11) (register h.core 10) (register h.core 11) (at 10 (omega arith)) (at' 10 (omega arith)) (at 11 (omega arith)) (at' 11 (omega arith)) c
    by CallocR c u u' = calloc_alike facts p s g h w back a b (s.regs 11) (s.regs 12) (register g.core 11) (register g.core 12) (register h.core 11) (register h.core 12) (at 11 (omega arith)) (at' 11 (omega arith)) (at 12 (omega arith)) (at' 12 (omega arith)) c
    by Realloc c u u' = realloc_alike facts p s g h w zeroed back a b (s.regs 10) (s.regs 11) (register g.core 10) (register g.core 11) (register h.core 10) (register h.core 11) (at 10 (omega arith)) (at' 10 (omega arith)) (at 11 (omega arith)) (at' 11 (omega arith)) c
    by ReallocR c u u' = realloc_alike facts p s g h w zeroed back a b (s.regs 11) (s.regs 12) (register g.core 11) (register g.core 12) (register h.core 11) (register h.core 12) (at 11 (omega arith)) (at' 11 (omega arith)) (at 12 (omega arith)) (at' 12 (omega arith)) c
    by Memalign c u u' = memalign_alike facts p s g h w zeroed back a b (s.regs 10) (s.regs 11) (register g.core 10) (register g.core 11) (register h.core 10) (register h.core 11) (at 10 (omega arith)) (at' 10 (omega arith)) (at 11 (omega arith)) (at' 11 (omega arith)) c
    by AlignedAlloc c u u' = memalign_alike facts p s g h w zeroed back a b (s.regs 10) (s.regs 11) (register g.core 10) (register g.core 11) (register h.core 10) (register h.core 11) (at 10 (omega arith)) (at' 10 (omega arith)) (at 11 (omega arith)) (at' 11 (omega arith)) c
    by MemalignR c u u' = memalign_alike facts p s g h w zeroed back a b (s.regs 11) (s.regs 12) (register g.core 11) (register g.core 12) (register h.core 11) (register h.core 12) (at 11 (omega arith)) (at' 11 (omega arith)) (at 12 (omega arith)) (at' 12 (omega arith)) c

-- a call from a return address, which is a number
from_alike : AlikeFacts → (p : Mapping) (s : InfState) (g h : Guest) → Abreast p s g h → (zeroed : Bool) (function : HeapCall) (v : Value) (x y : ℕ) → Stands (layout_of g.history) v x → Stands (layout_of h.history) v y → IsClearStep (inf_call_from s zeroed function v)
    → AllHarmless (layout_of g.history) (records_of (inf_call_from s zeroed function v)) → AllHarmless (layout_of h.history) (records_of (inf_call_from s zeroed function v)) → NextAlike (call_from g (x - x % 2) function) (call_from h (y - y % 2) function)
from_alike facts p s g h w zeroed function (Num n) x y hx hy c u u' =
    subst (λ (k : ℕ). NextAlike (call_from g (k - k % 2) function) (call_from h (y - y % 2) function)) (sym hx)
    (subst (λ (k : ℕ). NextAlike (call_from g (n - n % 2) function) (call_from h (k - k % 2) function)) (sym hy) (at (nat_eq ((n - n % 2) % 4) 0) c u u'))
  where
    back : ℕ
    back = n - n % 2

    at : (b : Bool) → IsClearStep (cond b (inf_called s zeroed back function) (inf.Faults fault.Jump [])) → AllHarmless (layout_of g.history) (records_of (cond b (inf_called s zeroed back function) (inf.Faults fault.Jump [])))
        → AllHarmless (layout_of h.history) (records_of (cond b (inf_called s zeroed back function) (inf.Faults fault.Jump [])))
        → NextAlike (cond b (called g back function) (Carries (Faults fault.Jump back))) (cond b (called h back function) (Carries (Faults fault.Jump back)))
    at true c u u' = called_alike facts p s g h w zeroed back back back function c u u'
    at false c u u' = tt
from_alike facts p s g h w zeroed function (Ptr o d) x y hx hy c u u' = absurd c
from_alike facts p s g h w zeroed function (Mix q r t i) x y hx hy c u u' = absurd c
from_alike facts p s g h w zeroed function (Low q) x y hx hy c u u' = absurd c

pub call_alike : AlikeFacts → (p : Mapping) (s : InfState) (g h : Guest) → Abreast p s g h → (zeroed : Bool) (function : HeapCall) → IsClearStep (inf_call s zeroed function)
    → AllHarmless (layout_of g.history) (records_of (inf_call s zeroed function)) → AllHarmless (layout_of h.history) (records_of (inf_call s zeroed function)) → NextAlike (heap_call g function) (heap_call h function)
call_alike facts p s g h w zeroed function = from_alike facts p s g h w zeroed function (s.regs 1) (register g.core 1) (register h.core 1) (w.one.state.regs 1 (omega arith)) (w.other.state.regs 1 (omega arith))
