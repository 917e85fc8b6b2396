-- Before the first step memory holds bytes.
use Rattle.std.proofs.Common.{◌≡◌, ℕ, zero, suc, ◌+◌, ◌-◌, ◌<◌, ◌≤◌, sym, subst, cond, ◌⊎◌, inl, inr, arith, List, [], ◌∷◌, ◌++◌, length, get_or, replicate, None, Some, w32}
use Rattle.std.specs.Prelude.{All}
use Rattle.std.specs.Int.{to_le_bytes}
use Rattle.std.proofs.lemmas.List.{get_or-replicate, length-replicate, get_or_past}
use Rattle.infinite_heap.specs.declared.program.Segment.{Segment}
use Rattle.infinite_heap.specs.Mapped.{holds, byte_at}
use Rattle.infinite_heap.specs.Start.{stack_from, stack_with, stack_of, stack_pointer, string_block, strings_at, addresses_from, gap}
use Rattle.rv_machine.specs.Laws.{AllBytes, BytesStart}
use Rattle.rv_machine.proofs.Spanned.{two_ways}

ahead : (x : ℕ) (xs : List ℕ) → x < 256 → AllBytes xs → AllBytes (x ∷ xs)
ahead x xs h k zero d hk = h
ahead x xs h k (suc j) d hk = k j d (omega arith)

none : AllBytes []
none k d hk = absurd (omega arith)

both : (xs ys : List ℕ) → AllBytes xs → AllBytes ys → AllBytes (xs ++ ys)
both [] ys h k = k
both (x ∷ xs) ys h k = ahead x (xs ++ ys) (h 0 x (omega arith)) (both xs ys (λ i e hi. h (suc i) e (omega arith)) k)

zeros : (n : ℕ) → AllBytes (replicate n 0)
zeros n k d hk =
    let h : k < n = omega (arith, hk, length-replicate {A = ℕ} n 0) in
    subst (λ (x : ℕ). x < 256) (sym (get_or-replicate n k 0 d h)) (omega arith)

one : (b : ℕ) → b < 256 → AllBytes (b ∷ [])
one b h zero d hk = h
one b h (suc k) d hk = absurd (omega arith)

le_bytes : (n : ℕ) → AllBytes (to_le_bytes w32 n)
le_bytes n zero d hk = omega arith
le_bytes n (suc zero) d hk = omega arith
le_bytes n (suc (suc zero)) d hk = omega arith
le_bytes n (suc (suc (suc zero))) d hk = omega arith
le_bytes n (suc (suc (suc (suc k)))) d hk = absurd (omega arith)

strings : (args : List (List ℕ)) → All AllBytes args → AllBytes (string_block args)
strings [] h = none
strings (arg ∷ args) h = both (arg ++ 0 ∷ []) (string_block args) (both arg (0 ∷ []) (h 0 arg (omega arith)) (one 0 (omega arith))) (strings args (λ k d hk. h (suc k) d (omega arith)))

addresses : (at : ℕ) (args : List (List ℕ)) → AllBytes (addresses_from at args)
addresses at [] = none
addresses at (arg ∷ args) = both (to_le_bytes w32 at) (addresses_from (at + length arg + 1) args) (le_bytes at) (addresses (at + length arg + 1) args)

stack : (args : List (List ℕ)) → All AllBytes args → AllBytes (stack_of args)
unfolding stack_of
stack args h =
    both _ _ (both _ _ (both _ _ (both _ _ (zeros (stack_pointer args - stack_from)) (le_bytes (length args))) (addresses (strings_at args) args)) (zeros (gap args))) (strings args h)

at_any : (bytes : List ℕ) → AllBytes bytes → (k : ℕ) → get_or bytes k 0 < 256
at_any bytes h k = go (split k (length bytes))
  where
    split : (x y : ℕ) → (x < y) ⊎ (y ≤ x)
    split x y = grind arith

    go : (k < length bytes) ⊎ (length bytes ≤ k) → get_or bytes k 0 < 256
    go (inl low) = h k 0 low
    go (inr past) = subst (λ (x : ℕ). x < 256) (sym (get_or_past bytes k 0 past)) (omega arith)

small : (x b : ℕ) → x < 256 → Some x ≡ Some b → b < 256
small x b h e = let same : x ≡ b = cc in subst (λ (n : ℕ). n < 256) same h

mapped : (ss : List Segment) (bytes : List ℕ) → All (λ segment. AllBytes segment.bytes) ss → AllBytes bytes → (x b : ℕ) → byte_at (ss ++ stack_with bytes ∷ []) x ≡ Some b → b < 256
mapped [] bytes h k x b = two_ways (holds (stack_with bytes) x) (λ t. cond t (Some (get_or bytes (x - 0xBF800000) 0)) None ≡ Some b → b < 256) (λ e q. small (get_or bytes (x - 0xBF800000) 0) b (at_any bytes k (x - 0xBF800000)) q) (λ e q. absurd (cc))
mapped (s ∷ ss) bytes h k x b = two_ways (holds s x) (λ t. cond t (Some (get_or s.bytes (x - s.from) 0)) (byte_at (ss ++ stack_with bytes ∷ []) x) ≡ Some b → b < 256)
    (λ e q. small (get_or s.bytes (x - s.from) 0) b (at_any s.bytes (h 0 s (omega arith)) (x - s.from)) q)
    (λ e q. mapped ss bytes (λ i d hi. h (suc i) d (omega arith)) k x b q)

pub bytes_start : BytesStart
bytes_start program h args k x b e = mapped program.segments (stack_of args) h (stack args k) x b e
