-- Words hold bytes, since they are UTF-8.
use Rattle.std.proofs.Common.{◌≡◌, ◌<◌, ◌≤◌, ◌⊎◌, inl, inr, ℕ, zero, suc, ◌+◌, ◌/◌, ◌%◌, Bool, true, false, cond, ltb, ◌&&◌, List, [], ◌∷◌, map, drop, length, string_bytes, String, Global, refl, sym, subst, arith}
use Rattle.std.specs.List.{All, AllByRecursion}
use lib.Utf8.{encode, encodes, scalar, scalars, scalar_cases}
use Rattle.std.proofs.lemmas.Bool.Decides.{nat_tests}
use Rattle.std.proofs.lemmas.List.Elements.{All-nil, All-cons, All-append, All-drop, All-from_recursion, All-get_or}
use Rattle.std.proofs.lemmas.Str.{IsUtf8-string_bytes}
use Rattle.rv_machine.specs.Laws.{AllBytes}
use Rattle.exterm_cli.specs.Counted.{args_of, word}
use Rattle.exterm_cli.specs.declared.words.GuestWords.{GuestWords}

module _ (c : ℕ) (is : scalar c ≡ true) where
  below : c < 1114112
  below = go (scalar_cases c is)
    where
      go : (c < 55296) ⊎ ((57344 ≤ c) × (c < 1114112)) → c < 1114112
      go (inl low) = omega (arith, low)
      go (inr high) = high.1

  next : (bits : ℕ) → 128 + bits % 64 < 256
  next bits = omega arith

  encoded : AllByRecursion (λ b. b < 256) (encode c)
  unfolding encode
  encoded = elim (ltb c 128) as (λ b. ltb c 128 ≡ b → AllByRecursion (λ b. b < 256) (cond b (c ∷ []) (cond (ltb c 2048) ((192 + c / 64) ∷ (128 + c % 64) ∷ []) (cond (ltb c 65536) ((224 + c / 4096) ∷ (128 + c / 64 % 64) ∷ (128 + c % 64) ∷ []) ((240 + c / 262144) ∷ (128 + c / 4096 % 64) ∷ (128 + c / 64 % 64) ∷ (128 + c % 64) ∷ []))))) [
    | true ↦ λ e. (grind (arith, nat_tests), tt)
    | false ↦ λ _. elim (ltb c 2048) as (λ b. ltb c 2048 ≡ b → AllByRecursion (λ b. b < 256) (cond b ((192 + c / 64) ∷ (128 + c % 64) ∷ []) (cond (ltb c 65536) ((224 + c / 4096) ∷ (128 + c / 64 % 64) ∷ (128 + c % 64) ∷ []) ((240 + c / 262144) ∷ (128 + c / 4096 % 64) ∷ (128 + c / 64 % 64) ∷ (128 + c % 64) ∷ [])))) [
      | true ↦ λ e. let less : c < 2048 = grind (arith, nat_tests) in (omega (arith, less), (next c, tt))
      | false ↦ λ _. elim (ltb c 65536) as (λ b. ltb c 65536 ≡ b → AllByRecursion (λ b. b < 256) (cond b ((224 + c / 4096) ∷ (128 + c / 64 % 64) ∷ (128 + c % 64) ∷ []) ((240 + c / 262144) ∷ (128 + c / 4096 % 64) ∷ (128 + c / 64 % 64) ∷ (128 + c % 64) ∷ []))) [
        | true ↦ λ e. let less : c < 65536 = grind (arith, nat_tests) in (omega (arith, less), (next (c / 64), (next c, tt)))
        | false ↦ λ _. (omega (arith, below), (next (c / 4096), (next (c / 64), (next c, tt))))
      ] refl
    ] refl
  ] refl

both : (x y : Bool) → (x && y) ≡ true → (x ≡ true) × (y ≡ true)
both true y e = (refl, e)
both false y e = absurd cc

all-encoded : (cs : List ℕ) → scalars cs ≡ true → AllBytes (encodes cs)
all-encoded [] are = All-nil (λ b. b < 256)
all-encoded (c ∷ cs) are =
    let each = both (scalar c) (scalars cs) are in
    All-append (λ b. b < 256) (encode c) (encodes cs) (All-from_recursion (λ b. b < 256) (encode c) (encoded c each.0)) (all-encoded cs each.1)

text-bytes : (s : String Global) → AllBytes (string_bytes s)
text-bytes s = let utf8 = IsUtf8-string_bytes s in subst AllBytes utf8.1.1 (all-encoded utf8.0 utf8.1.0)

pub words-bytes : (words : List (String Global)) → All AllBytes (map string_bytes words)
words-bytes [] = All-nil AllBytes
words-bytes (s ∷ words) = All-cons AllBytes (string_bytes s) (map string_bytes words) (text-bytes s) (words-bytes words)

-- ---- the arguments of a guest

word-bytes : (words : List (List ℕ)) (at : ℕ) → All AllBytes words → AllBytes (word words at)
word-bytes words at all = go (ltb at (length words)) refl
  where
    go : (b : Bool) → ltb at (length words) ≡ b → AllBytes (word words at)
    go true e = All-get_or AllBytes words at [] (grind (arith, nat_tests)) all
    go false e = subst AllBytes (sym (past words at (grind (arith, nat_tests)))) (All-nil (λ b. b < 256))
      where
        past : (words : List (List ℕ)) (at : ℕ) → length words ≤ at → word words at ≡ []
        past [] at over = refl
        past (w ∷ words) zero over = absurd (omega (arith, over))
        past (w ∷ words) (suc at) over = past words at (omega (arith, over))

pub args-bytes : (words : List (List ℕ)) (g : GuestWords) → All AllBytes words → All AllBytes (args_of words g)
args-bytes words g all = All-cons AllBytes (word words g.elf) (drop g.guest words) (word-bytes words g.elf all) (All-drop AllBytes g.guest words all)
