-- Each text is answered: it is read line by line, and each line is taken or is the first that breaks a rule.
use Rattle.std.proofs.Common.{◌≡◌, ◌≢◌, ◌⊎◌, inl, inr, ℕ, zero, suc, ◌+◌, ◌-◌, ◌^◌, ◌%◌, ◌≤◌, List, [], ◌∷◌, ◌++◌, length, refl, ap, arith, length-append}
use Rattle.std.specs.Ordering.{nat_cmp}
use Rattle.std.specs.declared.cmp.Ordering.{Ordering}
use Rattle.std.specs.declared.cmp.Ordering.TheVariants.{Less, Equal, Greater}
use Rattle.std.specs.FinMap.{entries}
use Rattle.patch_table.specs.Table.{Table, no_patches, pair_cmp}
use Rattle.patch_table.specs.Line.{InLimit, BeginsLine, line_of}
use Rattle.patch_table.specs.Grammar.{AllBelow, Rises, with_line, IsAnswered}
use Rattle.patch_table.specs.declared.line.Key.{Key}
use Rattle.patch_table.specs.declared.line.Key.TheVariants.{Pad, Front, Defer}
use Rattle.patch_table.specs.declared.line.Line.{Line}
use Rattle.patch_table.specs.declared.reading.PatchRefusal.TheVariants as why
use Rattle.patch_table.specs.Spelling.{head_of}
use Rattle.patch_table.specs.declared.line.Version.{Version}
use Rattle.patch_table.specs.declared.line.Version.TheVariants.{One, Two}
use Rattle.patch_table.proofs.Texts.{line_some}
use Rattle.patch_table.proofs.SoFar.{IsSoFar, at_start, at_end, no_line, goes_on, refused}
use Rattle.patch_table.proofs.Found.{same_or_not, within_or_not, begun_or_not, line_or_not}

-- ---- the rules of a line

limit_or_not : (key : Key) (n : ℕ) → InLimit key n ⊎ (InLimit key n → ⊥)
limit_or_not (Pad site) n = within_or_not 1 (2 ^ 20) n
limit_or_not (Front site) n =
    elim (within_or_not 16 (2 ^ 16) n) [
      | inl r ↦ elim (same_or_not (n % 16) 0) [ inl whole ↦ inl (r.0, r.1, whole) | inr never ↦ inr (λ h. never h.2) ]
      | inr never ↦ inr (λ h. never (h.0, h.1))
    ]
limit_or_not (Defer a b) n = elim (within_or_not 1 (2 ^ 32 - 1) n) [ inl r ↦ inl (r.0, omega (arith, r.1)) | inr never ↦ inr (λ h. never (h.0, omega (arith, h.1))) ]

less_or_not : (o : Ordering) → (o ≡ Less) ⊎ (o ≢ Less)
less_or_not Less = inl refl
less_or_not Equal = inr (λ e. absurd cc)
less_or_not Greater = inr (λ e. absurd cc)

below_all_or_not : {K X : Type 0} (R : K → K → Ordering) (es : List (K × X)) (k : K) → AllBelow R es k ⊎ (AllBelow R es k → ⊥)
below_all_or_not R [] k = inl tt
below_all_or_not R (e ∷ es) k =
    elim (less_or_not (R e.0 k)) [
      | inl less ↦ elim (below_all_or_not R es k) [ inl all ↦ inl (less, all) | inr never ↦ inr (λ h. never h.1) ]
      | inr never ↦ inr (λ h. never h.0)
    ]

none_or_some : {X : Type 0} (xs : List X) → (xs ≡ []) ⊎ (xs ≢ [])
none_or_some [] = inl refl
none_or_some (x ∷ xs) = inr (λ e. absurd (omega (arith, ap length e)))

rises_or_not : (table : Table) (key : Key) → Rises table key ⊎ (Rises table key → ⊥)
rises_or_not table (Pad site) =
    elim (none_or_some (entries table.fronts)) [
      | inl no_front ↦ elim (none_or_some (entries table.defers)) [
        | inl no_defer ↦ elim (below_all_or_not nat_cmp (entries table.pads) site) [ inl all ↦ inl (no_front, no_defer, all) | inr never ↦ inr (λ h. never h.2) ]
        | inr some ↦ inr (λ h. some h.1)
      ]
      | inr some ↦ inr (λ h. some h.0)
    ]
rises_or_not table (Front site) =
    elim (none_or_some (entries table.defers)) [
      | inl none ↦ elim (below_all_or_not nat_cmp (entries table.fronts) site) [ inl all ↦ inl (none, all) | inr never ↦ inr (λ h. never h.1) ]
      | inr some ↦ inr (λ h. some h.0)
    ]
rises_or_not table (Defer a b) = below_all_or_not pair_cmp (entries table.defers) (a, b)

-- ---- from a line on

shorter : (version : Version) (rest next : List ℕ) (line : Line) (fuel : ℕ) → BeginsLine version rest line next → length rest ≤ suc fuel → length next ≤ fuel
shorter version rest next line fuel b less = omega (arith, less, ap length b.is, length-append (line_of line.key b.digits) next, line_some line.key b.digits)

-- what is left from the n-th line on is read in at most as many steps as it has bytes
answered_from : (version : Version) (fuel : ℕ) (text rest : List ℕ) (table : Table) (n : ℕ) → length rest ≤ fuel → IsSoFar version text table n rest → IsAnswered text
answered_from version fuel text [] table n less f = IsAnswered.read table (version, at_end version text table n [] f refl)
answered_from version zero text (b ∷ rest) table n less f = absurd (omega (arith, less))
answered_from version (suc fuel) text (b ∷ rest) table n less f =
    elim (line_or_not version (b ∷ rest)) [
      | inl l ↦ elim (limit_or_not l.line.key l.line.number) [
        | inl limit ↦ elim (rises_or_not table l.line.key) [
          | inl rises ↦ answered_from version fuel text l.next (with_line table l.line.key l.line.number) (n + 1) (shorter version (b ∷ rest) l.next l.line fuel l.begins less) (goes_on version text (b ∷ rest) l.next table n l.line f l.begins limit rises)
          | inr falls ↦ IsAnswered.refused (why.Order n) (refused version (why.Order n) text (b ∷ rest) l.next table table l.line n f l.begins (refl, limit, falls))
        ]
        | inr beyond ↦ IsAnswered.refused (why.Limit n) (refused version (why.Limit n) text (b ∷ rest) l.next table table l.line n f l.begins (refl, beyond))
      ]
      | inr none ↦ IsAnswered.refused (why.Line n) (no_line version text table n (b ∷ rest) f (omega arith) none)
    ]

of_version : (version : Version) (text rest : List ℕ) → text ≡ head_of version ++ rest → IsAnswered text
of_version version text rest is = answered_from version (length rest) text rest no_patches 2 (omega arith) (at_start version text rest no_patches is refl)

pub every_text : (text : List ℕ) → IsAnswered text
every_text text =
    elim (begun_or_not (head_of One) text) [
      | inl f ↦ of_version One text f.rest f.is
      | inr not_one ↦ elim (begun_or_not (head_of Two) text) [ inl f ↦ of_version Two text f.rest f.is | inr not_two ↦ IsAnswered.refused why.Head (neither not_one not_two) ]
    ]
  where
    neither : ((rest : List ℕ) → text ≢ head_of One ++ rest) → ((rest : List ℕ) → text ≢ head_of Two ++ rest) → (version : Version) (rest : List ℕ) → text ≢ head_of version ++ rest
    neither one two One rest e = one rest e
    neither one two Two rest e = two rest e
