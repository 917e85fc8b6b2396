-- The lines of a segment, one after the other.
use Rattle.std.proofs.Common.{◌≡◌, ◌<◌, ◌≤◌, ℕ, suc, ◌+◌, ◌-◌, ◌*◌, List, [], ◌++◌, append_assoc, refl, sym, ◌∙◌, ap, arith}
use Rattle.std.proofs.lemmas.List.{append-nil}
use Rattle.infinite_heap.specs.declared.program.Segment.{Segment}
use Rattle.exterm_cli.specs.Listing.{lines_from, word_in, word_line}

first-line : (s : Segment) (at count : ℕ) → lines_from s at (suc count) ≡ word_line at (word_in s at) ++ lines_from s (at + 4) count
unfolding lines_from
first-line s at count = refl

no-line : (s : Segment) (at : ℕ) → lines_from s at 0 ≡ []
unfolding lines_from
no-line s at = refl

module _ (s : Segment) (from count i : ℕ) (text all : List ℕ) where
  -- one line more
  pub line-added : (next : List ℕ) → i < count → next ≡ text ++ word_line (from + 4 * i) (word_in s (from + 4 * i)) → text ++ lines_from s (from + 4 * i) (count - i) ≡ all → next ++ lines_from s (from + 4 * (i + 1)) (count - (i + 1)) ≡ all
  line-added next less is so =
      let left : count - i ≡ suc (count - (i + 1)) = omega (arith, less) in
      let place : from + 4 * i + 4 ≡ from + 4 * (i + 1) = omega arith in
      let line = word_line (from + 4 * i) (word_in s (from + 4 * i)) in
      ap (λ n. n ++ lines_from s (from + 4 * (i + 1)) (count - (i + 1))) is
      ∙ append_assoc text line (lines_from s (from + 4 * (i + 1)) (count - (i + 1)))
      ∙ ap (λ at. text ++ (line ++ lines_from s at (count - (i + 1)))) (sym place)
      ∙ ap (λ l. text ++ l) (sym (first-line s (from + 4 * i) (count - (i + 1))))
      ∙ ap (λ n. text ++ lines_from s (from + 4 * i) n) (sym left)
      ∙ so

  pub lines-end : count ≤ i → text ++ lines_from s (from + 4 * i) (count - i) ≡ all → text ≡ all
  lines-end over so =
      let none : count - i ≡ 0 = omega (arith, over) in
      sym (append-nil text) ∙ ap (λ l. text ++ l) (sym (no-line s (from + 4 * i))) ∙ ap (λ n. text ++ lines_from s (from + 4 * i) n) (sym none) ∙ so
