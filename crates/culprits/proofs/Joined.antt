-- What was found, joined with the old table.
use Rattle.std.proofs.Common.{◌≡◌, ℕ, ◌+◌, List, sym, ap, ◌∙◌}
use Rattle.std.specs.FinMap as fin
use Rattle.patch_table.specs.Table.{Table, join}
use Rattle.culprits.specs.declared.found.Dangling.{Dangling}
use Rattle.culprits.specs.declared.found.Overflow.{Overflow}
use Rattle.culprits.specs.declared.found.Underflow.{Underflow}
use Rattle.culprits.specs.declared.isolated.Isolated.{Isolated}
use Rattle.culprits.specs.Isolated.{IsJoined, found_table}
use Rattle.culprits.specs.Laws.{JoinsOne}

pub is_joined : (past : List Overflow) (before : List Underflow) (late : List Dangling) (old found copy new : Table) (counts : ℕ × ℕ × ℕ)
    → found ≡ found_table past before late → copy ≡ old → new ≡ join copy found → counts ≡ (fin.len found.pads, fin.len found.fronts, fin.len found.defers) → IsJoined past before late old (record { patches = new; pads = counts.0 + counts.1; defers = counts.2 })
is_joined past before late old found copy new counts f c n k = record {
  patches = n ∙ (λ i. join (c i) (f i));
  pads = ap (λ (r : ℕ × ℕ × ℕ). r.0 + r.1) k ∙ ap (λ (t : Table). fin.len t.pads + fin.len t.fronts) f;
  defers = ap (λ (r : ℕ × ℕ × ℕ). r.2) k ∙ ap (λ (t : Table). fin.len t.defers) f;
}

same_isolated : (a b : Isolated) → a.patches ≡ b.patches → a.pads ≡ b.pads → a.defers ≡ b.defers → a ≡ b
same_isolated a b p q r = λ i. record { patches = p i; pads = q i; defers = r i }

pub joins_one : JoinsOne
joins_one past before late old a b p q = same_isolated a b (p.patches ∙ sym q.patches) (p.pads ∙ sym q.pads) (p.defers ∙ sym q.defers)
