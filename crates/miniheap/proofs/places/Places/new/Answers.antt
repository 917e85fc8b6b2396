use Rattle.std.proofs.Common.{◌≡◌, ◌≤◌, ℕ, List, [], get_or, replicate, sym, subst, refl, arith}
use Rattle.std.proofs.lemmas.List.{get_or-replicate}
use Rattle.size_class.specs.Laws.{first_bytes}
use Rattle.miniheap.specs.declared.places.Row.{Row}
use Rattle.miniheap.specs.Layout.{heap_from}
use Rattle.miniheap.specs.Rows.{IsTally, AreRows}
use Rattle.miniheap.proofs.places.Places.new.Goals as goal

abbrev zeros : List ℕ
zeros = replicate 23 0

tally_new : (c : ℕ) → c ≤ 22 → IsTally [] [] c 0 0 0
tally_new c h = record {
  members_are = refl;
  slots_are = refl;
  next_fits = omega (arith, first_bytes c h);
  last_is = λ p. absurd (omega arith);
}

tally_zeros : (c : ℕ) → c ≤ 22 → IsTally [] [] c (get_or zeros c 0) (get_or zeros c 0) (get_or zeros c 0)
tally_zeros c h =
    let z : get_or zeros c 0 ≡ 0 = get_or-replicate 23 c 0 0 (omega arith) in
    subst (λ (x : ℕ). IsTally [] [] c x x x) (sym z) (tally_new c h)

no_rows : AreRows [] [] heap_from zeros zeros zeros
no_rows = record {
  in_classes = λ k d h. absurd (omega arith);
  minis_are = refl;
  linked = λ i h. absurd (omega arith);
  end_is = refl;
  in_limit = omega arith;
  tallies = λ c lo hi. tally_zeros c hi;
}

pub invariant_of-result : goal.invariant_of-result
invariant_of-result c =
    subst (λ (cs : List ℕ). AreRows cs c.new-2.result.items heap_from zeros zeros zeros) (sym c.new.ensures.items)
    (subst (λ (rows : List Row). AreRows [] rows heap_from zeros zeros zeros) (sym c.new-2.ensures.items) no_rows)
