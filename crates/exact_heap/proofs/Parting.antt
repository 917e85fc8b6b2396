-- A call that places an object, by what is done in it.
use Rattle.std.proofs.Common.{◌≡◌, ℕ, ◌+◌, refl, sym, subst, arith, Result, Ok}
use Rattle.rv_memory.specs.declared.space.Space.{Space}
use Rattle.rv_memory.specs.Spaces.{memory_of}
use Rattle.exact_heap.specs.declared.parts.Parts.{Parts}
use Rattle.exact_heap.specs.declared.signal.HeapRefusal.{HeapRefusal}
use Rattle.exact_heap.specs.Placing.{HeapState, Outcome}
use Rattle.exact_heap.specs.Calls.{called, answers}
use Rattle.exact_heap.specs.Stands.{IsSound, AtHome, Gives, Places, state_at}
use Rattle.exact_heap.proofs.Sound.{call_sound}
use Rattle.exact_heap.proofs.Standing.{called_stands}

-- one heap call more is counted before the rest is done
pub one_call : (inner outer : HeapState → Outcome) (p q : Parts) (before after : Space) (r : Result ℕ HeapRefusal) → ((s : HeapState) → outer s ≡ inner (called s)) → Places inner 0 (record p { counts = record p.counts { calls = p.counts.calls + 1 } }) before r q after → Places outer 1 p before r q after
one_call inner outer p q before after r same x = record {
  gives = λ h st. subst (λ (o : Outcome). Gives o.state o.answer r q (memory_of after)) (sym (same (state_at h before))) (x.gives (record h { calls = h.calls + 1 }) (called_stands p h st));
  sound = x.sound;
  home = x.home;
  taken = x.taken;
  rules = x.rules;
  counted = x.counted;
  numbered = omega (arith, x.numbered);
}

-- nothing is done but that
pub refused : (outer : HeapState → Outcome) (p : Parts) (space : Space) → IsSound p → AtHome p space → ((s : HeapState) → outer s ≡ answers 0 (called s)) → Places outer 1 p space (Ok 0) (record p { counts = record p.counts { calls = p.counts.calls + 1 } }) space
refused outer p space sound home same = record {
  gives = λ h st. subst (λ (o : Outcome). Gives o.state o.answer (Ok 0) (record p { counts = record p.counts { calls = p.counts.calls + 1 } }) (memory_of space)) (sym (same (state_at h space))) (refl, record { stands = called_stands p h st; bytes = refl });
  sound = call_sound p sound;
  home = home;
  taken = λ page t. t;
  rules = refl;
  counted = omega arith;
  numbered = refl;
}
