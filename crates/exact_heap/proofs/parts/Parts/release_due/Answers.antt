use Rattle.std.proofs.Common.{◌≡◌, sym, ap, subst, ◌∙◌, refl}
use Rattle.rv_memory.specs.Memory.{Memory}
use Rattle.rv_memory.specs.Spaces.{memory_of}
use Rattle.exact_heap.specs.declared.parts.Parts.{Parts}
use Rattle.exact_heap.specs.History.{History}
use Rattle.exact_heap.specs.Placing.{HeapState, release_due}
use Rattle.exact_heap.specs.Stands.{PartsStandFor, IsAt, Releases, state_at}
use Rattle.exact_heap.proofs.Searching.{state_is, state_of}
use Rattle.exact_heap.proofs.parts.Parts.release_due.Goals as goal

pub loop-init : goal.loop-init
loop-init c = record {
  releases = λ h st. record { next = state_at h c.args.space.now; is_at = record { stands = st; bytes = refl }; same = refl };
  sound = c.requires.sound;
  home = c.requires.home;
  taken = λ page e. e;
  rest = refl;
}

-- one release more
releases_on : (s : HeapState) (p q : Parts) (m n : Memory) → Releases s p m → ((h : History) → PartsStandFor p h → Releases (state_of h m) q n) → Releases s q n
releases_on s p q m n w one =
    let v : Releases (state_of w.next.history m) q n = one w.next.history w.is_at.stands in
    record { next = v.next; is_at = v.is_at; same = w.same ∙ ap release_due (sym (state_is w.next m w.is_at.bytes)) ∙ v.same }

pub loop-preserved : goal.loop-preserved
loop-preserved c = record {
  releases = λ h st. releases_on (state_at h c.args.space.now) c.loop.self c.release_next.new.self (memory_of c.loop.space) (memory_of c.release_next.new.space) (c.loop.invariant.releases h st) c.loop-test.ensures.one;
  sound = c.release_next.ensures.sound;
  home = c.release_next.ensures.home;
  taken = λ page e. c.release_next.ensures.taken page (c.loop.invariant.taken page e);
  rest = c.release_next.ensures.rest ∙ ap (λ (p : Parts). record p { slots = record p.slots { grid = c.release_next.new.self.slots.grid }; queue = c.release_next.new.self.queue }) c.loop.invariant.rest;
}

-- no release more
releases_end : (s : HeapState) (p q : Parts) (m n : Memory) → Releases s p m → ((h : History) → PartsStandFor p h → release_due (state_of h m) ≡ state_of h m) → q ≡ p → n ≡ m → IsAt (release_due s) q n
releases_end s p q m n w none kept same =
    let e : release_due s ≡ state_of w.next.history m = w.same ∙ ap release_due (sym (state_is w.next m w.is_at.bytes)) ∙ none w.next.history w.is_at.stands in
    subst (λ (x : HeapState). IsAt x q n) (sym e) (record { stands = subst (λ (x : Parts). PartsStandFor x w.next.history) (sym kept) w.is_at.stands; bytes = same })

pub returns-clause-released : goal.returns-clause-released
returns-clause-released c h st =
    releases_end (state_at h c.args.space.now) c.loop.self c.release_next.new.self (memory_of c.loop.space) (memory_of c.release_next.new.space) (c.loop.invariant.releases h st) c.loop-test.ensures.none c.loop-test.ensures.kept c.loop-test.ensures.untouched
