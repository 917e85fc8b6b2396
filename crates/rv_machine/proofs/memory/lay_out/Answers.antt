use Rattle.std.proofs.Common.{◌≡◌, ℕ, ◌-◌, ◌++◌, true, List, replicate, sym, subst, ap, ◌∙◌}
use Rattle.std.proofs.lemmas.Result.{on_ok_weaker}
use Rattle.infinite_heap.specs.declared.program.Segment.{Segment}
use Rattle.infinite_heap.specs.Start.{stack_from, stack_with}
use Rattle.rv_memory.specs.Memory.{Memory, is_unmapped}
use Rattle.rv_memory.specs.Spaces.{memory_of}
use Rattle.rv_machine.specs.Core.{memory_in}
use Rattle.rv_machine.specs.Laid.{with_segment, with_stack}
use Rattle.rv_machine.proofs.Laid.{free, grown, below-stack}
use Rattle.rv_machine.proofs.memory.lay_out.Goals as goal

unmapped_there : (m : Memory) (from len : ℕ) (s : Segment) → from ≡ s.from → len ≡ s.len → is_unmapped m s.from s.len ≡ true → is_unmapped m from len ≡ true
unmapped_there m from len s e f k = subst (λ (x : ℕ). is_unmapped m x len ≡ true) (sym e) (subst (λ (x : ℕ). is_unmapped m s.from x ≡ true) (sym f) k)

stack_there : (m : Memory) (from len pointer : ℕ) (top : List ℕ) → from ≡ stack_from → len ≡ 0x800000 → with_stack m from len pointer top ≡ with_segment m (stack_with (replicate (pointer - stack_from) 0 ++ top))
stack_there m from len pointer top e f = ap (λ x. with_stack m x len pointer top) e ∙ ap (λ x. with_stack m stack_from x pointer top) f

pub map_stack-requires-clause-unmapped : goal.map_stack-requires-clause-unmapped
map_stack-requires-clause-unmapped c =
    let segments = c.args.program.now.segments in
    let stack : Segment = stack_with (replicate (c.args.pointer - stack_from) 0 ++ c.args.top.now) in
    let memory = c.in_ok-map_segments.ensures {u = tt} ∙ ap memory_in c.segments.ensures in
    unmapped_there (memory_of c.map_segments.new.space) _ _ stack c.stack_place-from.ensures.from c.stack_place-from.ensures.len
    (ap (λ m. is_unmapped m stack.from stack.len) memory ∙ free segments stack (below-stack segments stack.bytes c.rules.ensures.placed))

pub returns : goal.returns
returns c =
    let segments = c.args.program.now.segments in
    let stack : Segment = stack_with (replicate (c.args.pointer - stack_from) 0 ++ c.args.top.now) in
    let memory = c.in_ok-map_segments.ensures {u = tt} ∙ ap memory_in c.segments.ensures in
    on_ok_weaker c.map_stack.result (λ mapped.
    mapped ∙ stack_there (memory_of c.map_segments.new.space) _ _ c.args.pointer c.args.top.now c.stack_place-from.ensures.from c.stack_place-from.ensures.len ∙ ap (λ m. with_segment m stack) memory
    ∙ grown segments stack (below-stack segments stack.bytes c.rules.ensures.placed)) c.map_stack.ensures
