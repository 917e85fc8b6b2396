use Rattle.std.proofs.Common.{◌≡◌, ℕ, ◌+◌, ◌-◌, ◌++◌, ap, sym, ◌∙◌, arith, List, append-nil, Some, None}
use Rattle.rv_memory.specs.Memory.{first_broken}
use Rattle.rv_memory.specs.Spaces.{memory_of}
use Rattle.heap_image.specs.declared.image.Broken.{Broken}
use Rattle.heap_image.proofs.Taken.{mapped_part, break_found, break_pushed, none_broken}
use Rattle.heap_image.proofs.broken.put_breaks.Goals as goal

pub first_break_at-requires : goal.first_break_at-requires
first_break_at-requires c =
    mapped_part c.spans_are_their_bytes.ensures.at_each c.spans_are_their_bytes.ensures.from_each (memory_of c.args.space.now) c.args.addr c.args.len c.loop-found.at (c.args.addr + c.args.len - c.loop-found.at) c.requires.mapped c.loop-found.invariant.0
    (omega (arith, c.loop-found.invariant.1))

pub loop-found-preserved : goal.loop-found-preserved
loop-found-preserved c =
    let at : ℕ = c.loop-found.at in
    let found : ℕ = c.in-Some.found in
    let n : ℕ = c.args.addr + c.args.len - at in
    let first : first_broken (memory_of c.args.space.now) c.args.word at n ≡ Some found = sym c.first_break_at.ensures.first ∙ c.in-Some.is in
    let k = break_found (memory_of c.args.space.now) c.args.word at n found first in
    let low = c.loop-found.invariant.0 in
    let high = c.loop-found.invariant.1 in
    (omega (arith, low, k.low), omega (arith, high, k.high), break_pushed (memory_of c.args.space.now) c.args.word at n found (c.args.addr + c.args.len - (found + 1)) c.loop-found.out.items c.push.new.self.items c.broken_at.result first c.in_ok-push.ensures.items c.broken_at.ensures (omega (arith, high, k.high)) ∙ c.loop-found.invariant.2)

pub returns : goal.returns
returns c =
    let at : ℕ = c.loop-found.at in
    let none : first_broken (memory_of c.args.space.now) c.args.word at (c.args.addr + c.args.len - at) ≡ None = sym c.first_break_at.ensures.first ∙ c.in_default.is in
    sym (append-nil c.loop-found.out.items) ∙ ap (λ (xs : List Broken). c.loop-found.out.items ++ xs) (sym (none_broken (memory_of c.args.space.now) c.args.word at (c.args.addr + c.args.len - at) none)) ∙ c.loop-found.invariant.2
