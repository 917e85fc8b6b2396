use Rattle.std.proofs.Common.{◌≡◌, ◌-◌, true, false, subst, sym, ap, ◌∙◌, arith}
use Rattle.std.proofs.lemmas.Result.{on_ok_weaker}
use Rattle.rv_memory.specs.Access.{new_byte}
use Rattle.rv_memory.specs.Memory.{Memory, is_unmapped, with_range}
use Rattle.rv_memory.specs.Spaces.{memory_of}
use Rattle.rv_memory.specs.declared.access.Rest.TheVariants.{Zero}
use Rattle.rv_machine.proofs.Halves.{part_unmapped, rest_unmapped, halves}
use Rattle.rv_machine.proofs.memory.map_stack.Goals as goal

pub map-requires-clause-unmapped : goal.map-requires-clause-unmapped
map-requires-clause-unmapped c = part_unmapped (memory_of c.args.space.now) c.args.from c.args.len c.args.pointer c.requires.low (omega (arith, c.requires.high)) c.requires.unmapped

pub map-requires-2-clause-unmapped : goal.map-requires-2-clause-unmapped
map-requires-2-clause-unmapped c =
    subst (λ (m : Memory). is_unmapped m c.args.pointer (c.args.len - (c.args.pointer - c.args.from)) ≡ true) (sym c.in_ok-map.ensures.mapped)
    (rest_unmapped (memory_of c.args.space.now) c.args.from c.args.len c.args.pointer c.requires.low (omega (arith, c.requires.high)) c.requires.unmapped)

pub returns : goal.returns
returns c =
    on_ok_weaker c.map-2.result (λ mapped.
    mapped ∙ ap (λ (m : Memory). with_range m c.args.pointer (c.args.len - (c.args.pointer - c.args.from)) (new_byte c.args.top.now Zero c.args.pointer) true false) c.in_ok-map.ensures.mapped
    ∙ halves (memory_of c.args.space.now) c.args.from c.args.len c.args.pointer c.args.top.now c.requires.low (omega (arith, c.requires.high))) c.map-2.ensures.mapped
