use Rattle.std.proofs.Common.{ℕ, sym, ap, subst, ◌∙◌}
use Rattle.miniheap.specs.Slots.{Slots, spoiled_at}
use Rattle.rv_memory.specs.Memory.{Memory}
use Rattle.rv_memory.specs.Spaces.{memory_of}
use Rattle.exact_heap.specs.declared.parts.Parts.{Parts}
use Rattle.exact_heap.specs.declared.signal.Place.TheVariants.{Call}
use Rattle.exact_heap.specs.Placing.{signalled}
use Rattle.exact_heap.specs.SeenSignals.{SeenSignals, with_signal}
use Rattle.exact_heap.specs.Stands.{PartsStandFor, state_at}
use Rattle.exact_heap.proofs.Sound.{sound_signals}
use Rattle.exact_heap.proofs.Standing.{spoiled_stands}
use Rattle.exact_heap.proofs.parts.Parts.spoil.Goals as goal

pub add-requires : goal.add-requires
add-requires c = sound_signals c.slot_laws.ensures c.args.self.now c.requires.sound

pub returns-clause-stands : goal.returns-clause-stands
returns-clause-stands c h st =
    let p : Parts = c.args.self.now in
    let m : Memory = memory_of c.args.space.now in
    subst (λ (q : Parts). PartsStandFor q (signalled c.args.slot c.args.broken (state_at h c.args.space.now)).history)
    (sym (ap (λ (g : Slots). record p { slots = record p.slots { grid = g }; signals = c.add.new.self }) c.spoil.ensures ∙ ap (λ (k : SeenSignals). record p { slots = record p.slots { grid = spoiled_at p.slots.grid c.args.slot }; signals = k }) c.add.ensures
    ∙ ap (λ (b : ℕ). record p { slots = record p.slots { grid = spoiled_at p.slots.grid c.args.slot }; signals = with_signal p.signals (record { place = Call p.counts.calls; addr = c.args.broken; byte = b }) }) c.byte_in-byte.ensures))
    (spoiled_stands p h m c.args.slot c.args.broken st c.requires.free)
