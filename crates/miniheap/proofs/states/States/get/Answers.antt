use Rattle.std.proofs.Common.{◌≡◌, ◌/◌, ◌%◌, List, length, get_or, rules, arith, ap, sym, ◌∙◌, vec_len}
use Rattle.std.proofs.lemmas.List.{get_or_read}
use Rattle.miniheap.specs.declared.place.SlotState.{SlotState}
use Rattle.miniheap.specs.declared.place.SlotState.TheVariants.{Free}
use Rattle.miniheap.specs.declared.states.Marks.{Marks}
use Rattle.miniheap.specs.Marks.{state_of_bit}
use Rattle.miniheap.proofs.MarksLemmas.{states_length, state_at}
use Rattle.miniheap.proofs.states.States.get.Goals as goal

pub index-marks-requires : goal.index-marks-requires
index-marks-requires c =
    let l : length c.args.self.now ≡ c.self.inside.slots = ap length (sym c.self.view_is) ∙ states_length c.self.inside.words.items c.self.inside.slots in
    let v : vec_len c.self.inside.words ≡ length c.self.inside.words.items = search rules in omega (arith, l, v, c.requires, c.self.invariant)

pub returns : goal.returns
returns c =
    let l : length c.args.self.now ≡ c.self.inside.slots = ap length (sym c.self.view_is) ∙ states_length c.self.inside.words.items c.self.inside.slots in
    c.state.ensures
    ∙ ap (λ (m : Marks). state_of_bit m (c.args.nth % 64)) (get_or_read c.self.inside.words.items (c.args.nth / 64) c.index-marks.result.now (omega (arith, l, c.requires, c.self.invariant)) c.index-marks.ensures (record { held = 0; bad = 0 }))
    ∙ sym (state_at c.self.inside.words.items c.self.inside.slots c.args.nth (omega (arith, l, c.requires)))
    ∙ ap (λ (ts : List SlotState). get_or ts c.args.nth Free) c.self.view_is
