use Rattle.std.proofs.Common.{◌≡◌, List, length, set, rules, arith, ap, sym, ◌∙◌, vec_len}
use Rattle.miniheap.specs.declared.place.SlotState.{SlotState}
use Rattle.miniheap.proofs.MarksLemmas.{states_length, one_marked}
use Rattle.miniheap.proofs.states.States.set.Goals as goal

pub index-marks-requires : goal.index-marks-requires
index-marks-requires c =
    let l : length c.args.self.now ≡ c.self.inside.slots = ap length (sym c.self.view_is) ∙ states_length c.self.inside.words.items c.self.inside.slots in
    let v : vec_len c.self.inside.words ≡ length c.self.inside.words.items = search rules in omega (arith, l, v, c.requires, c.self.invariant)

pub index_mut-requires : goal.index_mut-requires
index_mut-requires c =
    let l : length c.args.self.now ≡ c.self.inside.slots = ap length (sym c.self.view_is) ∙ states_length c.self.inside.words.items c.self.inside.slots in
    let v : vec_len c.self.inside.words ≡ length c.self.inside.words.items = search rules in omega (arith, l, v, c.requires, c.self.invariant)

pub returns : goal.returns
returns c =
    let l : length c.args.self.now ≡ c.self.inside.slots = ap length (sym c.self.view_is) ∙ states_length c.self.inside.words.items c.self.inside.slots in
    one_marked c.self.inside.words.items c.self.inside.slots c.args.nth c.args.state c.index-marks.result.now c.with.result c.index-marks.ensures (omega (arith, l, c.requires)) c.self.invariant c.with.ensures.own c.with.ensures.others
    ∙ ap (λ (ts : List SlotState). set ts c.args.nth c.args.state) c.self.view_is
