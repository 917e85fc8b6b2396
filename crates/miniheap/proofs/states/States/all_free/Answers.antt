use Rattle.std.proofs.Common.{◌≡◌, ◌≤◌, ◌*◌, replicate, rules, arith}
use Rattle.miniheap.specs.declared.states.Marks.{Marks}
use Rattle.miniheap.proofs.MarksLemmas.{none_marked}
use Rattle.miniheap.proofs.states.States.all_free.Goals as goal

pub returns : goal.returns
returns c =
    let none : Marks = record { held = 0; bad = 0 } in
    let e : c.resize.new.self.items ≡ replicate c.div_ceil-count.result none = search rules in
    let h : c.args.slots ≤ c.div_ceil-count.result * 64 = grind arith in
    none_marked c.resize.new.self.items c.div_ceil-count.result c.args.slots e h
