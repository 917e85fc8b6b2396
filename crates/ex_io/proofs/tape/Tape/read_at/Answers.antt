use Rattle.std.proofs.Common.{arith, ◌≡◌, true, false, length, Ok, IfSome, IfOk, OnOk, Some, refl, sym, ◌∙◌, ap, subst}
use Rattle.std.proofs.lemmas.Grind.{common_steps}
use Rattle.std.specs.Io.KnownBytes.{Consumes, prepend_known}
use Rattle.ex_io.specs.Tape.{Track, InputStays}
use Rattle.ex_io.proofs.Parts.{none-is-kept, stays-kept, stays-none}
use Rattle.ex_io.proofs.tape.Tape.read_at.Goals as goal
use Rattle.ex_io.proofs.tape.Tape.read_at.Goals.{then-self, else-self}

pub returns-in-Ok-clause-input : goal.returns-in-Ok-clause-input
returns-in-Ok-clause-input g c =
    let inside = c.self.inside in
    let now = c.if-self.self-inside in
    let left = g.S.Source.left c.args.source.now in
    let left' = g.S.Source.left c.if-self.source in
    let old : Track = record { kept = inside.bytes.items; high = inside.high; keep = inside.keep; refused = inside.refused } in
    let new : Track = record { kept = now.bytes.items; high = c.max-self-inside.result; keep = now.keep; refused = false } in
    subst (λ (t : Track). InputStays t new left left') c.self.view_is (elim c.if-self.branch as (λ _. InputStays old new left left') [
      | then-self w ↦ (
          let kept : w.kept_part-read.new.bytes.items ≡ now.bytes.items = subst (λ t. w.kept_part-read.new.bytes.items ≡ t.bytes.items) (sym w.self-inside-is) refl in
          let keep : now.keep ≡ true = subst (λ t. t.keep ≡ true) (sym w.self-inside-is) w.if-self.true in
          let ok : w.kept_part-read.result ≡ Ok c.in-Ok.part = sym w.read-is ∙ c.in-Ok.is in
          let source : g.S.Source.left w.kept_part-read.new.source ≡ left' = ap g.S.Source.left (sym w.source-is) in
          let stays = subst (λ r. OnOk r (IfSome (prepend_known inside.bytes.items left) (λ all. prepend_known w.kept_part-read.new.bytes.items (g.S.Source.left w.kept_part-read.new.source) ≡ Some all))) ok w.kept_part-read.ensures.stays in
          stays-kept old new left left' w.if-self.true keep
          (subst (λ bytes. IfSome (prepend_known inside.bytes.items left) (λ all. prepend_known bytes left' ≡ Some all)) kept
          (subst (λ rest. IfSome (prepend_known inside.bytes.items left) (λ all. prepend_known w.kept_part-read.new.bytes.items rest ≡ Some all)) source stays)))
      | else-self w ↦ (
          let ok : w.next_part-read.result ≡ Ok c.in-Ok.part = sym w.read-is ∙ c.in-Ok.is in
          let moved = subst (λ s. Consumes left (g.S.Source.left s) c.in-Ok.part.items) (sym w.source-is) (subst (λ r. IfOk r (λ part. Consumes left (g.S.Source.left w.next_part-read.new.source) part.items)) ok w.next_part-read.ensures.rest) in
          let none : length inside.bytes.items ≡ 0 = grind (arith, common_steps, none-is-kept _ _ _ _ w.if-self.false c.self.invariant) in
          let from : c.args.from ≡ inside.high = subst (λ (t : Track). t.keep ≡ false → c.args.from ≡ t.high) (sym c.self.view_is) c.requires.onward w.if-self.false in
          let high : now.high ≡ inside.high = subst (λ t. t.high ≡ inside.high) (sym w.self-inside-is) refl in
          let keep : now.keep ≡ false = subst (λ t. t.keep ≡ false) (sym w.self-inside-is) w.if-self.false in
          let empty : length now.bytes.items ≡ 0 = subst (λ t. length t.bytes.items ≡ 0) (sym w.self-inside-is) none in
          stays-none old new left left' c.in-Ok.part.items w.if-self.false keep none empty (grind (arith, common_steps, from, high)) moved)
    ])
