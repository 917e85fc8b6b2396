use Rattle.std.proofs.Common.{rules, ◌≡◌, Option, List, ℕ, None, Some, sym, ap, ◌∙◌, unwrap_or, []}
use Rattle.rv_memory.specs.Memory.{span, is_mapped, is_taken, with_bytes}
use Rattle.rv_memory.specs.Spaces.{memory_of, taken_of}
use Rattle.rv_memory.proofs.Copies.{span-there, span-each}
use Rattle.rv_memory.proofs.space.Space.copy_piece.Goals as goal

none-there : (memory : Option (List ℕ)) (list : List ℕ) → memory ≡ Some list → memory ≡ None → ⊥
none-there memory list there none = cc

pub unreachable-requires : goal.unreachable-requires
unreachable-requires c =
    let there = span-there (memory_of c.args.self.now) c.args.from c.args.len c.requires.source in
    let missed : span (memory_of c.args.self.now).bytes c.args.from c.args.len ≡ None = search rules in
    none-there _ _ there missed

pub put-requires : goal.put-requires
put-requires c =
    let read : span (memory_of c.args.self.now).bytes c.args.from c.args.len ≡ Some c.span_read.new.buf = search rules in
    let each = span-each (memory_of c.args.self.now).bytes c.args.from c.args.len c.span_read.new.buf read in
    record { sure = ap (is_taken (taken_of c.args.self.now) c.args.to) each.0 ∙ c.requires.sure; mapped = ap (is_mapped (memory_of c.args.self.now) c.args.to) each.0 ∙ c.requires.mapped }

pub returns-clause-copied : goal.returns-clause-copied
returns-clause-copied c =
    let read : span (memory_of c.args.self.now).bytes c.args.from c.args.len ≡ Some c.span_read.new.buf = search rules in
    c.put.ensures.written ∙ ap (λ o. with_bytes (memory_of c.args.self.now) c.args.to (unwrap_or o [])) (sym read)
