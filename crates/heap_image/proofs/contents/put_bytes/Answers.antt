use Rattle.std.proofs.Common.{◌≡◌, ℕ, ◌+◌, ◌-◌, ◌++◌, ap, sym, ◌∙◌, arith, List, length, take}
use Rattle.std.specs.Prelude.{replicate}
use Rattle.std.proofs.lemmas.List.{with_items_is, take_all}
use borrow.Rule.Slice.PartMut.{post_of}
use Rattle.rv_memory.specs.Spaces.{memory_of}
use Rattle.heap_image.proofs.Taken.{read_behind, length-replicated}
use Rattle.heap_image.proofs.contents.put_bytes.Goals as goal

pub returns : goal.returns
returns c =
    let old : List ℕ = c.args.out.now.items in
    let from : ℕ = c.len-from.result in
    let whole : List ℕ = c.deref_mut.result.now in
    let more : List ℕ = replicate (from + c.args.len - c.args.out.now.len) 0 in
    let buf : List ℕ = c.span_read.new.buf in
    let begins : from ≡ length old = c.len-from.ensures ∙ c.args.out.now.ok.0 in
    let is : whole ≡ old ++ more = c.deref_mut.ensures.value ∙ c.in_ok-resize.ensures.items ∙ ap (λ (xs : List ℕ). xs ++ more) (take_all (from + c.args.len) old (omega (arith, begins))) in
    let many : length more ≡ c.args.len = length-replicated (from + c.args.len - c.args.out.now.len) 0 ∙ omega (arith, begins, c.args.out.now.ok.0) in
    let k = read_behind c.spans_are_their_bytes.ensures.whole (memory_of c.args.space.now) c.args.addr c.args.len old whole buf more from c.span_read.result c.requires.mapped begins is many c.span_read.ensures.read c.span_read.ensures.unmapped in
    with_items_is c.resize.new.self (take from whole ++ (buf ++ post_of from (length whole - from) whole)) (k.1 ∙ sym c.in_ok-resize.ensures.len) ∙ k.0
