use Rattle.std.proofs.Common.{◌≡◌, ap, arith, length, length-append}
use Rattle.std.proofs.lemmas.Bool.Decides.{nat_tests}
use Rattle.std.proofs.lemmas.List.{nil_from_length}
use Rattle.patch_table.specs.Line.{line_of}
use Rattle.patch_table.specs.Spelling.{head_of}
use Rattle.patch_table.proofs.Texts.{head_long, line_some}
use Rattle.patch_table.proofs.SoFar.{at_start, at_end, no_line, goes_on, refused}
use Rattle.patch_table.proofs.reading.answer_of.Goals as goal

pub loop-rest-init : goal.loop-rest-init
loop-rest-init c = record {
  so_far = at_start c.in-Some.head.0 c.args.text.now c.in-Some.head.1.now c.new-patches.result c.in-Some.ensures c.new-patches.ensures;
  small = omega (arith, ap length c.in-Some.ensures, length-append (head_of c.in-Some.head.0) c.in-Some.head.1.now, head_long c.in-Some.head.0);
}

pub returns-in-None-line_at : goal.returns-in-None-line_at
returns-in-None-line_at c = no_line c.in-Some.head.0 c.args.text.now c.loop-rest.patches c.loop-rest.n c.loop-rest.rest.now c.loop-rest.invariant.so_far (grind (arith, nat_tests, c.is_empty.ensures, c.loop-rest-test.true)) c.in-None-line_at.ensures

pub returns-in-Err : goal.returns-in-Err
returns-in-Err c = refused c.in-Some.head.0 c.in-Err.refusal c.args.text.now c.loop-rest.rest.now c.in-Some-line_at.next.now c.loop-rest.patches _ c.in-Some-line_at.line c.loop-rest.n c.loop-rest.invariant.so_far c.in-Some-line_at.ensures c.in-Err.ensures

pub loop-rest-preserved : goal.loop-rest-preserved
loop-rest-preserved c =
    let line = c.in-Some-line_at.line in
    let t = c.in-Ok.ensures in
    let i = c.loop-rest.invariant in
    let b = c.in-Some-line_at.ensures in
    rw t.2 (record {
      so_far = goes_on c.in-Some.head.0 c.args.text.now c.loop-rest.rest.now c.in-Some-line_at.next.now c.loop-rest.patches c.loop-rest.n line i.so_far b t.0 t.1;
      small = omega (arith, i.small, ap length b.is, line_some line.key b.digits, length-append (line_of line.key b.digits) c.in-Some-line_at.next.now);
    })

pub returns : goal.returns
returns c =
    let none : length c.loop-rest.rest.now ≡ 0 = grind (arith, nat_tests, c.is_empty.ensures, c.loop-rest-test.false) in
    (c.in-Some.head.0, at_end c.in-Some.head.0 c.args.text.now c.loop-rest.patches c.loop-rest.n c.loop-rest.rest.now c.loop-rest.invariant.so_far (nil_from_length c.loop-rest.rest.now none))
