use Rattle.std.proofs.Common.{◌++◌, ◌+◌, ◌*◌, string_bytes, ◌∙◌, ap}
use Rattle.exterm_cli.specs.Listing.{lines_from, word_line}
use Rattle.exterm_cli.proofs.Listed.{line-added, lines-end}
use Rattle.exterm_cli.proofs.listing.push_lines.Goals as goal

pub loop-i-preserved : goal.loop-i-preserved
loop-i-preserved c =
    line-added c.args.segment.now c.args.from c.args.count c.loop-i.i (string_bytes c.loop-i.text) (string_bytes c.args.text.now ++ lines_from c.args.segment.now c.args.from c.args.count) (string_bytes c.push_str.new.self) c.loop-i-test.true
    (c.in_ok-push_str.ensures.bytes ∙ ap (λ x. string_bytes c.loop-i.text ++ x) (c.as_str.ensures.value ∙ c.in_ok-line.ensures ∙ ap (word_line (c.args.from + 4 * c.loop-i.i)) c.word_in.ensures)) c.loop-i.invariant

pub returns : goal.returns
returns c = lines-end c.args.segment.now c.args.from c.args.count c.loop-i.i (string_bytes c.loop-i.text) (string_bytes c.args.text.now ++ lines_from c.args.segment.now c.args.from c.args.count) c.loop-i-test.false c.loop-i.invariant
