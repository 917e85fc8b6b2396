use Rattle.std.proofs.Common.{map, string_bytes, refl, ◌∙◌}
use Rattle.exterm_cli.proofs.Merging.{so-begins, so-next, so-stops, so-ends}
use Rattle.exterm_cli.proofs.merge.join.Goals as goal

pub loop-i-init : goal.loop-i-init
loop-i-init g c = (so-begins (map string_bytes c.args.words.now) c.args.names (g.F.Folder.files c.args.files.now) _ c.new-table.ensures, refl, refl)

pub returns-in-Err-clause-joins : goal.returns-in-Err-clause-joins
returns-in-Err-clause-joins g c =
    so-stops (map string_bytes c.args.words.now) c.args.names c.loop-i.i c.loop-i-test.true (g.F.Folder.files c.args.files.now) (g.F.Folder.files c.loop-i.files) c.loop-i.table c.in-Err.stop c.loop-i.invariant.1 c.in-Err.ensures.reads c.loop-i.invariant.0

pub loop-i-preserved : goal.loop-i-preserved
loop-i-preserved g c = (
  so-next (map string_bytes c.args.words.now) c.args.names c.loop-i.i c.loop-i-test.true (g.F.Folder.files c.args.files.now) (g.F.Folder.files c.loop-i.files) c.loop-i.table c.in-Ok.next c.join.new.self c.loop-i.invariant.1 c.in-Ok.ensures.reads c.in-Ok-join.ensures.ok c.loop-i.invariant.0,
  c.in-Ok.ensures.files ∙ c.loop-i.invariant.1,
  c.in-Ok.ensures.cause ∙ c.loop-i.invariant.2,
)

pub returns-clause-joins : goal.returns-clause-joins
returns-clause-joins g c = so-ends (map string_bytes c.args.words.now) c.args.names c.loop-i.i (g.F.Folder.files c.args.files.now) c.loop-i.table c.loop-i-test.false c.loop-i.invariant.0
