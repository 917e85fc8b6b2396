use Rattle.std.proofs.Common.{map, string_bytes, refl, ◌∙◌}
use Rattle.std.specs.declared.alloc.Global.{Global}
use Rattle.std.specs.declared.vec.Vec.{Vec}
use Rattle.heap_image.specs.Snapshot.{Snapshot}
use Rattle.exterm_cli.specs.Taking.{ReadsImage}
use Rattle.exterm_cli.proofs.Several.{so-read-begins, so-read-next, so-read-stops, so-read-ends}
use Rattle.exterm_cli.proofs.isolate.images_of.Goals as goal

pub loop-i-init : goal.loop-i-init
loop-i-init g c = (so-read-begins ReadsImage (map string_bytes c.args.words.now) c.args.names (g.F.Folder.files c.args.files.now) _ c.new-images.ensures.items, refl, refl)

pub returns-in-Err-clause-reads : goal.returns-in-Err-clause-reads
returns-in-Err-clause-reads g c =
    so-read-stops ReadsImage (map string_bytes c.args.words.now) c.args.names c.loop-i.i c.loop-i-test.true (λ (s : Snapshot). s) (λ (v : Vec Snapshot Global). v.items) (g.F.Folder.files c.args.files.now) (g.F.Folder.files c.loop-i.files) c.loop-i.images.items c.in-Err.stop c.loop-i.invariant.1 c.in-Err.ensures.reads c.loop-i.invariant.0

pub loop-i-preserved : goal.loop-i-preserved
loop-i-preserved g c = (
  so-read-next ReadsImage (map string_bytes c.args.words.now) c.args.names c.loop-i.i c.loop-i-test.true (g.F.Folder.files c.args.files.now) (g.F.Folder.files c.loop-i.files) c.loop-i.images.items c.push.new.self.items c.in-Ok.image c.loop-i.invariant.1 c.in-Ok.ensures.reads c.in-Ok-push.ensures.items c.loop-i.invariant.0,
  c.in-Ok.ensures.files ∙ c.loop-i.invariant.1,
  c.in-Ok.ensures.cause ∙ c.loop-i.invariant.2,
)

pub returns-clause-reads : goal.returns-clause-reads
returns-clause-reads g c = so-read-ends ReadsImage (map string_bytes c.args.words.now) c.args.names c.loop-i.i (g.F.Folder.files c.args.files.now) c.loop-i.images.items c.loop-i-test.false c.loop-i.invariant.0
