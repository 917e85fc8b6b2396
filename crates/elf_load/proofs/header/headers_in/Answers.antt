use Rattle.std.proofs.Common.{arith}
use Rattle.elf_load.specs.Headers.{header_at}
use Rattle.elf_load.proofs.Rows.{pushed, pushed_all}
use Rattle.elf_load.proofs.header.headers_in.Goals as goal

pub loop-preserved : goal.loop-preserved
loop-preserved c = record {
  inside = omega (arith, c.loop.invariant.inside, c.loop-test.true);
  rest = pushed (header_at c.args.file.now) _ _ _ _ _ _ _ _ c.loop-test.true c.in_ok-push.ensures.items c.header_at.ensures c.loop.invariant.rest;
}

pub returns : goal.returns
returns c = pushed_all (header_at c.args.file.now) _ _ _ _ _ _ c.loop-test.false c.loop.invariant.rest
