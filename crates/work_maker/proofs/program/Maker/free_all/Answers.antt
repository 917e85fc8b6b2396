use Rattle.std.proofs.Common.{◌∙◌, ap, Bool, false, List, get_or, refl, arith}
use Rattle.work_maker.specs.Program.{with_release}
use Rattle.work_maker.proofs.Turns.{first-place, with-one_more_place, length-places}
use Rattle.work_maker.proofs.program.Maker.free_all.Goals as goal

pub loop-k-init : goal.loop-k-init
loop-k-init c = record {
  code = first-place (λ k. get_or c.args.self.now.full k false) c.args.self.now.code.items;
  full = refl;
}

pub free-requires-clause-length : goal.free-requires-clause-length
free-requires-clause-length c =
    omega (
      arith,
      c.requires,
      c.loop-k-test.true,
      length-places (λ k. get_or c.args.self.now.full k false) c.args.self.now.code.items c.loop-k.k c.loop-k.self.code.items c.loop-k.invariant.code,
    )

pub loop-k-preserved : goal.loop-k-preserved
loop-k-preserved c = record {
  code =
      with-one_more_place (λ k. get_or c.args.self.now.full k false) c.args.self.now.code.items c.loop-k.k c.loop-k.self.code.items
      c.free.new.self.code.items c.loop-k.invariant.code
      (c.in_ok-free.ensures.code
      ∙ ap (λ (full : List Bool). with_release (get_or full c.loop-k.k false) c.loop-k.k c.loop-k.self.code.items) c.loop-k.invariant.full);
  full = c.in_ok-free.ensures.full ∙ c.loop-k.invariant.full;
}

pub returns-clause-length : goal.returns-clause-length
returns-clause-length c =
    omega (
      arith,
      c.loop-k.auto.k-end,
      length-places (λ k. get_or c.args.self.now.full k false) c.args.self.now.code.items c.loop-k.k c.loop-k.self.code.items c.loop-k.invariant.code,
    )
