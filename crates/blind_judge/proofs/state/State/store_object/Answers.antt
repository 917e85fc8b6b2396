use Rattle.std.proofs.Common.{◌≡◌, ◌%◌, ◌∙◌, ap, sym, subst, [], ◌∷◌, Bool, true}
use Rattle.infinite_heap.specs.Covered.{IsCovered}
use Rattle.infinite_heap.specs.declared.access.AccessKind.TheVariants as kind
use Rattle.infinite_heap.specs.InfiniteState.{access, inf_pass}
use Rattle.infinite_heap.specs.InfiniteStep.{inf_store}
use Rattle.infinite_heap.specs.Memory.{cells_from, store_all, width_of}
use Rattle.infinite_heap.specs.declared.value.Value.TheVariants.{Ptr}
use Rattle.blind_judge.specs.Flat.{mapping_in}
use Rattle.blind_judge.specs.Patches.{cures_of}
use Rattle.blind_judge.specs.Tells.{Tells}
use Rattle.blind_judge.proofs.StepsBy.{object_store_goes, stepped}
use Rattle.blind_judge.proofs.state.State.store_object.Goals as goal

pub returns-clause-step : goal.returns-clause-step
returns-clause-step c input s h =
    let o = c.args.op in
    let at = c.args.offset in
    let cures = cures_of c.args.patches.now in
    let p = mapping_in c.args.self.now.flat in
    let cells = cells_from (width_of o) c.args.v in
    let whole : at % width_of o ≡ 0 = ap (λ w. at % w) (sym c.width_of-width.ensures.width) ∙ c.if-offset-width-ne0.false in
    let used = access s kind.Store c.args.object at (width_of o) in
    let is : c.access-used.result ≡ used = c.access-used.ensures s h ∙ ap (access s kind.Store c.args.object at) c.width_of-width.ensures.width in
    let tells : Tells true (IsCovered cures s.objects c.access-used.result) = subst (λ (b : Bool). Tells b (IsCovered cures s.objects c.access-used.result)) c.if-not-is_covered.false (c.is_covered.ensures s h) in
    let covered = subst (λ r. IsCovered cures s.objects r) is tells in
    let stands = c.pass.ensures.step (record s { written = store_all s.written c.args.object at cells }) (c.in_ok-put_object.ensures.stored s h) in
    stepped cures input s (record (inf_pass s) { written = store_all s.written c.args.object at cells }) (inf_store p s o c.args.v (Ptr c.args.object at)) (used ∷ []) c.pass.new.self (object_store_goes p s o c.args.v c.args.object at whole) (covered, tt) stands
