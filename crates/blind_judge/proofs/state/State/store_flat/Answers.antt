use Rattle.std.proofs.Common.{◌≡◌, ◌%◌, ◌∙◌, ap, sym, [], true, false}
use Rattle.infinite_heap.specs.InfiniteState.{inf_pass}
use Rattle.infinite_heap.specs.InfiniteStep.{inf_store}
use Rattle.infinite_heap.specs.InfiniteSystem.{all_in}
use Rattle.infinite_heap.specs.Memory.{cells_from, put_all, width_of}
use Rattle.infinite_heap.specs.Region.{in_region}
use Rattle.infinite_heap.specs.declared.value.Value.TheVariants.{Num}
use Rattle.blind_judge.specs.Flat.{mapping_in}
use Rattle.blind_judge.proofs.StepsBy.{store_goes, stepped}
use Rattle.blind_judge.proofs.state.State.store_flat.Goals as goal

pub returns-clause-step : goal.returns-clause-step
returns-clause-step c cures input s h =
    let o = c.args.op in
    let n = c.args.n in
    let p = mapping_in c.args.self.now.flat in
    let width = c.width_of-width.ensures.width in
    let outside : in_region n ≡ false = sym c.in_region.ensures ∙ c.if-in_region.false in
    let whole : n % width_of o ≡ 0 = ap (λ w. n % w) (sym width) ∙ c.if-n-width-ne0.false in
    let writable : all_in p.writable n (width_of o) ≡ true = ap (all_in p.writable n) (sym width) ∙ sym c.allow-allowed.ensures ∙ c.if-not-allowed.false in
    let stands = c.pass.ensures.step (record s { flat = put_all s.flat n (cells_from (width_of o) c.args.v) }) (c.in_ok-put_flat.ensures.stored s h) in
    stepped cures input s (record (inf_pass s) { flat = put_all s.flat n (cells_from (width_of o) c.args.v) }) (inf_store p s o c.args.v (Num n)) [] c.pass.new.self (store_goes p s o c.args.v n outside whole writable) tt stands
