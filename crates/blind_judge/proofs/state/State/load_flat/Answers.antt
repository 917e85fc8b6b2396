use Rattle.std.proofs.Common.{◌≡◌, ◌%◌, ◌∙◌, ap, sym, subst, [], true, false}
use Rattle.infinite_heap.specs.InfiniteState.{inf_next}
use Rattle.infinite_heap.specs.InfiniteStep.{inf_load}
use Rattle.infinite_heap.specs.InfiniteSystem.{all_in}
use Rattle.infinite_heap.specs.Memory.{extends_sign, get_all, value_from, width_of}
use Rattle.infinite_heap.specs.Region.{in_region}
use Rattle.infinite_heap.specs.declared.value.Value.TheVariants.{Num}
use Rattle.blind_judge.specs.Flat.{mapping_in}
use Rattle.blind_judge.specs.Stands.{Stands}
use Rattle.blind_judge.proofs.StepsBy.{load_goes, stepped}
use Rattle.blind_judge.proofs.state.State.load_flat.Goals as goal

pub returns-clause-step : goal.returns-clause-step
returns-clause-step c cures input s h =
    let o = c.args.op in
    let n = c.args.n in
    let p = mapping_in c.args.self.now.flat in
    let width = c.width_of-width.ensures.width in
    let outside : in_region n ≡ false = sym c.in_region.ensures ∙ c.if-in_region.false in
    let whole : n % width_of o ≡ 0 = ap (λ w. n % w) (sym width) ∙ c.if-n-width-ne0.false in
    let mapped : all_in p.mapped n (width_of o) ≡ true = ap (all_in p.mapped n) (sym width) ∙ sym c.allow-allowed.ensures ∙ c.if-not-allowed.false in
    let value : c.load-v.result ≡ value_from (extends_sign o) (get_all s.flat n (width_of o)) = c.load-v.ensures ∙ ap (λ f. value_from (extends_sign o) (get_all f n (width_of o))) (sym h.flat) in
    let stands = subst (λ v. Stands c.pass_with.new.self (inf_next s c.args.rd v)) value (c.pass_with.ensures.step s h) in
    stepped cures input s _ (inf_load p s o c.args.rd (Num n)) [] c.pass_with.new.self (load_goes p s o c.args.rd n outside whole mapped) tt stands
