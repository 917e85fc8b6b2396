use Rattle.std.proofs.Common.{◌≡◌, ◌∙◌, sym}
use Rattle.std.specs.BTreeSet.{IsFromIterResult}
use Rattle.std.proofs.lemmas.Result.{IfOk-weaker}
use Rattle.std.proofs.lemmas.Iterator.{YieldsList-from_slice}
use Rattle.std.proofs.lemmas.Iterator.Adapters.{fact_from_collect}
use Rattle.std.proofs.lemmas.Iterator.Consumers.{YieldsList-from_copied}
use Rattle.dangling_isolator.specs.Marks.{is_among}
use Rattle.dangling_isolator.proofs.Sets.{mark_cmp, among_by}
use Rattle.dangling_isolator.proofs.finding.set_of.Goals as goal

pub returns : goal.returns
returns c =
    IfOk-weaker c.collect.result (λ v. IsFromIterResult mark_cmp c.args.marks.now v) (λ set. (m : _) → is_among set.keys m ≡ is_among c.args.marks.now m)
    (λ v h m. sym (among_by v.keys m) ∙ h.0 m ∙ among_by c.args.marks.now m)
    (fact_from_collect (λ xs v. IsFromIterResult mark_cmp xs v) _ c.collect.ensures.ran (YieldsList-from_copied (YieldsList-from_slice c.args.marks.now cc)))
