use Rattle.std.proofs.Common.{◌≡◌, ◌++◌, sym, ap, ◌∙◌, append_assoc, List, ℕ, subst}
use Rattle.std.specs.Ordering.{nat_cmp}
use Rattle.std.specs.FinMap.{entries, from_sorted}
use Rattle.std.specs.List.{flat_map, AllByRecursion}
use Rattle.patch_table.specs.Table.{pair_cmp}
use Rattle.patch_table.specs.Limits.{IsPad, IsFront, IsDefer, InLimits}
use Rattle.patch_table.specs.Grammar.{IsText}
use Rattle.patch_table.specs.Spelling.{spelling, pad_line, front_line, defer_line}
use Rattle.patch_table.specs.declared.line.Version.TheVariants.{Two}
use Rattle.patch_table.specs.declared.reading.TheConstants.{HEAD_TWO}
use Rattle.patch_table.proofs.Trees.{entries_of}
use Rattle.patch_table.proofs.Grown.{spelling_is_text}
use Rattle.patch_table.proofs.table.Patches.write.Goals as goal

-- the parts, one behind the other
parts : (head p f d : List ℕ) → ((head ++ p) ++ f) ++ d ≡ head ++ (p ++ (f ++ d))
parts head p f d = append_assoc (head ++ p) f d ∙ append_assoc head p (f ++ d)

pub returns : goal.returns
returns c =
    let p = c.self.inside.pads.entries in
    let f = c.self.inside.fronts.entries in
    let d = c.self.inside.defers.entries in
    let pads = entries_of nat_cmp c.self.inside.pads c.self.invariant.pads in
    let fronts = entries_of nat_cmp c.self.inside.fronts c.self.invariant.fronts in
    let defers = entries_of pair_cmp c.self.inside.defers c.self.invariant.defers in
    let told : c.put_defers.new.out.items ≡ ((HEAD_TWO ++ flat_map pad_line p) ++ flat_map front_line f) ++ flat_map defer_line d =
    c.in_ok-put_defers.ensures
    ∙ ap (λ (o : List ℕ). o ++ flat_map defer_line d)
    (c.in_ok-put_fronts.ensures ∙ ap (λ (o : List ℕ). o ++ flat_map front_line f) (c.in_ok-put_pads.ensures ∙ ap (λ (o : List ℕ). o ++ flat_map pad_line p) (c.in_ok-extend_from_slice.ensures.items ∙ ap (λ (o : List ℕ). o ++ HEAD_TWO) c.new-out.ensures.items))) in
    let body : HEAD_TWO ++ (flat_map pad_line p ++ (flat_map front_line f ++ flat_map defer_line d)) ≡ HEAD_TWO ++ (flat_map pad_line (entries (from_sorted {R = nat_cmp} p)) ++ (flat_map front_line (entries (from_sorted {R = nat_cmp} f)) ++ flat_map defer_line (entries (from_sorted {R = pair_cmp} d)))) =
    λ i. HEAD_TWO ++ (flat_map pad_line (sym pads i) ++ (flat_map front_line (sym fronts i) ++ flat_map defer_line (sym defers i))) in
    let spelled : c.put_defers.new.out.items ≡ spelling Two c.args.self.now = told ∙ parts HEAD_TWO (flat_map pad_line p) (flat_map front_line f) (flat_map defer_line d) ∙ body ∙ ap (spelling Two) c.self.view_is in
    let fits : InLimits c.args.self.now = subst InLimits c.self.view_is (record {
      pads = subst (AllByRecursion IsPad) (sym pads) c.self.invariant.pads_fit;
      fronts = subst (AllByRecursion IsFront) (sym fronts) c.self.invariant.fronts_fit;
      defers = subst (AllByRecursion IsDefer) (sym defers) c.self.invariant.defers_fit;
    }) in
    record { spelled = spelled; read = subst (λ x. IsText Two x c.args.self.now) (sym spelled) (spelling_is_text Two c.args.self.now tt fits) }
