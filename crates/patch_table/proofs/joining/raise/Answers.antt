use Rattle.std.proofs.Common.{◌≡◌, Some, sym, ap, ◌∙◌, subst}
use Rattle.std.specs.Map.{lookup, keys_of}
use Rattle.std.specs.Option.{is_some, option_copied_mut}
use Rattle.std.specs.BTreeMap as tree
use Rattle.std.specs.BTreeMap.{BTreeMap}
use Rattle.patch_table.specs.Joining.{lifted}
use Rattle.patch_table.proofs.Steps.{absent_step, written_step, sorted_rest, lifted_none}
use Rattle.patch_table.proofs.joining.raise.Goals as goal

pub loop-key-init : goal.loop-key-init
loop-key-init g c = record {
  ordered = c.requires.ordered;
  rises = subst (λ es. Rattle.std.specs.List.Sorted.IsStrictlySortedBy g.K.Ord.cmp (keys_of es)) (sym c.into_iter-key-iterator.ensures.into_iter_gives.0) c.requires.rises;
  raised = λ q. ap (λ es. lifted (tree.get g.K.Ord.cmp c.args.map.now q) (lookup (tree.is_at (g.K.Ord.cmp q)) es)) c.into_iter-key-iterator.ensures.into_iter_gives.0;
}

pub loop-key-preserved-in-Some-get_mut : goal.loop-key-preserved-in-Some-get_mut
loop-key-preserved-in-Some-get_mut g c =
    let here : tree.get g.K.Ord.cmp c.loop-key.map c.in-Some.key.now ≡ Some c.in-Some-get_mut.kept.now = sym c.get_mut.ensures.value ∙ ap option_copied_mut c.in-Some-get_mut.is in
    record {
      ordered = (c.get_mut.follows.holds c.max.result).4;
      rises = sorted_rest g.met.K.Ord.total c.in-Some.key.now c.in-Some.number.now c.loop-key.key-iterator c.next.new.self c.in-Some.ensures.steps c.loop-key.invariant.rises;
      raised = λ q.
          written_step g.met.K.Ord.total c.loop-key.map.entries (c.get_mut.follows.lender c.max.result).entries c.in-Some.key.now q c.in-Some-get_mut.kept.now c.in-Some.number.now c.max.result c.loop-key.key-iterator c.next.new.self
          c.in-Some.ensures.steps c.loop-key.invariant.rises here c.max.ensures (((c.get_mut.follows.holds c.max.result).3 (ap is_some here)).0 q)
          ∙ c.loop-key.invariant.raised q;
    }

pub loop-key-preserved : goal.loop-key-preserved
loop-key-preserved g c =
    let none = sym c.get_mut.ensures.value ∙ ap option_copied_mut c.in_default.is in
    let same = sym c.get_mut.follows.holds-at-none in
    record {
      ordered = subst (tree.IsOrdered g.K.Ord.cmp) same c.loop-key.invariant.ordered;
      rises = sorted_rest g.met.K.Ord.total c.in-Some.key.now c.in-Some.number.now c.loop-key.key-iterator c.next.new.self c.in-Some.ensures.steps c.loop-key.invariant.rises;
      raised = λ q.
          ap (λ (m : BTreeMap g.row.K.Denot Prim.Native.Nat.ℕ). lifted (tree.get g.K.Ord.cmp m q) (lookup (tree.is_at (g.K.Ord.cmp q)) c.next.new.self)) c.get_mut.follows.holds-at-none
          ∙ absent_step g.met.K.Ord.total c.loop-key.map.entries c.in-Some.key.now q c.in-Some.number.now c.loop-key.key-iterator c.next.new.self c.in-Some.ensures.steps none
          ∙ c.loop-key.invariant.raised q;
    }

pub returns-clause-raised : goal.returns-clause-raised
returns-clause-raised g c q =
    sym (lifted_none _) ∙ ap (λ es. lifted (tree.get g.K.Ord.cmp c.loop-key.map q) (lookup (tree.is_at (g.K.Ord.cmp q)) es)) (sym c.in-None.ensures.steps.0) ∙ c.loop-key.invariant.raised q
