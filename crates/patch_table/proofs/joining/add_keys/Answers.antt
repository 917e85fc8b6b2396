use Rattle.std.proofs.Common.{sym, ap, ◌∙◌}
use Rattle.std.specs.List.{filter}
use Rattle.std.specs.Map.{lookup}
use Rattle.std.specs.BTreeMap as tree
use Rattle.patch_table.specs.Joining.{with_key, is_entry}
use Rattle.patch_table.proofs.Steps.{none_where_not, entries_stay, with_none, present_step, added_step, added_is_no_entry}
use Rattle.patch_table.proofs.joining.add_keys.Goals as goal

pub loop-key-init : goal.loop-key-init
loop-key-init g c = record {
  ordered = c.requires.ordered;
  added = λ q. ap (λ es. with_key (tree.get g.K.Ord.cmp c.args.map.now q) (lookup (tree.is_at (g.K.Ord.cmp q)) es)) c.into_iter-key-iterator.ensures.into_iter_gives.0;
  besides = entries_stay c.args.map.now.entries c.requires.entries;
}

pub loop-key-preserved-then-contains_key : goal.loop-key-preserved-then-contains_key
loop-key-preserved-then-contains_key g c =
    let there = sym c.contains_key.ensures ∙ c.if-contains_key.true in
    record {
      ordered = c.loop-key.invariant.ordered;
      added = λ q. present_step g.met.K.Ord.total c.loop-key.map.entries c.in-Some.key.now q c.in-Some.field-0-1.now c.loop-key.key-iterator c.next.new.self c.in-Some.ensures.steps there ∙ c.loop-key.invariant.added q;
      besides = c.loop-key.invariant.besides;
    }

pub returns-in-Err-clause-err : goal.returns-in-Err-clause-err
returns-in-Err-clause-err g c = c.drop_keys.ensures.kept ∙ ap (filter is_entry) c.in-Err.ensures.err ∙ c.loop-key.invariant.besides

pub loop-key-preserved : goal.loop-key-preserved
loop-key-preserved g c =
    let none = none_where_not _ (sym c.contains_key.ensures ∙ c.if-contains_key.false) in
    record {
      ordered = c.in_default.ensures.ordered;
      added = λ q.
          added_step g.met.K.Ord.total c.loop-key.map.entries c.insert.new.self.entries c.in-Some.key.now q c.in-Some.field-0-1.now c.loop-key.key-iterator c.next.new.self c.in-Some.ensures.steps none (c.in_default.ensures.updates.0 q)
          ∙ c.loop-key.invariant.added q;
      besides = ap (filter is_entry) c.in_default.ensures.entries ∙ added_is_no_entry g.K.Ord.cmp c.in-Some.key.now c.loop-key.map.entries none ∙ c.loop-key.invariant.besides;
    }

pub returns-clause-ordered : goal.returns-clause-ordered
returns-clause-ordered g c = c.loop-key.invariant.ordered

pub returns-clause-added : goal.returns-clause-added
returns-clause-added g c q =
    sym (with_none _) ∙ ap (λ es. with_key (tree.get g.K.Ord.cmp c.loop-key.map q) (lookup (tree.is_at (g.K.Ord.cmp q)) es)) (sym c.in-None.ensures.steps.0) ∙ c.loop-key.invariant.added q

pub returns-clause-besides : goal.returns-clause-besides
returns-clause-besides g c = c.loop-key.invariant.besides
