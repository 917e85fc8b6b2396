use Rattle.std.proofs.Common.{rules}
use Rattle.std.proofs.lemmas.Map.Made.{filter_same_pairs}
use Rattle.patch_table.specs.Joining.{is_entry}
use Rattle.patch_table.proofs.joining.drop_keys.Goals as goal

pub returns-clause-kept : goal.returns-clause-kept
returns-clause-kept g c = filter_same_pairs _ is_entry _ (λ k v b w f' t. search rules) _ _ c.retain.ensures.filtered
