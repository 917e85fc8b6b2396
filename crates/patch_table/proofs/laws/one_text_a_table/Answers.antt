use Rattle.std.proofs.Common.{sym, subst}
use Rattle.patch_table.specs.Grammar.{IsText}
use Rattle.patch_table.proofs.Texts.{one_version, text_is_spelling}
use Rattle.patch_table.proofs.Grown.{spelling_is_text}
use Rattle.patch_table.proofs.laws.one_text_a_table.Goals as goal

pub returns : goal.returns
returns c = record {
  spelled = λ version text table. (λ h. text_is_spelling h, λ h. subst (λ x. IsText version x table) (sym h.2) (spelling_is_text version table h.0 h.1));
  one_version = λ version other text a b is also. one_version version other text a b is also;
}
