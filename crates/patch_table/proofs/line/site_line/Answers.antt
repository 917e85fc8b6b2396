use Rattle.std.proofs.Common.{◌∙◌, sym, subst}
use Rattle.patch_table.specs.Line.{IsNumber}
use Rattle.patch_table.proofs.Lines.{rest_of_field}
use Rattle.patch_table.proofs.line.site_line.Goals as goal

pub returns-in-None-number_of : goal.returns-in-None-number_of
returns-in-None-number_of c = λ site digits number e.
    c.in-None-number_of.ensures (subst IsNumber (rest_of_field site c.in-Some.site digits c.in-Some.digits.now (sym e ∙ c.in-Some.ensures)) number)
