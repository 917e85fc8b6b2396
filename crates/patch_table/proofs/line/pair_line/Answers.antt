use Rattle.std.proofs.Common.{◌∙◌, sym, subst}
use Rattle.patch_table.specs.Line.{IsNumber, field}
use Rattle.patch_table.proofs.Lines.{rest_of_field}
use Rattle.patch_table.proofs.line.pair_line.Goals as goal

pub returns-in-None-field_of : goal.returns-in-None-field_of
returns-in-None-field_of c = λ alloc_site free_site digits number e.
    c.in-None-field_of.ensures free_site digits (sym (rest_of_field alloc_site c.in-Some.alloc_site (field free_site digits) c.in-Some.rest.now (sym e ∙ c.in-Some.ensures)))

pub returns-in-None-number_of : goal.returns-in-None-number_of
returns-in-None-number_of c = λ alloc_site free_site digits number e.
    let rest = rest_of_field alloc_site c.in-Some.alloc_site (field free_site digits) c.in-Some.rest.now (sym e ∙ c.in-Some.ensures) in
    c.in-None-number_of.ensures (subst IsNumber (rest_of_field free_site c.in-Some-field_of.free_site digits c.in-Some-field_of.digits.now (rest ∙ c.in-Some-field_of.ensures)) number)
