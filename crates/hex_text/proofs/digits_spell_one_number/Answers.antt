use Rattle.hex_text.specs.Laws.{length-hex_of, hex_of-digits, hex_same}
use Rattle.hex_text.proofs.digits_spell_one_number.Goals as goal

pub returns-clause-counted : goal.returns-clause-counted
returns-clause-counted c = length-hex_of

pub returns-clause-digits : goal.returns-clause-digits
returns-clause-digits c = hex_of-digits

pub returns-clause-one : goal.returns-clause-one
returns-clause-one c = hex_same
