use Rattle.hex_text.specs.Laws.{eight_digits}
use Rattle.hex_text.proofs.padded_numbers_are_hex.Goals as goal

pub returns : goal.returns
returns c = eight_digits
