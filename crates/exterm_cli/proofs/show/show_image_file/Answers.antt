use Rattle.std.proofs.Common.{map, string_bytes}
use Rattle.exterm_cli.proofs.Shown.{shows-image, shows-none}
use Rattle.exterm_cli.proofs.show.show_image_file.Goals as goal

pub returns-in-Ok-clause-shows : goal.returns-in-Ok-clause-shows
returns-in-Ok-clause-shows c = shows-image (map string_bytes c.args.words.now) c.args.file.now c.in-Ok.image c.show_image.result c.requires.other c.in-Ok.ensures.reads c.show_image.ensures.shows

pub returns-in-Err-clause-shows : goal.returns-in-Err-clause-shows
returns-in-Err-clause-shows c = shows-none (map string_bytes c.args.words.now) c.args.file.now c.in-Err.stop c.requires.other c.in-Err.ensures.reads
