use Rattle.std.proofs.Common.{◌≡◌, ◌-◌, length, take, drop, map, string_bytes, sym, ◌∙◌, ap, arith}
use Rattle.std.proofs.lemmas.List.{take_all, drop-map, length-drop}
use Rattle.exterm_cli.proofs.guest.words_from.Goals as goal

pub returns-then-count-words : goal.returns-then-count-words
returns-then-count-words c =
    let all : take (length c.args.words.now - c.args.count) (drop c.args.count c.args.words.now) ≡ drop c.args.count c.args.words.now = take_all _ _ (rw (length-drop c.args.count c.args.words.now) (omega arith)) in
    ap (map string_bytes) all ∙ sym (drop-map string_bytes c.args.count c.args.words.now)
