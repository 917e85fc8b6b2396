use Rattle.std.proofs.Common.{◌≡◌, ◌∙◌, sym, ap, length, take, drop, ◌++◌, ◌∷◌, ◌+◌, ◌-◌, Some, eqb}
use Rattle.std.specs.Prelude.{position}
use Rattle.std.proofs.lemmas.List.{take_at, take-append-drop, take_rest}
use Rattle.patch_table.specs.Line.{words_of, line_of}
use Rattle.patch_table.proofs.Lines.{end_is, lacks_words, parts_at_end, text_of_line}
use Rattle.patch_table.proofs.line.line_at.Goals as goal

pub returns-in-None : goal.returns-in-None
returns-in-None c = λ key digits rest allowed number e.
    let there = end_is (words_of key digits) rest (lacks_words key digits number) in
    let found = sym c.in-None.is ∙ c.end_of.ensures ∙ ap (position (λ b. eqb b 10)) (e ∙ text_of_line key digits rest) ∙ there in
    absurd cc

pub returns-in-None-words : goal.returns-in-None-words
returns-in-None-words c = λ key digits rest allowed number e.
    let there = end_is (words_of key digits) rest (lacks_words key digits number) in
    let found : Some c.in-Some.end ≡ Some (length (words_of key digits)) = sym c.in-Some.is ∙ c.end_of.ensures ∙ ap (position (λ b. eqb b 10)) (e ∙ text_of_line key digits rest) ∙ there in
    let end : length (words_of key digits) ≡ c.in-Some.end = cc in
    c.in-None-words.ensures key digits allowed number (c.split_at.ensures.front ∙ ap (take c.in-Some.end) (e ∙ text_of_line key digits rest) ∙ take_at (words_of key digits) (10 ∷ rest) c.in-Some.end end)

pub returns-in-Some-words : goal.returns-in-Some-words
returns-in-Some-words c =
    let text = c.args.text.now in
    let end = c.in-Some.end in
    let w = c.in-Some-words.ensures in
    let back = (parts_at_end text end (sym c.end_of.ensures ∙ c.in-Some.is)).1 in
    let rest : take (length c.split_at.result.1.now - 1) (drop 1 c.split_at.result.1.now) ≡ drop (end + 1) text = take_rest c.split_at.result.1.now 1 ∙ ap (drop 1) (c.split_at.ensures.back ∙ back) in
    record {
      digits = w.digits;
      number = w.number;
      kept = w.kept;
      key = w.key;
      allowed = w.allowed;
      is = sym (take-append-drop end text) ∙ ap (λ b. take end text ++ b) back ∙ ap (λ a. a ++ 10 ∷ drop (end + 1) text) (sym c.split_at.ensures.front ∙ w.are)
          ∙ sym (text_of_line c.in-Some-words.line.key w.digits (drop (end + 1) text)) ∙ ap (λ r. line_of c.in-Some-words.line.key w.digits ++ r) (sym rest);
    }
