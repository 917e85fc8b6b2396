-- The report of a group, line by line.
use Rattle.std.proofs.Common.{◌≡◌, ◌<◌, ℕ, suc, ◌+◌, List, ◌++◌, drop, length, slice_index_or, sym, ◌∙◌, ap, append_assoc, add-one, drop-cons}
use Rattle.replicate.specs.declared.answer.Patched.{Patched}
use Rattle.replicate.specs.declared.answer.Retired.{Retired}
use Rattle.exterm_cli.specs.Replicate.{events_from, patched_line, retired_lines}

regrouped : (a b c d : List ℕ) → ((a ++ b) ++ c) ++ d ≡ a ++ (b ++ (c ++ d))
regrouped a b c d = append_assoc (a ++ b) c d ∙ append_assoc a b (c ++ d)

-- the lines up to one more gate that changed the table
pub events-next : (patched : List Patched) (i : ℕ) (none : Patched) (after last : ℕ) (retired : List Retired) (report mid new all : List ℕ) → i < length patched
    → mid ≡ report ++ retired_lines after (slice_index_or patched i none).gate retired → new ≡ mid ++ patched_line (slice_index_or patched i none)
    → report ++ events_from after last retired (drop i patched) ≡ all → new ++ events_from (slice_index_or patched i none).gate last retired (drop (i + 1) patched) ≡ all
events-next patched i none after last retired report mid new all within one two is =
    let p = slice_index_or patched i none in
    let rest = events_from p.gate last retired (drop (suc i) patched) in
    rw (add-one) (ap (λ x. x ++ rest) (two ∙ ap (λ x. x ++ patched_line p) one) ∙ regrouped report (retired_lines after p.gate retired) (patched_line p) rest ∙ ap (λ ps. report ++ events_from after last retired ps) (sym (drop-cons patched i none within)) ∙ is)
