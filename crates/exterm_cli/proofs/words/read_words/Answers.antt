use Rattle.std.proofs.Common.{Result, Ok, Err, map, string_bytes, IfOk, subst, sym, length, ℕ}
use Rattle.exterm_cli.specs.Counted.{GivesGuest, LastsGuest, LiesIn}
use Rattle.exterm_cli.specs.declared.words.Command.{Command}
use Rattle.exterm_cli.specs.declared.words.Refusal.{Refusal}
use Rattle.exterm_cli.proofs.Counts.{words-give}
use Rattle.exterm_cli.proofs.Ranges.{IsInRange, words-in-range}
use Rattle.exterm_cli.proofs.words.read_words.Goals as goal

pub returns-clause-guest : goal.returns-clause-guest
returns-clause-guest c = subst (λ r. IfOk r (GivesGuest (map string_bytes c.args.words.now))) (sym c.read_all.ensures) (words-give (map string_bytes c.args.words.now))

lasts : (end : ℕ) (r : Result Command Refusal) → IfOk r (IsInRange end) → IfOk r LastsGuest
lasts end (Ok command) known = known.lasts
lasts end (Err refused) known = tt

lies : (end : ℕ) (r : Result Command Refusal) → IfOk r (IsInRange end) → IfOk r (LiesIn end)
lies end (Ok command) known = known.lies
lies end (Err refused) known = tt

pub returns-clause-lasts : goal.returns-clause-lasts
returns-clause-lasts c = subst (λ r. IfOk r LastsGuest) (sym c.read_all.ensures) (lasts _ _ (words-in-range (map string_bytes c.args.words.now)))

pub returns-clause-lies : goal.returns-clause-lies
returns-clause-lies c = subst (λ r. IfOk r (LiesIn (length (map string_bytes c.args.words.now)))) (sym c.read_all.ensures) (lies _ _ (words-in-range (map string_bytes c.args.words.now)))
