-- What an answer to a comparison records.
use Rattle.std.specs.Prelude.{ℕ, List, [], ◌∷◌}
use Rattle.infinite_heap.specs.Equality.{Look, Decision}
use Rattle.blind_judge.specs.declared.decisions.Decision.{Decision as KeptDecision}
use Rattle.blind_judge.specs.declared.decisions.Looks.{Looks}
use Rattle.blind_judge.specs.declared.decisions.Looks.TheVariants.{Nothing, Both}

-- one byte of an object
abbrev pub look_at : ℕ → ℕ → Look
look_at o d = record { object = o; offset = d; width = 1 }

abbrev pub looks_of : Looks → List Look
looks_of Nothing = []
looks_of (Both o d p e) = look_at o d ∷ look_at p e ∷ []

abbrev pub decision_of : KeptDecision → Decision
decision_of d = record { answer = d.answer; looks = looks_of d.looks }
