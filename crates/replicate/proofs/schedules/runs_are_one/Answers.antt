use Rattle.replicate.proofs.Ending.{ends-one, ends-or-stops, places-inside, stops-one}
use Rattle.replicate.proofs.schedules.runs_are_one.Goals as goal

pub returns-clause-ends : goal.returns-clause-ends
returns-clause-ends c = ends-one c.gates_and_rounds_are_one.ensures.rounds

pub returns-clause-stops : goal.returns-clause-stops
returns-clause-stops c = stops-one c.gates_and_rounds_are_one.ensures.rounds

pub returns-clause-apart : goal.returns-clause-apart
returns-clause-apart c = ends-or-stops c.gates_and_rounds_are_one.ensures.rounds

pub returns-clause-inside : goal.returns-clause-inside
returns-clause-inside c = places-inside
