-- Algorithm 1's decision on a job, as the code says it.
-- Assumes nothing.
use Rattle.std.specs.Prelude.{Bool, Option, option_map}
use Rattle.model.specs.Timetable.{Chosen}

abbrev pub decision_of : Option Chosen → Option Bool
decision_of c = option_map (λ (x : Chosen). x.away) c
