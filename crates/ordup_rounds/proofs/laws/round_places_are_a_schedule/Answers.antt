use Rattle.ordup_rounds.proofs.PlaceLemmas.{round_places_are_a_schedule}
use Rattle.ordup_rounds.proofs.laws.round_places_are_a_schedule.Goals as goal

pub returns : goal.returns
returns c = round_places_are_a_schedule
