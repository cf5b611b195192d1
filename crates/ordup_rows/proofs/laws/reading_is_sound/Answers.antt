use Rattle.ordup_rows.proofs.Running.{reading_is_sound}
use Rattle.ordup_rows.proofs.laws.reading_is_sound.Goals as goal

pub returns : goal.returns
returns c = reading_is_sound
