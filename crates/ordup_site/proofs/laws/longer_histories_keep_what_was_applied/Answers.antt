use Rattle.ordup_site.proofs.SiteLemmas.{HasApplied-longer}
use Rattle.ordup_site.proofs.laws.longer_histories_keep_what_was_applied.Goals as goal

pub returns : goal.returns
returns c = HasApplied-longer
