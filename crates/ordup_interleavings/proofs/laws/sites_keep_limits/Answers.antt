use Rattle.ordup_interleavings.proofs.SiteLemmas.{sites-keep-limits}
use Rattle.ordup_interleavings.proofs.laws.sites_keep_limits.Goals as goal

pub returns : goal.returns
returns c = sites-keep-limits
