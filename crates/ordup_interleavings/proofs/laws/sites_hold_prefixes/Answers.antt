use Rattle.ordup_interleavings.proofs.SiteLemmas.{sites-hold-prefixes}
use Rattle.ordup_interleavings.proofs.laws.sites_hold_prefixes.Goals as goal

pub returns : goal.returns
returns c = sites-hold-prefixes
