-- What is told of a limit that there is.
use Rattle.std.proofs.Common.{◌≡◌, ◌<◌, ℕ, refl, length}
use Rattle.std.specs.Prelude.{Some, slice_get}
use Rattle.std.proofs.lemmas.Bool.{lt-ltb}
use Rattle.ordup_limits.specs.Entries.{latest}
use Rattle.ordup_limits.specs.declared.limit.Limit.{Limit}
use Rattle.ordup_primary.specs.Primaries.{PrimaryState, limits_at}
use Rattle.ordup_shapes.specs.declared.told.Lag.{Lag}
use Rattle.ordup_shared.specs.Books.{TellsLag, lag_of}

pub tells-lag : (p : PrimaryState) (site index : ℕ) (old new : Lag) (limit : Limit) → site < length p.sites
    → slice_get (latest (limits_at p site)) index ≡ Some limit → new ≡ lag_of p site limit → TellsLag p site index old new 0
tells-lag p site index old new limit there at is = rw (lt-ltb site (length p.sites) there, at) (refl, is)
