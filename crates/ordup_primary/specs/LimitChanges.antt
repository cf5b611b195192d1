-- Why a change of a limit of a site is refused.
use Rattle.std.specs.Prelude.{ℕ, ◌+◌, ◌==◌, if◌then◌else◌, not, nat_lt, length, Option, Some, None}
use Rattle.std.specs.Option.{option_or}
use Rattle.ordup_objects.specs.declared.refusal.Refusal.{Refusal}
use Rattle.ordup_objects.specs.declared.refusal.Refusal.TheVariants.{UnknownSite, HeadPending, LagOver}
use Rattle.ordup_objects.specs.Serial.{History}
use Rattle.ordup_log.specs.Spans.{span}
use Rattle.ordup_log.specs.declared.scope.Scope.{Scope}
use Rattle.ordup_limits.specs.Limits.{scope_refusal}
use Rattle.ordup_limits.specs.Entries.{Entries, entry_of, change_refusal}
use Rattle.ordup_primary.specs.Declarations.{Declared}

-- what a change of a limit of a site is judged by: the site, the declarations, the log, how many updates are acknowledged and how
-- many are decided, the limits of the site, and how many updates it has reported
pub record SiteView : Type 0 where
  pub site : ℕ
  pub setup : Declared
  pub log : History
  pub acked : ℕ
  pub decided : ℕ
  pub limits : Entries
  pub reported : ℕ

-- why it is refused, if it is, where the site is declared: while the head is decided and not acknowledged there is none; and the
-- amount is no less than what the acknowledged updates weigh that the site has not reported
abbrev pub site_change_refusal : SiteView → Scope → ℕ → Option Refusal
site_change_refusal v scope amount =
    option_or (change_refusal (length v.setup.objects) v.setup.groups v.limits (entry_of scope amount (v.acked + 1))) (
    if not (v.acked == v.decided) then Some HeadPending else
    if nat_lt amount (span v.log v.setup.groups scope v.reported v.acked) then Some LagOver else None)

-- why it is refused, if it is: the scope is looked at first, then the site, and then the rest
abbrev pub limit_change_refusal : SiteView → Scope → ℕ → Option Refusal
limit_change_refusal v scope amount =
    option_or (scope_refusal (length v.setup.objects) v.setup.groups scope) (
    if not (nat_lt v.site (length v.setup.sites)) then Some UnknownSite else site_change_refusal v scope amount)
