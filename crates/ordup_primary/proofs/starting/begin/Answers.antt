-- Each part of the first state has a step of its own, and each step can be refused memory alone.
use Rattle.std.proofs.Common.{◌∙◌}
use Rattle.std.proofs.lemmas.Result.{err_from_is_err_and, IfOk-from_err}
use Rattle.ordup_primary.proofs.starting.begin.Goals as goal

pub add_sites-requires : goal.add_sites-requires
add_sites-requires g c = c.requires.sites

pub returns-in_err-add_sites : goal.returns-in_err-add_sites
returns-in_err-add_sites g c =
    let failed = err_from_is_err_and c.from_residual.result c.from_residual.ensures.1 in
    record {
      log = IfOk-from_err _ _ c.from_residual.ensures.0;
      legal = IfOk-from_err _ _ c.from_residual.ensures.0;
      sites = rw failed.1 tt;
      limits = rw failed.1 tt;
      ledger = IfOk-from_err _ _ c.from_residual.ensures.0;
      refused = rw (failed.1, failed.2) c.in_err-add_sites.ensures.refused;
    }

pub add_limits-requires : goal.add_limits-requires
add_limits-requires g c = c.requires.limits

pub returns-in_err-add_limits : goal.returns-in_err-add_limits
returns-in_err-add_limits g c =
    let failed = err_from_is_err_and c.from_residual-in_err-add_limits.result c.from_residual-in_err-add_limits.ensures.1 in
    record {
      log = IfOk-from_err _ _ c.from_residual-in_err-add_limits.ensures.0;
      legal = IfOk-from_err _ _ c.from_residual-in_err-add_limits.ensures.0;
      sites = rw failed.1 tt;
      limits = rw failed.1 tt;
      ledger = IfOk-from_err _ _ c.from_residual-in_err-add_limits.ensures.0;
      refused = rw (failed.1, failed.2) c.in_err-add_limits.ensures.refused;
    }

pub returns-in_err-log : goal.returns-in_err-log
returns-in_err-log g c =
    let failed = err_from_is_err_and c.from_residual-in_err-log.result c.from_residual-in_err-log.ensures.1 in
    record {
      log = IfOk-from_err _ _ c.from_residual-in_err-log.ensures.0;
      legal = IfOk-from_err _ _ c.from_residual-in_err-log.ensures.0;
      sites = rw failed.1 tt;
      limits = rw failed.1 tt;
      ledger = IfOk-from_err _ _ c.from_residual-in_err-log.ensures.0;
      refused = rw (failed.1, failed.2) c.in_err-log.ensures.refused;
    }

pub first_store_ledger-requires : goal.first_store_ledger-requires
first_store_ledger-requires g c = c.as_slice.ensures.value ∙ c.in_ok-add_limits.ensures.limits

pub returns-2-clause-log : goal.returns-2-clause-log
returns-2-clause-log g c = rw (← c.objects.ensures) c.in_ok-log.ensures.empty

pub returns-2-clause-sites : goal.returns-2-clause-sites
returns-2-clause-sites g c = rw (← c.sites.ensures.sites) c.in_ok-add_sites.ensures.sites

pub returns-2-clause-limits : goal.returns-2-clause-limits
returns-2-clause-limits g c = c.in_ok-add_limits.ensures.limits
