use Rattle.ordup_verdicts.proofs.SeriesLagLemmas.{each-known}
use Rattle.ordup_verdicts.proofs.series_lag.print_lag_of_series.Goals as goal

pub returns : goal.returns
returns g c =
    c.print_all-printed.ensures (g.R.Read.remaining c.args.input.now)
    (each-known (g.R.Read.remaining c.args.input.now) c.new-records.ensures.first)
