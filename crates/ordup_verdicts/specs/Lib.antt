pub mod Faults
pub mod Verdicts
pub mod Lags
pub mod Series
pub mod SeriesLags
