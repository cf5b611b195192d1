pub mod Outcomes
mod SeriesOutcomes
mod SeriesLagLemmas
mod Examples
