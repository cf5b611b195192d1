mod Examples
pub mod SitesLemmas
