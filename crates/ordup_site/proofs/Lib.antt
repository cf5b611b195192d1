pub mod TravelLemmas
pub mod MoveLemmas
pub mod SiteLemmas
