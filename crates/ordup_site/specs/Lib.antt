pub mod Sites
pub mod Travelling
pub mod SiteInside
