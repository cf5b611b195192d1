pub mod RecordsOf
pub mod Successive
