pub mod LagRows
pub mod Texts
pub mod AmountCellInside
