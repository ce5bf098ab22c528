pub mod Table
pub mod Keys
pub mod Found
pub mod Distinct
pub mod Taken
pub mod RowsRead
