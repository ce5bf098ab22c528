pub mod DistinctNames
