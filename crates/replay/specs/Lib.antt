pub mod AnyFilters
pub mod Laws
