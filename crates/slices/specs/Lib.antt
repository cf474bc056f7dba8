-- The definitions that contracts cite, here or in the crates above.
pub mod Every
pub mod Lists
pub mod Search
pub mod Sorted
pub mod Least
