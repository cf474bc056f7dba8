-- Laws of `sorted`, of counts, of moved runs, and of the steps of selection and of sorting.
pub mod Every
pub mod Lists
pub mod Seeking
pub mod Halving
pub mod Bisect
pub mod Tallies
pub mod Sorting
pub mod Between
pub mod Bracket
pub mod Least
pub mod Runs
