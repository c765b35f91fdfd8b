-- What holds of the ranks of boxes while they are raised.
pub mod Ranks
