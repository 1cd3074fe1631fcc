-- What an opening and a read of a line may answer.
pub mod Cable
