-- What is stated of the workbooks that calls can make.
pub mod Judgeable
pub mod Releases
