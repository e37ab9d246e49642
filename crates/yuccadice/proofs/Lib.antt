pub mod Results
pub mod Told
