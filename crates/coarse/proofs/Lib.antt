mod Size
mod Volumes
mod Scan
pub mod Rows
mod Pairs
mod Faces
mod Count
mod Meets
mod Repeats
mod Crowds
mod Turns
mod Answers
