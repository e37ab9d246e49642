pub mod Faces
pub mod Facts
pub mod Kuhn
pub mod Joining
pub mod Digits
pub mod FaceKinds
pub mod Children
