pub mod Tests
pub mod Levels
pub mod Down
pub mod Sound
