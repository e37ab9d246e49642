pub mod Placing
pub mod Seek
pub mod Fetching
pub mod Flags
pub mod HandLaws
pub mod CheckLaws
pub mod HeadLaws
pub mod ByteLaws
