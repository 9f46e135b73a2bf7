pub mod PageBytes
pub mod FrameTable
pub mod WrittenLaws
