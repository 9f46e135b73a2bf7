pub mod Lines
pub mod KeptLast
pub mod KeptLines
