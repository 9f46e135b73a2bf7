pub mod Opcodes
pub mod Terminators
pub mod Arguments
pub mod OpcodeLaws
pub mod WindowLaws
