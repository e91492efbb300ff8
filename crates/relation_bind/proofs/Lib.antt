pub mod Places
pub mod Heads
pub mod Tables
pub mod Declared
pub mod Declaring
pub mod OneDeclaration
