mod Following
mod Leading
mod SameAtoms
mod Sided
