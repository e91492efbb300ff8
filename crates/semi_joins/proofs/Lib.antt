mod Keeping
mod Linking
mod Marking
mod Telling
