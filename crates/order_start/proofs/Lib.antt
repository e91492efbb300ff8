mod Subjects
mod Pairing
