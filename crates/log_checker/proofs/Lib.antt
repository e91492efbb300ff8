mod Judged
mod Numbering
mod OneVerdict
