mod Aligns
mod Writes
