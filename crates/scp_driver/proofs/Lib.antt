mod Bases
mod Greatest
