-- What the program makes of the bytes that it reads, how a transfer stops, and what an argument asks for.
pub mod Options
pub mod Played
pub mod Transfer
