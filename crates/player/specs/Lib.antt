-- What a journal leaves in the output that it is lent, and what is to be done for a line.
pub mod Play
pub mod Steps
