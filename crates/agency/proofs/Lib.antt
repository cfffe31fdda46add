-- Laws of the file: Taken (a line's next word and a text's next line, as they are lent), Rows (the ways to a line's answer), Progress (the header and the
-- ninety lines), Answers (the ways to the call's answer).
pub mod Taken
pub mod Rows
pub mod Progress
pub mod Answers
pub mod Call
pub mod Ways
pub mod Unique
