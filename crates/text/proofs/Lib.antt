-- Laws that other crates cite: `Firsts` (the first line and the first word), `Numbers`, `Bounds`, `Unique`. `Places` leads from the places that the
-- code finds to the first line and the first word; `Scanned` and `Digits` lead from a scan to the number of a word, `Rounded` to its nearest f32, `Wholes` to
-- a whole number. `Ways` has the ways by places, and to the answers of the calls. `Parts` leads from what is lent of a line or a word to its places.
mod Places
pub mod Firsts
mod Scanned
mod Signed
mod Digits
pub mod Bounds
mod Rounded
mod Wholes
pub mod Ways
mod DecimalVectors
pub mod Numbers
pub mod Unique
mod Parts
