-- The layout of a stored set (document 02, Wishes 6 and 8): tagged fields, of lists with k entries. Tags, lengths and places stand here alone. Definitions only.
use Rattle.std.specs.Prelude.{List, [], ◌∷◌, ◌++◌, ℕ, zero, suc, ◌+◌, ◌*◌, ◌/◌, ◌%◌, length, take, drop, Float}
use Rattle.float32.specs.Bits.{bits_of, float_of}
use Rattle.tables.specs.Degree.{N_COEFF, N_MAX, entries}

-- ---- numbers and lists as bytes
-- the first k bytes of a number, low byte first
abbrev pub low_first : ℕ → ℕ → List ℕ
low_first zero n = []
low_first (suc k) n = n % 256 ∷ low_first k (n / 256)

-- the number of some bytes, low byte first
abbrev pub number : List ℕ → ℕ
number [] = 0
number (b ∷ s) = b + 256 * number s

-- a list: the bits of each entry, in four bytes
unfoldable pub bytes_of : List Float → List ℕ
bytes_of [] = []
bytes_of (x ∷ l) = low_first 4 (bits_of x) ++ bytes_of l

-- the list of k entries with which some bytes begin
unfoldable pub floats_in : ℕ → List ℕ → List Float
floats_in zero s = []
floats_in (suc k) s = float_of (number (take 4 s)) ∷ floats_in k (drop 4 s)

-- ---- the fields
-- the epoch year has two bytes, and a list has four for each of its k entries
abbrev pub YEAR : ℕ
YEAR = 2

abbrev pub list_length : ℕ → ℕ
list_length k = 4 * k

-- the lengths of the contents, by their tags from 1 on: the epoch year, then g, h, g_dot and h_dot
abbrev pub contents_of : ℕ → List ℕ
contents_of k = YEAR ∷ list_length k ∷ list_length k ∷ list_length k ∷ list_length k ∷ []

-- before a content stand its tag, in one byte, and its length, in two
abbrev pub HEAD : ℕ
HEAD = 3

-- how many bytes the fields with these contents take
abbrev pub extent : List ℕ → ℕ
extent [] = 0
extent (n ∷ ns) = HEAD + n + extent ns

-- the whole set: 1457 for lists of 90 entries, 1681 for lists of 104
abbrev pub stored_length : ℕ → ℕ
stored_length k = extent (contents_of k)

-- where the field of tag i + 1 stands, and its content
abbrev pub field_at : ℕ → ℕ → ℕ
field_at k i = extent (take i (contents_of k))

abbrev pub content_at : ℕ → ℕ → ℕ
content_at k i = field_at k i + HEAD

-- the entries of the longer list, that of degree 13: 104
abbrev pub LONGER : ℕ
LONGER = entries N_MAX

-- the length of the form with lists of 90 entries, that of degree 12
abbrev pub STORED : ℕ
STORED = stored_length N_COEFF

-- a field: tag, length, content
abbrev pub field_of : ℕ → List ℕ → List ℕ
field_of tag content = tag ∷ low_first 2 (length content) ++ content

-- fields with these contents, from a tag on
unfoldable pub fields_of : ℕ → List (List ℕ) → List ℕ
fields_of tag [] = []
fields_of tag (content ∷ rest) = field_of tag content ++ fields_of (suc tag) rest
