-- A stored set that is read, and one that is written (document 02, Wishes 6 and 8). Definitions only.
use Rattle.std.specs.Prelude.{◌≡◌, Bool, false, cond, ◌&&◌, List, [], ◌∷◌, ◌++◌, ℕ, suc, ◌+◌, eqb, leb, ltb, ℤ, pos, negsuc, nat_abs, length, get_or, take, drop, Float, Ok, Err}
use Rattle.refusals.specs.Paper.{Verdict, accepted, Paper, answered, told, check, both}
use Rattle.refusals.specs.declared.Refusal.TheVariants.{WrongTag, WrongLength, WrongEnd, NoRoom, Degree}
use Rattle.tables.specs.Degree.{N_COEFF}
use Rattle.lists.specs.Lists.{lengths_verdict, lists_verdict, ninety_verdict}
use Rattle.lists.specs.Sets.{Left, Lists, ModelSet, afterwards, lists_of, read_into, set_verdict}
use Rattle.stored.specs.Layout.{HEAD, LONGER, STORED, YEAR, bytes_of, content_at, contents_of, field_at, fields_of, floats_in, list_length, low_first, number, stored_length}

-- each of the four lists has k entries
abbrev pub Each : ℕ → Lists → Type 0
Each k l = (length l.g ≡ k) × (length l.h ≡ k) × (length l.g_dot ≡ k) × (length l.h_dot ≡ k)

-- ---- reading
-- a field at a place of the bytes s, of this tag and this length: tag, length and content, each behind the test that the bytes reach so far
abbrev pub field_verdict : ℕ → ℕ → ℕ → List ℕ → Verdict
field_verdict tag n at s =
    check (ltb at (length s)) (WrongEnd (length s))
    (check (eqb (get_or s at 0) tag) (WrongTag at)
    (check (leb (at + HEAD) (length s)) (WrongEnd (length s))
    (check (eqb (number (take 2 (drop (at + 1) s))) n) (WrongLength (at + 1))
    (check (leb (at + HEAD + n) (length s)) (WrongEnd (length s)) accepted))))

-- fields with these contents, from a tag and a place on, and nothing after them
unfoldable pub fields_verdict : List ℕ → ℕ → ℕ → List ℕ → Verdict
fields_verdict [] tag at s = check (leb (length s) at) (WrongEnd at) accepted
fields_verdict (n ∷ ns) tag at s = both (field_verdict tag n at s) (fields_verdict ns (suc tag) (at + HEAD + n) s)

-- 17, 18 and 19, of the form with k entries in each list
abbrev pub frame_of : ℕ → List ℕ → Verdict
frame_of k s = fields_verdict (contents_of k) 1 0 s

-- the set that stands in the bytes
abbrev pub year_in : List ℕ → ℕ
year_in s = number (take YEAR (drop (content_at N_COEFF 0) s))

abbrev pub list_of : ℕ → ℕ → List ℕ → List Float
list_of k i s = floats_in k (drop (content_at k i) s)

abbrev pub set_of : ℕ → List ℕ → ModelSet
set_of k s = record { year = pos (year_in s); lists = lists_of (list_of k 1 s) (list_of k 2 s) (list_of k 3 s) (list_of k 4 s) }

-- 17, 18 and 19, then 7
unfoldable pub verdict_of : ℕ → List ℕ → Verdict
verdict_of k s = both (frame_of k s) (set_verdict (set_of k s).lists)

unfoldable pub says_of : ℕ → List ℕ → Paper ModelSet
says_of k s = told (verdict_of k s) (answered (set_of k s))

-- ---- reading lists of 90 entries
abbrev pub frame_verdict : List ℕ → Verdict
frame_verdict s = frame_of N_COEFF s

abbrev pub set_in : List ℕ → ModelSet
set_in s = set_of N_COEFF s

abbrev pub stored_verdict : List ℕ → Verdict
stored_verdict s = verdict_of N_COEFF s

unfoldable pub stored_says : List ℕ → Paper ModelSet
unfolding says_of
stored_says s = says_of N_COEFF s

-- 6, then the bytes
abbrev pub read_of : List ℕ → Lists → Left
read_of s held = read_into (stored_says s) held

-- ---- reading lists of either length
-- the entries of a stored list: 104 where tag 2's length, which stands at the same place in both forms, is that of so many, else 90. Bytes that end before it are refused before it is asked for
unfoldable pub entries_in : List ℕ → ℕ
entries_in s =
    cond (leb (content_at N_COEFF 1) (length s) && eqb (number (take 2 (drop (field_at N_COEFF 1 + 1) s))) (list_length LONGER)) LONGER N_COEFF

-- 17, 18 and 19 of that form; then 23, where the output lists have n entries and the stored ones have not
unfoldable pub form_verdict : ℕ → List ℕ → Verdict
form_verdict n s = both (frame_of (entries_in s) s) (check (eqb n (entries_in s)) Degree accepted)

-- 6 and 23 of the output lists, then those of the bytes, then 7
unfoldable pub either_verdict : List ℕ → Lists → Verdict
either_verdict s held =
    both (lengths_verdict held.g held.h held.g_dot held.h_dot) (both (form_verdict (length held.g) s) (set_verdict (set_of (entries_in s) s).lists))

abbrev pub read_either_of : List ℕ → Lists → Left
read_either_of s held = afterwards (told (either_verdict s held) (answered (set_of (entries_in s) s))) held

-- ---- writing
-- the bytes of a set
abbrev pub stored_of : ℕ → Lists → List ℕ
stored_of year l = fields_of 1 (low_first YEAR year ∷ bytes_of l.g ∷ bytes_of l.h ∷ bytes_of l.g_dot ∷ bytes_of l.h_dot ∷ [])

-- 0 to 65,535
abbrev pub storable : ℤ → Bool
storable (pos n) = leb n 65535
storable (negsuc n) = false

-- 20: an epoch year that two bytes do not hold, or an output that is too short for lists of k entries
abbrev pub room_verdict : ℕ → ℤ → ℕ → Verdict
room_verdict k year room = check (storable year && leb (stored_length k) room) NoRoom accepted

-- what a writer leaves: what it found, and the bytes
pub record Written : Type 0 where
  pub found : Verdict
  pub bytes : List ℕ

abbrev pub written : Verdict → List ℕ → Written
written v s = record { found = v; bytes = s }

-- a set that is written, of n bytes, goes before the bytes that it leaves; a refusal leaves all of them
abbrev pub wrote : ℕ → Verdict → List ℕ → List ℕ → Written
wrote n (Ok _) s held = written accepted (s ++ drop n held)
wrote n (Err k) s held = written (Err k) held

-- lists of 90 entries: 6 and 7, then 20
unfoldable pub write_verdict : ℤ → Lists → ℕ → Verdict
write_verdict year l room = both (ninety_verdict l.g l.h l.g_dot l.h_dot) (room_verdict N_COEFF year room)

abbrev pub write_of : ℤ → Lists → List ℕ → Written
write_of year l held = wrote STORED (write_verdict year l (length held)) (stored_of (nat_abs year) l) held

-- lists of either length: 6, 23 and 7, then 20
unfoldable pub write_either_verdict : ℤ → Lists → ℕ → Verdict
write_either_verdict year l room = both (lists_verdict l.g l.h l.g_dot l.h_dot) (room_verdict (length l.g) year room)

abbrev pub write_either_of : ℤ → Lists → List ℕ → Written
write_either_of year l held = wrote (stored_length (length l.g)) (write_either_verdict year l (length held)) (stored_of (nat_abs year) l) held
