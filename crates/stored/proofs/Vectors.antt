-- Worked examples of the layout and of its refusals, by hand. They compute. Assumes nothing.
use mathlib.Core.Path.{◌≡◌, refl}
use mathlib.Core.List.{[], ◌∷◌}
use lib.Ieee.{binary32, of_bits, to_bits}
use Rattle.std.specs.Prelude.{Err}
use Rattle.refusals.specs.Paper.{}
use Rattle.refusals.specs.declared.Refusal.TheVariants.{WrongTag, WrongLength, WrongEnd}
use Rattle.tables.specs.Degree.{N_COEFF}
use Rattle.stored.specs.Layout.{LONGER, STORED, bytes_of, content_at, field_at, low_first, number, stored_length}
use Rattle.stored.specs.Stored.{entries_in, fields_verdict, frame_of, frame_verdict}

-- 1,457 bytes, and where the fields of the lists and the last content stand
whole : STORED ≡ 1457
whole = refl

places : ◌≡◌ (field_at N_COEFF 1 ∷ field_at N_COEFF 2 ∷ field_at N_COEFF 3 ∷ field_at N_COEFF 4 ∷ content_at N_COEFF 4 ∷ []) (5 ∷ 368 ∷ 731 ∷ 1094 ∷ 1097 ∷ [])
places = refl

-- 1,681 bytes with lists of 104 entries
longer : stored_length LONGER ≡ 1681
longer = refl

longer_places : ◌≡◌ (field_at LONGER 1 ∷ field_at LONGER 2 ∷ field_at LONGER 3 ∷ field_at LONGER 4 ∷ content_at LONGER 4 ∷ []) (5 ∷ 424 ∷ 843 ∷ 1262 ∷ 1265 ∷ [])
longer_places = refl

-- 2025 in two bytes, and back
year : low_first 2 2025 ≡ 233 ∷ 7 ∷ []
year = refl

year_back : number (233 ∷ 7 ∷ []) ≡ 2025
year_back = refl

-- -0, and the smallest subnormal
minus_zero : bytes_of (of_bits binary32 0x80000000 ∷ of_bits binary32 1 ∷ []) ≡ 0 ∷ 0 ∷ 0 ∷ 128 ∷ 1 ∷ 0 ∷ 0 ∷ 0 ∷ []
unfolding bytes_of of_bits to_bits
minus_zero = refl

-- no byte; another tag; no second byte of the length; another length; a content cut short; a tag that comes again
nothing : frame_verdict [] ≡ Err (WrongEnd 0)
unfolding fields_verdict
nothing = refl

list_first : frame_verdict (2 ∷ []) ≡ Err (WrongTag 0)
unfolding fields_verdict
list_first = refl

half_a_length : frame_verdict (1 ∷ 2 ∷ []) ≡ Err (WrongEnd 2)
unfolding fields_verdict
half_a_length = refl

high_byte_first : frame_verdict (1 ∷ 0 ∷ 2 ∷ 233 ∷ 7 ∷ []) ≡ Err (WrongLength 1)
unfolding fields_verdict
high_byte_first = refl

half_a_year : frame_verdict (1 ∷ 2 ∷ 0 ∷ 233 ∷ []) ≡ Err (WrongEnd 4)
unfolding fields_verdict
half_a_year = refl

year_again : frame_verdict (1 ∷ 2 ∷ 0 ∷ 233 ∷ 7 ∷ 1 ∷ 2 ∷ 0 ∷ 233 ∷ 7 ∷ []) ≡ Err (WrongTag 5)
unfolding fields_verdict
year_again = refl

-- the longer lists of Wish 8: the reader of either form goes on, and a length of neither form is met by it too
longer_list : frame_verdict (1 ∷ 2 ∷ 0 ∷ 233 ∷ 7 ∷ 2 ∷ 160 ∷ 1 ∷ []) ≡ Err (WrongLength 6)
unfolding fields_verdict
longer_list = refl

longer_taken : frame_of (entries_in (1 ∷ 2 ∷ 0 ∷ 233 ∷ 7 ∷ 2 ∷ 160 ∷ 1 ∷ [])) (1 ∷ 2 ∷ 0 ∷ 233 ∷ 7 ∷ 2 ∷ 160 ∷ 1 ∷ []) ≡ Err (WrongEnd 8)
unfolding entries_in fields_verdict
longer_taken = refl

neither_form : frame_of (entries_in (1 ∷ 2 ∷ 0 ∷ 233 ∷ 7 ∷ 2 ∷ 161 ∷ 1 ∷ [])) (1 ∷ 2 ∷ 0 ∷ 233 ∷ 7 ∷ 2 ∷ 161 ∷ 1 ∷ []) ≡ Err (WrongLength 6)
unfolding entries_in fields_verdict
neither_form = refl
