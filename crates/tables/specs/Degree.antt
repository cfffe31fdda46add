-- The degrees, and the places of the lists and tables. Definitions only.
use Rattle.std.specs.Prelude.{ℕ, ◌+◌, ◌*◌, ◌/◌, if◌then◌else◌, ◌==◌}

-- the highest degree: that of IGRF (N_MAX)
abbrev pub N_MAX : ℕ
N_MAX = 13

-- the degree of the WMM, and of the source's tables
abbrev pub WMM_MAX : ℕ
WMM_MAX = 12

-- the orders of a row (M_LEN)
abbrev pub M_LEN : ℕ
M_LEN = N_MAX + 1

-- the places of a table (N_LEGENDRE)
abbrev pub N_LEGENDRE : ℕ
N_LEGENDRE = (N_MAX + 1) * (N_MAX + 2) / 2

-- the entries of a list of degree N: 90 of degree 12, 104 of degree 13
abbrev pub entries : ℕ → ℕ
entries N = N * (N + 3) / 2

-- the entries of the WMM's list (N_COEFF)
abbrev pub N_COEFF : ℕ
N_COEFF = entries WMM_MAX

-- the degree of a list of k entries: 13 if they are 104, else 12
unfoldable pub degree_of : ℕ → ℕ
degree_of k = if k == entries N_MAX then N_MAX else WMM_MAX

-- the place of degree n and order m in a table
abbrev pub place : ℕ → ℕ → ℕ
place n m = n * (n + 1) / 2 + m
