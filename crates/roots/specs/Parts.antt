-- What the functions of `src/root.rt` promise each other. Definitions only; no entry's contract cites them.
use Rattle.std.specs.Prelude.{ℕ, ◌+◌, ◌*◌, ◌/◌, ◌%◌, ◌^◌, ◌≤◌, ◌<◌, ◌≡◌, if◌then◌else◌, ◌==◌}
use Rattle.roots.specs.Root.{nearest_root}

-- q is the whole number nearest to the root of n: q - 1/2 < √n < q + 1/2, each side squared. (n is whole, so it is never q * q + q + 1/4.) And q has 24 binary digits.
pub record Nearest (n q : ℕ) : Type 0 where
  pub least : 2 ^ 23 ≤ q
  pub most : q < 2 ^ 24
  pub above : q * q < n + q
  pub below : n ≤ q * q + q

-- t units of 2 ^ -149 are m * 2 ^ (f - 65) of them, that is m * 2 ^ (f - 214), and m has 24 digits
pub record Lifted (t m f : ℕ) : Type 0 where
  pub least : 2 ^ 23 ≤ m
  pub most : m < 2 ^ 24
  pub from : 42 ≤ f
  pub to : f ≤ 318
  pub same : t * 2 ^ 65 ≡ m * 2 ^ f

-- m with as many places after it that an even exponent is left and the root has 24 digits
abbrev pub spread : ℕ → ℕ → ℕ
spread m f = if f % 2 == 0 then m * 2 ^ 24 else m * 2 ^ 23

-- the root's exponent, in units
abbrev pub shift : ℕ → ℕ
shift f = (f + 1) / 2 + 30

-- r is the bit pattern of the root of m * 2 ^ (f - 214)
pub record Packed (m f r : ℕ) : Type 0 where
  pub near : Nearest (spread m f) (nearest_root (spread m f))
  pub is : r ≡ shift f * 2 ^ 23 + nearest_root (spread m f)
