-- From the two factors to the radius, 6290 to 7275 km, and so to the pair and the ratio. Assumes nothing.
use mathlib.Core.Path.{◌≡◌, refl, sym, ap, ap₂, ◌∙◌, subst}
use Prim.Native.Nat.{ℕ, ◌+◌, ◌*◌, ◌≤◌, ◌<◌}
use native.Mathlib.Nat.{le_trans, mul-pos, mul_comm, mul-le-mul, mul-le-mul_left, mul-le-mul_right, add-le-add}
use native.Mathlib.Omega.{arith}
use mathlib.Core.Bool.{false}
use lib.IntN.{pos}
use lib.Dec.{T, lit≤, lit<}
use lib.Ieee.{Float, fin, binary32, mul, div, of_bits}
use lib.Ieee.Fits.{add-fits}
use lib.Ieee.Positive.{num, den, positive, den_pos}
use lib.Ieee.Scale.{finite}
use Rattle.exact.specs.Tests.{circle}
use Rattle.exact.specs.Exact.{Exact, own, mul_e, add_e}
use Rattle.exact.proofs.Frac.{by_le}
use Rattle.exact.proofs.Reach.{within, near_size}
use Rattle.exact.proofs.Ranks.{Abs, Nr, leaf_a, add_a, mul_a, fine_ok, nr_mul, nr_add}
use Rattle.exact.proofs.Sizes.{AtMost}
use Rattle.exact.proofs.Circle.{circle_leaf}
use Rattle.geocentric.specs.Geo.{wmm_a, squares, length_of, ratio_to}
use Rattle.geocentric.proofs.Fractions.{mk, mk_eq, own_above, Between, of_within, held, leaf_of}
use Rattle.geocentric.proofs.Squares.{square_of_lem, add_plain}
use Rattle.geocentric.proofs.Root.{root}
use Rattle.geocentric.proofs.Steps.{quotient}
use Rattle.geocentric.proofs.Pair.{pair_on_circle}
use Rattle.geocentric.proofs.Lent.{lent}

wmm_is : wmm_a ≡ fin false 49775 (pos 7)
unfolding of_bits
wmm_is = refl

-- ---- p * p, exactly, with q for p's factor
mul_turn : (x y : Exact) → mul_e x y ≡ mul_e y x
unfolding mul_e
mul_turn x y = mk_eq (a x.plus x.minus y.plus y.minus) (b x.plus x.minus y.plus y.minus) (mul_comm x.over y.over)
  where
    a : (p q r s : ℕ) → p * r + q * s ≡ r * p + s * q
    a p q r s = omega arith

    b : (p q r s : ℕ) → p * s + q * r ≡ r * q + s * p
    b p q r s = omega arith

part_exact : (q c : Float) → T (positive q) → mul_e (mul_e (own q) (own c)) (mul_e (own q) (own c)) ≡ mk (num c * num q * (num c * num q)) 0 (den c * den q * (den c * den q))
part_exact q c p =
    ap (λ (e : Exact). mul_e e e) (mul_turn (own q) (own c) ∙ ap (λ (e : Exact). mul_e (own c) e) (own_above q p)) ∙ square_of_lem c (num q) (den q)

abbrev part_a : Abs
part_a = mul_a (leaf_a 7268000) (leaf_a 2)

abbrev both_a : Abs
both_a = add_a (mul_a part_a part_a) (mul_a part_a part_a)

-- ---- A / H and F / C are the squares of the pair, B / I and G / E those of the factors, each K or more, or K or less
weigh_base : (w K H I C E : ℕ) → K * w * (H * I * (C * E)) ≡ K * (I * E) * (w * (C * H))
weigh_base w K H I C E = omega arith

weigh_least : (K I E F H A C : ℕ) → K * (I * E) * (65536 * (F * H + A * C)) ≡ 65536 * (A * (C * E) * (K * I) + F * (H * I) * (K * E))
weigh_least K I E F H A C = omega arith

weigh_sum : (A B C E F G H I : ℕ) → 65536 * (A * (C * E) * B + F * (H * I) * G) ≡ 65536 * (A * B * (C * E) + F * G * (H * I))
weigh_sum A B C E F G H I = omega arith

weighed_low : (K A B C E F G H I : ℕ) → K * I ≤ B → K * E ≤ G → 65535 * (C * H) ≤ 65536 * (F * H + A * C) → K * 65535 * (H * I * (C * E)) ≤ 65536 * (A * B * (C * E) + F * G * (H * I))
weighed_low K A B C E F G H I b g h =
    le_trans (by_le (mul-le-mul_left (K * (I * E)) h) (weigh_base 65535 K H I C E) (weigh_least K I E F H A C))
    (by_le (mul-le-mul_left 65536 (add-le-add (mul-le-mul_left (A * (C * E)) b) (mul-le-mul_left (F * (H * I)) g))) refl (weigh_sum A B C E F G H I))

weighed_high : (K A B C E F G H I : ℕ) → B ≤ K * I → G ≤ K * E → 65536 * (F * H + A * C) ≤ 65537 * (C * H) → 65536 * (A * B * (C * E) + F * G * (H * I)) ≤ K * 65537 * (H * I * (C * E))
weighed_high K A B C E F G H I b g h =
    le_trans (by_le (mul-le-mul_left 65536 (add-le-add (mul-le-mul_left (A * (C * E)) b) (mul-le-mul_left (F * (H * I)) g))) (sym (weigh_sum A B C E F G H I)) (sym (weigh_least K I E F H A C)))
    (by_le (mul-le-mul_left (K * (I * E)) h) refl (sym (weigh_base 65537 K H I C E)))

square_sides : (k d : ℕ) → k * d * (k * d) ≡ k * k * (d * d)
square_sides k d = omega arith

square_left : (n : ℕ) → n * 1 * (n * 1) ≡ n * n
square_left n = omega arith

square_low : (k n d : ℕ) → k * d ≤ n * 1 → k * k * (d * d) ≤ n * n
square_low k n d h = by_le (mul-le-mul h h) (sym (square_sides k d)) (square_left n)

square_high : (k n d : ℕ) → n * 1 ≤ k * d → n * n ≤ k * k * (d * d)
square_high k n d h = by_le (mul-le-mul h h) (sym (square_left n)) (square_sides k d)

module _ (q w s c : Float) (bq : Between 6326000 7268000 1 q) (bw : Between 6326000 7268000 1 w) (o : T (circle s c)) where
  abbrev p : Float
  p = mul binary32 q c

  abbrev z : Float
  z = mul binary32 w s

  np : Nr part_a p (mul_e (own q) (own c))
  np = nr_mul (leaf_of 6326000 7268000 q bq) (circle_leaf s c o).1 (fine_ok part_a tt)

  nz : Nr part_a z (mul_e (own w) (own s))
  nz = nr_mul (leaf_of 6326000 7268000 w bw) (circle_leaf s c o).0 (fine_ok part_a tt)

  abbrev P : ℕ
  P = num c * num q * (num c * num q) * (den s * den w * (den s * den w)) + num s * num w * (num s * num w) * (den c * den q * (den c * den q))

  abbrev O : ℕ
  O = den c * den q * (den c * den q) * (den s * den w * (den s * den w))

  nx : Nr both_a (squares p z) (mk P 0 O)
  nx =
      subst (λ (e : Exact). Nr both_a (squares p z) e)
      (ap₂ add_e (part_exact q c bq.above) (part_exact w s bw.above) ∙ add_plain (num c * num q * (num c * num q)) (den c * den q * (den c * den q)) (num s * num w * (num s * num w)) (den s * den w * (den s * den w)))
      (nr_add (nr_mul np np (fine_ok (mul_a part_a part_a) tt)) (nr_mul nz nz (fine_ok (mul_a part_a part_a) tt)) (fine_ok both_a tt))

  low_x : 40018276000000 * 65535 * O ≤ 65536 * P
  low_x =
      rw (square_sides (num c) (num q), square_sides (num s) (num w), square_sides (den c) (den q), square_sides (den s) (den w))
      (weighed_low 40018276000000 (num c * num c) (num q * num q) (den s * den s) (den w * den w) (num s * num s) (num w * num w) (den c * den c) (den q * den q)
      (square_low 6326000 (num q) (den q) bq.low) (square_low 6326000 (num w) (den w) bw.low) (lent s c o).least)

  high_x : 65536 * P ≤ 52823824000000 * 65537 * O
  high_x =
      rw (square_sides (num c) (num q), square_sides (num s) (num w), square_sides (den c) (den q), square_sides (den s) (den w))
      (weighed_high 52823824000000 (num c * num c) (num q * num q) (den s * den s) (den w * den w) (num s * num s) (num w * num w) (den c * den c) (den q * den q)
      (square_high 7268000 (num q) (den q) bq.high) (square_high 7268000 (num w) (den w) bw.high) (lent s c o).most)

  O_pos : 0 < O
  O_pos = mul-pos (mul-pos (mul-pos (den_pos c) (den_pos q)) (mul-pos (den_pos c) (den_pos q))) (mul-pos (mul-pos (den_pos s) (den_pos w)) (mul-pos (den_pos s) (den_pos w)))

  squares_between : Between 39600000000000 52900000000000 1 (squares p z)
  squares_between = of_within 39600000000000 52900000000000 1 (squares p z) (mk P 0 O) (lit< tt) O_pos (within nx (lit≤ tt) (lit≤ tt)) (a P O low_x) (b P O high_x)
    where
      a : (n d : ℕ) → 40018276000000 * 65535 * d ≤ 65536 * n → 39600000000000 * 1048576 * d + 1 * (8 * (n + 0) + d) + 1 * 1048576 * 0 ≤ 1 * 1048576 * n
      a n d h = omega arith

      b : (n d : ℕ) → 65536 * n ≤ 52823824000000 * 65537 * d → 1 * 1048576 * n + 1 * (8 * (n + 0) + d) ≤ 52900000000000 * 1048576 * d + 1 * 1048576 * 0
      b n d h = omega arith

  pub radius_between : Between 6290000 7275000 1 (length_of p z)
  radius_between = root 39600000000000 52900000000000 1 6290000 7275000 1 (squares p z) (add-fits binary32 (mul binary32 p p) (mul binary32 z z)) squares_between (lit< tt) (lit< tt) (lit≤ tt) (lit≤ tt)

  small : {f : Float} {x : Exact} → Nr part_a f x → T (finite f) × AtMost 67108864 f
  small {f} {x} n =
      let k = near_size n (fine_ok part_a tt) in
      (k.0, le_trans k.1 (mul-le-mul_right (own f).over (lit≤ tt)))

  pub cylinder_finite : T (finite p)
  cylinder_finite = (small np).0

  pub pair_circle : T (circle (div binary32 p (length_of p z)) (div binary32 z (length_of p z)))
  pair_circle = pair_on_circle p z (small np).0 (small nz).0 (small np).1 (small nz).1 squares_between.above (go (num (squares p z)) (den (squares p z)) squares_between.low)
    where
      go : (n d : ℕ) → 39600000000000 * d ≤ n * 1 → d ≤ n
      go n d h = omega arith

  pub ratio_between : Between 56 65 64 (ratio_to (length_of p z))
  unfolding held
  ratio_between =
      let r = length_of p z in
      let w = radius_between in
      subst (λ (e : Float). Between 56 65 64 (div binary32 e r)) (sym wmm_is)
      (quotient 56 65 64 (fin false 49775 (pos 7)) r tt w.above tt tt (lit< tt) (a (num r) (den r) w.high) (b (num r) (den r) w.low))
    where
      a : (n d : ℕ) → n * 1 ≤ 7275000 * d → 56 * (n * 1) ≤ 49775 * 128 * d * 64
      a n d h = omega arith

      b : (n d : ℕ) → 6290000 * d ≤ n * 1 → 49775 * 128 * d * 64 ≤ 65 * (n * 1)
      b n d h = omega arith
