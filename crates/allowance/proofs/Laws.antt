-- What is shown for X, Y and Z of Field covers the allowance of demand 3, for every accepted input.
use mathlib.Core.Path.{◌≡◌, sym, subst}
use Prim.Native.Nat.{◌+◌, ◌*◌, ◌^◌, ◌≤◌, ◌<◌}
use native.Mathlib.Nat.{add-zero}
use lib.Dec.{lit≤}
use lib.Ieee.{Float}
use Rattle.exact.specs.Exact.{Exact, Size}
use Rattle.exact.proofs.Near.{weaken}
use Rattle.exact.proofs.Ranks.{Nr}
use Rattle.models.specs.declared.epochs.EpochOffset.{EpochOffset}
use Rattle.sums.specs.Arithmetic.{sizes}
use Rattle.sums.proofs.Terms.{ang_s, leg_s, pow_s}
use Rattle.sums.proofs.Near.{acc_a, east_a}
use Rattle.field.proofs.Ceiling.{field_y_size, resized}
use Rattle.lists.proofs.Checked.{Listed}
use Rattle.field.specs.Field.{FieldAccepted, Asked, field_x, field_y, field_z}
use Rattle.field.proofs.TurnNear.{turned_a}
use Rattle.field.proofs.Laws.{field_x_image, field_x_near, field_y_image, field_y_near, field_z_image, field_z_near}
use Rattle.bounds.specs.Bounds.{Covers, absolutes, allowed, bounds}
use Rattle.allowance.specs.Allowance.{Covered, allowances_of}
use Rattle.bounds.proofs.Kept.{bounds_keep}
use Rattle.bounds.proofs.Wholly.{wholly, wholly_hom}
use Rattle.bounds.proofs.Shown.{covers, top_a}

-- ---- a float near the exact size of a majorant M
-- as near as a component that is turned
pub turned_covers : (b : Float) (x : Exact) (M : Size) → wholly M ≡ x → Nr turned_a b x → Covers (allowed b) M
unfolding acc_a leg_s ang_s pow_s
turned_covers b x M e m = covers b M (subst (λ (y : Exact). Nr top_a b y) (sym e) (weaken (lit≤ tt) (lit≤ tt) (lit≤ tt) m))

-- as near as Y, where M is at most 2 ^ 60
pub east_covers : (b : Float) (x : Exact) (M : Size) → wholly M ≡ x → Nr east_a b x → (0 < M.over → M.num ≤ 2 ^ 60 * M.over) → Covers (allowed b) M
unfolding acc_a leg_s ang_s pow_s
east_covers b x M e m h =
    let n : Nr east_a b (wholly M) = subst (λ (y : Exact). Nr east_a b y) (sym e) m in
    let s : M.num + 0 ≤ 2 ^ 60 * M.over = rw add-zero (h n.close.over) in
    covers b M (weaken (lit≤ tt) (lit≤ tt) (lit≤ tt) (resized (2 ^ 60) n s))

-- ---- of Field
module _ (a : Asked) (e : EpochOffset) (w : FieldAccepted a e) (l : Listed a.g a.h a.g_dot a.h_dot) where
  pub covers_x : Covers (allowed (field_x bounds a e)) (field_x sizes a e)
  covers_x = turned_covers (field_x bounds a e) (field_x absolutes a e) (field_x sizes a e) (field_x_image wholly_hom a e) (field_x_near a e w l bounds_keep)

  pub covers_y : Covers (allowed (field_y bounds a e)) (field_y sizes a e)
  covers_y = east_covers (field_y bounds a e) (field_y absolutes a e) (field_y sizes a e) (field_y_image wholly_hom a e) (field_y_near a e w l bounds_keep) (field_y_size a e w l)

  pub covers_z : Covers (allowed (field_z bounds a e)) (field_z sizes a e)
  covers_z = turned_covers (field_z bounds a e) (field_z absolutes a e) (field_z sizes a e) (field_z_image wholly_hom a e) (field_z_near a e w l bounds_keep)

  pub covered : Covered a e (allowances_of a e)
  covered = record { x = covers_x; y = covers_y; z = covers_z }
